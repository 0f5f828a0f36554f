-- What a script has sent of each coefficient is what its levels say: a scan that is legal by coefficients is legal
-- by levels, and the levels after it are those of the coefficients.
use Rattle.std.proofs.Common.{rules, ◌≡◌, ◌≢◌, ◌⊎◌, inl, inr, ℕ, zero, suc, ◌+◌, ◌-◌, ◌<◌, ◌≤◌, ◌==◌, Bool, true, false}
use Rattle.std.proofs.Common.{List, [], ◌∷◌, ◌++◌, map, take, drop, replicate, length, Option, Some, None, refl, sym}
use Rattle.std.proofs.Common.{ap, ap₂, subst, ◌∙◌, arith, ◌&&◌, ◌||◌}
use Rattle.std.specs.Prelude.{if◌then◌else◌, nat_le}
use Rattle.std.proofs.lemmas.Bool.{eq-eqb, eqb-false, eqb-true, le-leb, ne_eqb}
use Rattle.jpeg_meaning.proofs.Order.Apart.{map-same}
use Rattle.std.proofs.lemmas.Bool.Decides.{leb_tells, nat_tests}
use Rattle.std.specs.List.{AllByRecursion, list_any, range_with_len}
use Rattle.jpeg_bits.specs.Passes.{band_of, band_size, before_band, Pass}
use Rattle.jpeg_segments.specs.Frame.{Frame}
use Rattle.jpeg_segments.specs.ScanHeader.{after_of, is_band, scan_of}
use Rattle.jpeg_segments.specs.ScanHeaders.{IsScan, scan_written, ScanHeader}
use Rattle.jpeg_segments.specs.declared.frame.CodingProcess.{CodingProcess}
use Rattle.jpeg_segments.specs.declared.frame.CodingProcess.TheVariants.{DctProgressive, DctSequential, Lossless}
use Rattle.jpeg_segments.proofs.Fields.{nibbles-high, nibbles-low}
use Rattle.jpeg_meaning.specs.Levels.{IsLegal, Levels, nothing_sent, sent_after}
use Rattle.jpeg_meaning.specs.ScanSegments.{pass_of}
use Rattle.jpeg_meaning.specs.Scripts.{Allows, AreLevelsOf, indices_in, last_in, none_sent, sent_after_scan, SentLevels}
use Rattle.jpeg_meaning.specs.WrittenScans.{IsComplete, levels_after, levels_of_one}
use Rattle.jpeg_meaning.proofs.Written.BroughtLevels.{eqb_cases}

-- ---- lists of levels

take-all : (f : ℕ → Option ℕ) (P : Option ℕ → Type 0) (n s m : ℕ)
    → ((k : ℕ) → s ≤ k → k < s + n → P (f k)) → AllByRecursion P (take n (map f (range_with_len s m)))
take-all f P zero s m h = tt
take-all f P (suc n) s zero h = tt
take-all f P (suc n) s (suc m) h =
    (h s (omega arith) (omega arith), take-all f P n (s + 1) m (λ k a b. h k (omega arith) (omega arith)))

band-all : (f : ℕ → Option ℕ) (P : Option ℕ → Type 0) (n b s m : ℕ)
    → ((k : ℕ) → s + b ≤ k → k < s + b + n → P (f k)) → AllByRecursion P (take n (drop b (map f (range_with_len s m))))
band-all f P n zero s m h = take-all f P n s m (λ k a b. h k (omega arith) (omega arith))
band-all f P zero (suc b) s zero h = tt
band-all f P (suc n) (suc b) s zero h = tt
band-all f P n (suc b) s (suc m) h = band-all f P n b (s + 1) m (λ k c d. h k (omega arith) (omega arith))

drop-nil : (n : ℕ) → drop {A = Option ℕ} n [] ≡ []
drop-nil zero = refl
drop-nil (suc n) = refl

take-nil : (n : ℕ) → take {A = Option ℕ} n [] ≡ []
take-nil zero = refl
take-nil (suc n) = refl

-- what is put in place of a band
record Puts (f g : ℕ → Option ℕ) (x : Option ℕ) (s b n : ℕ) : Type 0 where
  before : (k : ℕ) → s ≤ k → k < s + b → g k ≡ f k
  inside : (k : ℕ) → s + b ≤ k → k < s + b + n → g k ≡ x
  past : (k : ℕ) → s + b + n ≤ k → g k ≡ f k

abbrev put_in : Option ℕ → ℕ → ℕ → ℕ → List (Option ℕ) → List (Option ℕ)
put_in x b n d xs = take b xs ++ (replicate (length (take n (drop b xs))) x ++ drop d xs)

put-same : (f g : ℕ → Option ℕ) (x : Option ℕ) (m s b n d : ℕ) → d ≡ b + n → Puts f g x s b n
    → put_in x b n d (map f (range_with_len s m)) ≡ map g (range_with_len s m)
put-same f g x zero s b n d e h = rw (take-nil b, drop-nil b, take-nil n, drop-nil d) refl
put-same f g x (suc m) s zero zero zero e h =
    ap₂ (λ (y : Option ℕ) (ys : List (Option ℕ)). y ∷ ys) (sym (h.past s (omega arith)))
    (put-same f g x m (s + 1) zero zero zero refl (record {
      before = λ k a c. absurd (omega arith);
      inside = λ k a c. absurd (omega arith);
      past = λ k a. h.past k (omega arith);
    }))
put-same f g x (suc m) s zero (suc n) (suc d) e h =
    ap₂ (λ (y : Option ℕ) (ys : List (Option ℕ)). y ∷ ys) (sym (h.inside s (omega arith) (omega arith)))
    (put-same f g x m (s + 1) zero n d (omega arith) (record {
      before = λ k a c. absurd (omega arith);
      inside = λ k a c. h.inside k (omega arith) (omega arith);
      past = λ k a. h.past k (omega arith);
    }))
put-same f g x (suc m) s (suc b) n (suc d) e h =
    ap₂ (λ (y : Option ℕ) (ys : List (Option ℕ)). y ∷ ys) (sym (h.before s (omega arith) (omega arith)))
    (put-same f g x m (s + 1) b n d (omega arith) (record {
      before = λ k a c. h.before k (omega arith) (omega arith);
      inside = λ k a c. h.inside k (omega arith) (omega arith);
      past = λ k a. h.past k (omega arith);
    }))
put-same f g x m s b n d e h = absurd (omega arith)

-- ---- the pass of a header

abbrev pass_by : CodingProcess → ScanHeader → Pass
pass_by process h = record { is_first = h.high == 0; ss = h.first; se = last_in process h; al = h.low }

last-is : (process : CodingProcess) (h : ScanHeader) → after_of process h.last - 1 ≡ last_in process h
last-is DctSequential h = refl
last-is DctProgressive h = omega arith
last-is Lossless h = omega arith

pub pass-by : (frame : Frame) (h : ScanHeader) → h.low < 16 → pass_of (scan_written frame h) ≡ pass_by frame.process h
unfolding pass_of scan_of
pass-by frame h low = rw (nibbles-high h.high h.low low, nibbles-low h.high h.low low, last-is frame.process h) refl

one-lower : (process : CodingProcess) (count first last high low : ℕ) → is_band process count first last high low ≡ true
    → high ≢ 0 → high ≡ suc low
one-lower process count first last high low e ne = grind (arith, nat_tests)

-- ---- legal scans

is-false : (a b : ℕ) → a ≢ b → (a == b) ≡ false
is-false a b ne = ne_eqb a b ne

pub legal-by : (process : CodingProcess) (count : ℕ) (h : ScanHeader) (sent : ℕ → Option ℕ) (l : Levels)
    → is_band process count h.first h.last h.high h.low ≡ true → Allows process h sent → AreLevelsOf sent l
    → IsLegal (pass_by process h) l
legal-by process count h sent l band allows are = record {
  low = allows.low;
  dc_unsent = λ s f. are.dc ∙ allows.first (eqb-true h.high 0 f) 0 (omega arith) (omega arith);
  dc_sent = λ s f. let ne = eqb-false h.high 0 f in
      are.dc ∙ (allows.refined ne 0 (omega arith) (omega arith)
      ∙ ap (λ (n : ℕ). Some n) (one-lower process count h.first h.last h.high h.low band ne));
  dc_before = λ s e. allows.after_dc s (sym are.dc ∙ e);
  acs_unsent = λ f. subst (λ (ls : List (Option ℕ)). AllByRecursion (λ x. x ≡ None) (band_of (pass_by process h) ls))
      (sym are.acs)
      (band-all sent (λ x. x ≡ None) (band_size (pass_by process h)) (before_band (pass_by process h)) 1 63
      (λ k a b. allows.first (eqb-true h.high 0 f) k (omega arith) (omega arith)));
  acs_sent = λ f. let ne = eqb-false h.high 0 f in
      subst (λ (ls : List (Option ℕ)). AllByRecursion (λ x. x ≡ Some (suc h.low)) (band_of (pass_by process h) ls))
      (sym are.acs)
      (band-all sent (λ x. x ≡ Some (suc h.low)) (band_size (pass_by process h)) (before_band (pass_by process h)) 1 63
      (λ k a b. allows.refined ne k (omega arith) (omega arith)
      ∙ ap (λ (n : ℕ). Some n) (one-lower process count h.first h.last h.high h.low band ne)));
}

-- ---- levels after a scan

abbrev pub in_band : CodingProcess → ScanHeader → ℕ → Bool
in_band process h k = nat_le h.first k && nat_le k (last_in process h)

-- of one component
abbrev pub after_one : CodingProcess → ScanHeader → (ℕ → Option ℕ) → ℕ → Option ℕ
after_one process h sent k = if in_band process h k then Some h.low else sent k

pub is-in : (process : CodingProcess) (h : ScanHeader) (sent : ℕ → Option ℕ) (k : ℕ) → h.first ≤ k → k ≤ last_in process h
    → after_one process h sent k ≡ Some h.low
is-in process h sent k a b = rw (le-leb h.first k a, le-leb k (last_in process h) b) refl

below : (process : CodingProcess) (h : ScanHeader) (sent : ℕ → Option ℕ) (k : ℕ) → k < h.first
    → after_one process h sent k ≡ sent k
below process h sent k a = search (rules, leb_tells)

above : (process : CodingProcess) (h : ScanHeader) (sent : ℕ → Option ℕ) (k : ℕ) → last_in process h < k
    → after_one process h sent k ≡ sent k
above process h sent k a = go (nat_le h.first k) refl
  where
    e : nat_le k (last_in process h) ≡ false
    e = search (rules, leb_tells)

    go : (b : Bool) → nat_le h.first k ≡ b → after_one process h sent k ≡ sent k
    go true f = rw (f, e) refl
    go false f = rw f refl

one-after : (process : CodingProcess) (h : ScanHeader) (sent : ℕ → Option ℕ) (l : Levels) → AreLevelsOf sent l
    → AreLevelsOf (after_one process h sent) (sent_after (pass_by process h) l)
one-after process h sent l are =
    let p = pass_by process h in
    record {
      dc = dc-at (eqb_cases h.first 0);
      acs = ap (λ (ls : List (Option ℕ)). put_in (Some h.low) (before_band p) (band_size p) (before_band p + band_size p) ls)
          are.acs
          ∙ put-same sent (after_one process h sent) (Some h.low) 63 1 (before_band p) (band_size p)
          (before_band p + band_size p) refl (record {
            before = λ k a b. below process h sent k (omega arith);
            inside = λ k a b. is-in process h sent k (omega arith) (omega arith);
            past = λ k a. above process h sent k (omega arith);
          });
    }
  where
    dc-at : (h.first ≡ 0) ⊎ (h.first ≢ 0)
        → (if h.first == 0 then Some h.low else l.dc) ≡ after_one process h sent 0
    dc-at (inl e) = rw (eq-eqb h.first 0 e) (sym (is-in process h sent 0 (omega arith) (omega arith)))
    dc-at (inr ne) = rw (is-false h.first 0 ne) (are.dc ∙ sym (below process h sent 0 (omega arith)))

-- the levels of each component are those of its coefficients
abbrev pub AreAllLevels : SentLevels → (ℕ → Levels) → Type 0
AreAllLevels sent levels = (index : ℕ) → AreLevelsOf (sent index) (levels index)

levels-same : (f g : ℕ → Option ℕ) (l : Levels) → ((k : ℕ) → f k ≡ g k) → AreLevelsOf f l → AreLevelsOf g l
levels-same f g l same are = search (rules, map-same)

either-in : {A : Type 0} (a b c : Bool) (x y : A)
    → (if b && c then x else (if a && c then x else y)) ≡ (if (a || b) && c then x else y)
either-in true true true x y = refl
either-in true true false x y = refl
either-in true false true x y = refl
either-in true false false x y = refl
either-in false true true x y = refl
either-in false true false x y = refl
either-in false false true x y = refl
either-in false false false x y = refl

-- after a scan of these components
abbrev pub after_some : CodingProcess → ScanHeader → List ℕ → SentLevels → SentLevels
after_some process h indices sent index k =
    if list_any (λ i. index == i) indices && in_band process h k then Some h.low else sent index k

pub some-one : (process : CodingProcess) (h : ScanHeader) (i j k : ℕ) (sent : SentLevels) (b : Bool) → (j == i) ≡ b
    → after_some process h (i ∷ []) sent j k ≡ (if b then after_one process h (sent j) k else sent j k)
some-one process h i j k sent true e = rw e refl
some-one process h i j k sent false e = rw e refl

some-after : (process : CodingProcess) (h : ScanHeader) (indices : List ℕ) (sent : SentLevels) (levels : ℕ → Levels)
    → AreAllLevels sent levels
    → AreAllLevels (after_some process h indices sent) (levels_after (pass_by process h) indices levels)
unfolding levels_after
some-after process h [] sent levels are index = are index
some-after process h (i ∷ indices) sent levels are index =
    levels-same (after_some process h indices (after_some process h (i ∷ []) sent) index)
    (after_some process h (i ∷ indices) sent index) _
    (λ k. twice k)
    (some-after process h indices (after_some process h (i ∷ []) sent) (levels_of_one (pass_by process h) i levels)
    (λ j. one j (j == i) refl) index)
  where
    one : (j : ℕ) (b : Bool) → (j == i) ≡ b
        → AreLevelsOf (after_some process h (i ∷ []) sent j) (levels_of_one (pass_by process h) i levels j)
    one j true e = levels-same (after_one process h (sent j)) (after_some process h (i ∷ []) sent j) _
        (λ k. sym (some-one process h i j k sent true e))
        (rw (e, levels_of_one) (one-after process h (sent j) (levels j) (are j)))
    one j false e = levels-same (sent j) (after_some process h (i ∷ []) sent j) _
        (λ k. sym (some-one process h i j k sent false e)) (rw (e, levels_of_one) (are j))

    twice : (k : ℕ) → after_some process h indices (after_some process h (i ∷ []) sent) index k
        ≡ after_some process h (i ∷ indices) sent index k
    twice k = twice-at (index == i)
      where
        twice-at : (b : Bool)
            → (if list_any (λ i. index == i) indices && in_band process h k then Some h.low
            else (if (b || false) && in_band process h k then Some h.low else sent index k))
            ≡ (if (b || list_any (λ i. index == i) indices) && in_band process h k then Some h.low else sent index k)
        twice-at true = either-in true (list_any (λ i. index == i) indices) (in_band process h k) (Some h.low) (sent index k)
        twice-at false = either-in false (list_any (λ i. index == i) indices) (in_band process h k) (Some h.low) (sent index k)

pub scan-after : (frame : Frame) (h : ScanHeader) (sent : SentLevels) (levels : ℕ → Levels) → h.low < 16
    → AreAllLevels sent levels
    → AreAllLevels (sent_after_scan frame.process h sent)
    (levels_after (pass_of (scan_written frame h)) (indices_in h) levels)
scan-after frame h sent levels low are =
    rw (pass-by frame h low) (some-after frame.process h (indices_in h) sent levels are)

pub all-legal : (frame : Frame) (h : ScanHeader) (sent : SentLevels) (levels : ℕ → Levels) (indices : List ℕ)
    → IsScan frame h → AreAllLevels sent levels
    → AllByRecursion (λ index. Allows frame.process h (sent index)) indices
    → AllByRecursion (λ index. IsLegal (pass_of (scan_written frame h)) (levels index)) indices
all-legal frame h sent levels [] is are all = tt
all-legal frame h sent levels (index ∷ indices) is are all =
    search (rules, pass-by, legal-by, all-legal frame h sent levels indices is are all.1)

-- ---- the start, and the end

map-none : (s m : ℕ) → replicate {A = Option ℕ} m None ≡ map (λ (k : ℕ). None) (range_with_len s m)
map-none s zero = refl
map-none s (suc m) = ap (λ (l : List (Option ℕ)). None ∷ l) (map-none (s + 1) m)

pub none-at_first : AreAllLevels none_sent (λ k. nothing_sent)
none-at_first index = record { dc = refl; acs = map-none 1 63 }

all-zero : (sent : ℕ → Option ℕ) (s m : ℕ) → ((k : ℕ) → s ≤ k → k < s + m → sent k ≡ Some 0)
    → AllByRecursion (λ x. x ≡ Some 0) (map sent (range_with_len s m))
all-zero sent s zero h = tt
all-zero sent s (suc m) h =
    (h s (omega arith) (omega arith), all-zero sent (s + 1) m (λ k a b. h k (omega arith) (omega arith)))

pub complete-by : (sent : ℕ → Option ℕ) (l : Levels) → AreLevelsOf sent l → ((k : ℕ) → k < 64 → sent k ≡ Some 0)
    → IsComplete l
complete-by sent l are all = search (rules, all-zero)
