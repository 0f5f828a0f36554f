-- The bits that were taken of a band in a refinement are those that are written for it.
use Rattle.std.proofs.Common.{rules, ◌≡◌, ◌≢◌, ℕ, zero, suc, ◌+◌, ◌-◌, ◌*◌, ◌/◌, ◌^◌, ◌<◌, ◌≤◌, Bool, true, false}
use Rattle.std.proofs.Common.{List, [], ◌∷◌, ◌++◌, map, length, take, drop, refl, sym, ap, ap₂, ◌∙◌, subst, arith}
use Rattle.std.proofs.Common.{cond, Ok, eqb, ℤ, pos, negsuc, neg_ℤ, unsigned_abs, append_assoc, length-append}
use Rattle.std.proofs.Common.{length-take, length-drop}
use Rattle.std.proofs.lemmas.List.{length-map}
use Rattle.std.proofs.Math.Nat.{zero-mul, one-mul}
use Rattle.std.proofs.lemmas.Bool.{eqb-true, eq-eqb, le-leb}
use Rattle.std.specs.List.{AllByRecursion}
use Rattle.jpeg_bits.specs.Entropy.{Text, bits_from}
use Rattle.jpeg_bits.specs.Codes.{Table, IsTable, symbol_from}
use Rattle.jpeg_bits.specs.Readers.{each, gives, ◌>>=◌}
use Rattle.jpeg_bits.specs.Pieces.{corrected_from}
use Rattle.jpeg_bits.specs.Bands.{Band, before_more}
use Rattle.jpeg_bits.specs.Refinement.{is_zero, bit_of, moved, corrected_by, corrected, through_zero, new_number}
use Rattle.jpeg_bits.specs.Refinement.{with_last, refined_piece, refined_ac}
use Rattle.jpeg_bits.specs.Written.{bit, low_bits, IsCoded}
use Rattle.jpeg_meaning.specs.Levels.{toward_zero}
use Rattle.jpeg_meaning.specs.WrittenData.{is_old, count_unknown, NoneNew, corrections, sign_bit, WritesRefinement}
use Rattle.jpeg_meaning.specs.WrittenData.WritesRefinement.{refined, found, passed, none_left}
use Rattle.jpeg_meaning.proofs.Written.SentBlocks.{scaled}
use Rattle.jpeg_bits.proofs.ReadIntervals.{all-take, all-drop}
use Rattle.jpeg_meaning.proofs.Written.WrittenBands.{scaled-zero}
use Rattle.jpeg_meaning.proofs.Written.WrittenRefinements.{nothing_or_old, times-two_power, spread, neg-times, even-bit}
use Rattle.jpeg_meaning.proofs.Written.WrittenRefinements.{even-bit_neg, corrections-old, corrections-end, count-zero}
use Rattle.jpeg_meaning.proofs.Written.WrittenRefinements.{count-old, with_last-end, new-scaled, map-scaled, through-zero}
use Rattle.jpeg_meaning.proofs.Written.WrittenRefinements.{through-other}
use Rattle.jpeg_evidence.specs.Strict.{alone, IsCut, IsNumber, HasByteSymbols, count_zeros, PiecesFit}
use Rattle.jpeg_evidence.specs.Strict.PiecesFit.{covered, new, zeros, last}
use Rattle.jpeg_evidence.proofs.Taken.TakenBits.{number_taken, symbol_taken, after-read, bind-cut, if-read, gives-taken}
use Rattle.jpeg_evidence.proofs.Taken.TakenBits.{ok-parts, no-error, map-taken, cut-then, After}
use Rattle.jpeg_evidence.proofs.Taken.TakenBands.{run-small}

-- ---- a coefficient

-- what is kept of a coefficient was sent at the level above
abbrev pub IsKept : ℕ → ℤ → Type 0
IsKept al z = scaled (suc al) (toward_zero (suc al) z) ≡ z

abs-neg : (k : ℕ) → unsigned_abs (neg_ℤ (pos k)) ≡ k
abs-neg x = grind arith

zero-is : (z : ℤ) → is_zero z ≡ true → z ≡ pos 0
zero-is x h = grind arith

sum : (al m b : ℕ) → (2 * m + b) * 2 ^ al ≡ m * 2 ^ suc al + b * 2 ^ al
sum al m b = omega (arith, times-two_power m al, spread m b (2 ^ al))

-- the number of a coefficient after its correction, and the bit of that; it is 0 where what was kept is
record IsOne (al : ℕ) (z w : ℤ) (own : List Bool) : Type 0 where
  u : ℤ
  are : scaled al u ≡ w
  alike : is_zero u ≡ is_zero z
  known : unsigned_abs u ≢ 1
  bits : corrections (u ∷ []) ≡ own

old-other : (u : ℤ) → is_old u ≡ true → is_zero u ≡ false
old-other u h = grind arith

old-one : (al m b : ℕ) (z u w : ℤ) → is_zero z ≡ false → 0 < m → b < 2 → unsigned_abs u ≡ 2 * m + b → scaled al u ≡ w
    → IsOne al z w (bit b ∷ [])
unfolding corrections
old-one al m b z u w other some small size are = search (rules, le-leb, unsigned_abs, old-other, corrections-old)

-- a coefficient that isn't zero is moved where its bit is set
moves : (al : ℕ) (z : ℤ) (b : ℕ) (w : ℤ) (s t : Text) → b < 2 → bit_of al z ≡ 0 → corrected_by al z b s ≡ Ok (w, t)
    → (moved (b * 2 ^ al) z ≡ w) × (s ≡ t)
moves al z zero w s t small even e = grind (arith, zero-mul, ok-parts)
moves al z (suc zero) w s t small even e = grind (arith, eq-eqb, one-mul, ok-parts, no-error)
moves al z b w s t small even e = absurd (omega arith)

not-none : (al m k : ℕ) → m * 2 ^ suc al ≡ suc k → 0 < m
not-none al x k h = grind (arith, zero-mul)

old-index : (al : ℕ) (z : ℤ) (b : ℕ) (w : ℤ) (s t : Text) → IsKept al z → is_zero z ≡ false → b < 2
    → corrected_by al z b s ≡ Ok (w, t) → IsOne al z w (bit b ∷ []) × (s ≡ t)
old-index al (pos zero) b w s t kept old small e = cc
old-index al (pos (suc k)) b w s t kept old small e =
    let m = suc k / 2 ^ suc al in
    let h : m * 2 ^ suc al ≡ suc k = ap unsigned_abs kept in
    let q = moves al (pos (suc k)) b w s t small (subst (λ (n : ℕ). bit_of al (pos n) ≡ 0) h (even-bit al m)) e in
    let n : (2 * m + b) * 2 ^ al ≡ suc k + b * 2 ^ al = omega (arith, sum al m b, h) in
    (old-one al m b (pos (suc k)) (pos (2 * m + b)) w old (not-none al m k h) small refl (ap (λ (x : ℕ). pos x) n ∙ q.0), q.1)
old-index al (negsuc k) b w s t kept old small e =
    let m = suc k / 2 ^ suc al in
    let h : m * 2 ^ suc al ≡ suc k
    = sym (abs-neg (m * 2 ^ suc al)) ∙ ap unsigned_abs (sym (neg-times m (2 ^ suc al)) ∙ kept) in
    let q = moves al (negsuc k) b w s t small (even-bit_neg al m k (not-none al m k h) h) e in
    let n : (2 * m + b) * 2 ^ al ≡ suc (k + b * 2 ^ al) = omega (arith, sum al m b, h) in
    let one = old-one al m b (negsuc k) (neg_ℤ (pos (2 * m + b))) w old (not-none al m k h) small (abs-neg (2 * m + b))
    (neg-times (2 * m + b) (2 ^ al) ∙ ap (λ (x : ℕ). neg_ℤ (pos x)) n ∙ q.0) in
    (one, q.1)

-- ---- coefficients

pub one-bit : (b : ℕ) (own : List Bool) → IsNumber 1 b own → bit b ∷ [] ≡ own
unfolding low_bits
one-bit b own is = grind arith

one-taken : (al : ℕ) (z : ℤ) (bits : List Bool) (w : ℤ) (t : Text) → IsKept al z
    → corrected_from al z (alone bits) ≡ Ok (w, t) → IsCut (IsOne al z w) bits t
unfolding corrected_from corrections
one-taken al z bits w t kept e = if-read (is_zero z) _ _ e
    (λ h. gives-taken (IsOne al z) (record {
      u = pos 0;
      are = scaled-zero al ∙ sym (zero-is z h);
      alike = sym h;
      known = λ e. omega (arith, e);
      bits = refl;
    }))
    (λ h. bind-cut (bits_from 1) (λ (b : ℕ). corrected_by al z b) (IsNumber 1) (λ b u. number_taken)
    (λ b more f g.
    let is : IsCut (IsNumber 1 b) bits (alone more) = number_taken f in
    let r = old-index al z b w (alone more) t kept h is.holds.below g in
    gives-taken (λ (w : ℤ). After (IsNumber 1 b) (IsOne al z w)) (λ own is. rw (← one-bit b own is) r.0)
    (ap (λ (u : Text). Ok (w, u)) r.1)))

-- Numbers after their correction bits, at a level, and the bits. They are 0 where what was kept is.
pub record IsCorrected (al : ℕ) (zs ws : List ℤ) (own : List Bool) : Type 0 where
  pub us : List ℤ
  pub are : map (scaled al) us ≡ ws
  pub alike : map is_zero us ≡ map is_zero zs
  pub none : NoneNew us
  pub bits : corrections us ≡ own

pub alike-long : (us zs : List ℤ) → map is_zero us ≡ map is_zero zs → length us ≡ length zs
alike-long us zs h = grind (arith, length-map)

corrections-cons : (u : ℤ) (us : List ℤ) → corrections (u ∷ us) ≡ corrections (u ∷ []) ++ corrections us
unfolding corrections
corrections-cons u us = grind arith

one-first : (al : ℕ) (z w : ℤ) (zs ws : List ℤ) (front own : List Bool) → IsOne al z w front
    → IsCorrected al zs ws own → IsCorrected al (z ∷ zs) (w ∷ ws) (front ++ own)
unfolding NoneNew
one-first al z w zs ws front own o c = record {
  us = o.u ∷ c.us;
  are = ap₂ (λ (x : ℤ) (xs : List ℤ). x ∷ xs) o.are c.are;
  alike = ap₂ (λ (x : Bool) (xs : List Bool). x ∷ xs) o.alike c.alike;
  none = (o.known, c.none);
  bits = corrections-cons o.u c.us ∙ ap₂ (λ (x y : List Bool). x ++ y) o.bits c.bits;
}

-- The bits that were taken of corrections are the correction bits of the old coefficients.
pub corrected-taken : {al : ℕ} {bits : List Bool} {ws : List ℤ} {t : Text} (zs : List ℤ)
    → AllByRecursion (IsKept al) zs → corrected al zs (alone bits) ≡ Ok (ws, t)
    → IsCut (IsCorrected al zs ws) bits t
unfolding corrected corrected_from each corrections NoneNew
corrected-taken {al} [] kept e =
    gives-taken (IsCorrected al []) (record { us = []; are = refl; alike = refl; none = tt; bits = refl }) e
corrected-taken {al} {bits} {ws} {t} (z ∷ zs) kept e =
    bind-cut (corrected_from al z) (λ (w : ℤ). corrected al zs >>= (λ more. gives (w ∷ more))) (IsOne al z)
    (λ w u. one-taken al z bits w u kept.0)
    (λ w more f. map-taken (corrected al zs) (λ (l : List ℤ). w ∷ l) (IsCorrected al zs)
    (λ (l : List ℤ). After (IsOne al z w) (IsCorrected al (z ∷ zs) l))
    (λ ws. corrected-taken {bits = more} zs kept.1) (λ ws own c front o. one-first al z w zs ws front own o c)) e

-- ---- pieces

-- Numbers that end with 0, after r that are neither old nor new, and old ones.
record EndsWithZero (r : ℕ) (us : List ℤ) : Type 0 where
  front : List ℤ
  parts : us ≡ front ++ pos 0 ∷ []
  count : count_unknown front ≡ r
  none : NoneNew front

zero-front : (us : List ℤ) → us ≡ pos 0 ∷ [] → EndsWithZero 0 us
unfolding count_unknown NoneNew
zero-front us e = record { front = []; parts = e; count = refl; none = tt }

through-here : (z : ℤ) (zs : List ℤ) → z ≡ pos 0 → through_zero 0 (z ∷ zs) ≡ 1
unfolding through_zero
through-here z zs e = ap (λ (x : ℤ). through_zero 0 (x ∷ zs)) e

abbrev Ends : List ℤ → Type 0
Ends zs = (r : ℕ) (us : List ℤ) → r < count_zeros zs → map is_zero us ≡ map is_zero (take (through_zero r zs) zs)
    → NoneNew us → EndsWithZero r us

of-one : (us : List ℤ) → map is_zero us ≡ true ∷ [] → us ≡ pos 0 ∷ []
of-one [] a = cc
of-one (u ∷ []) a = search (rules, zero-is)
of-one (u ∷ v ∷ us) a = cc

ends-more : (z : ℤ) (zs us : List ℤ) (r : ℕ) → Ends zs → r < count_zeros zs
    → map is_zero us ≡ is_zero z ∷ map is_zero (take (through_zero r zs) zs) → NoneNew us
    → EndsWithZero (cond (is_zero z) (suc r) r) us
unfolding NoneNew
ends-more z zs [] r ends h a none = cc
ends-more z zs (u ∷ us) r ends h a none =
    let head : is_zero u ≡ is_zero z = cc in
    let w = ends r us h (let e : map is_zero us ≡ map is_zero (take (through_zero r zs) zs) = cc in e) none.1 in
    let front = w.front in
    record {
      front = u ∷ front;
      parts = ap (λ (xs : List ℤ). u ∷ xs) w.parts;
      count = rw (← head) (grind (arith, count-zero, count-old, nothing_or_old, old-other, w.count));
      none = (none.0, w.none);
    }

ends-step : (z : ℤ) (zs us : List ℤ) (r : ℕ) (b : Bool) → is_zero z ≡ b → Ends zs → r < count_zeros (z ∷ zs)
    → map is_zero us ≡ map is_zero (take (through_zero r (z ∷ zs)) (z ∷ zs)) → NoneNew us → EndsWithZero r us
unfolding count_zeros
ends-step z zs us zero true h more small a none = grind (arith, zero-front, of-one, through-here, zero-is)
ends-step z zs us (suc r) true h more small a none =
    rw h at (ends-more z zs us r more (grind arith) (rw (through-zero r z zs (zero-is z h)) at a) none)
ends-step z zs us r false h more small a none =
    rw h at (ends-more z zs us r more (grind arith) (rw (through-other r z zs h) at a) none)

ends-zero : (zs : List ℤ) → Ends zs
unfolding count_zeros
ends-zero [] r us h a none = absurd (omega arith)
ends-zero (z ∷ zs) r us h a none = ends-step z zs us r (is_zero z) refl (ends-zero zs) h a none

-- ---- bands

-- Numbers of a band, at a level, the bits that are written for them, and the run after it.
pub record IsRefined (table : Table) (al : ℕ) (zs : List ℤ) (y : Band) (own : List Bool) : Type 0 where
  pub numbers : List ℤ
  pub are : map (scaled al) numbers ≡ y.0
  pub long : length numbers ≡ length zs
  pub written : WritesRefinement table numbers own y.1

-- a piece through a zero, where u is written for that, and what is written after it
through-refined : (table : Table) (al r : ℕ) (u : ℤ) (a mid c d : List Bool) (zs ws all : List ℤ) (x : Band)
    → r < count_zeros zs → IsCorrected al (take (through_zero r zs) zs) ws c
    → IsRefined table al (drop (through_zero r zs) zs) x d
    → ((front : List ℤ) → map (scaled al) front ++ scaled al (pos 0) ∷ [] ≡ ws
    → map (scaled al) front ++ scaled al u ∷ [] ≡ all)
    → ((front more : List ℤ) (back : List Bool) → NoneNew front → count_unknown front ≡ r
    → WritesRefinement table more back x.1
    → WritesRefinement table (front ++ u ∷ more) (a ++ (mid ++ (corrections front ++ back))) x.1)
    → IsRefined table al zs (before_more all x) (a ++ (mid ++ (c ++ d)))
through-refined table al r u a mid c d zs ws all x small is m made writes =
    let z = ends-zero zs r is.us small is.alike is.none in
    let kept : map (scaled al) z.front ++ scaled al (pos 0) ∷ [] ≡ ws
    = sym (map-scaled al z.front (pos 0 ∷ [])) ∙ ap (map (scaled al)) (sym z.parts) ∙ is.are in
    let size = alike-long is.us (take (through_zero r zs) zs) is.alike in
    let parts = ap (λ (l : List ℤ). length l) z.parts in
    let own : corrections z.front ≡ c = sym (corrections-end z.front) ∙ ap corrections (sym z.parts) ∙ is.bits in
    record {
      numbers = z.front ++ u ∷ m.numbers;
      are = (let e = made z.front kept in grind (arith, map-scaled, append_assoc));
      long = omega (arith, size, parts, m.long, length-append {A = ℤ}, length-take {A = ℤ}, length-drop {A = ℤ});
      written = subst (λ (l : List Bool). WritesRefinement table (z.front ++ u ∷ m.numbers) (a ++ (mid ++ (l ++ d))) x.1) own
          (writes z.front m.numbers d z.none z.count m.written);
    }

signed : (al sign : ℕ) → sign < 2
    → (u : ℤ) × (sign_bit u ≡ sign) × (unsigned_abs u ≡ 1) × (new_number al sign ≡ scaled al u)
signed al zero h = (negsuc 0, refl, refl, new-scaled al (negsuc 0) refl)
signed al (suc zero) h = (pos 1, refl, refl, new-scaled al (pos 1) refl)
signed al n h = absurd (omega arith)

found-refined : (table : Table) (al r sign : ℕ) (zs ws : List ℤ) (x : Band) (a b c d : List Bool)
    → HasByteSymbols table → r < count_zeros zs → IsCoded table (16 * r + 1) a → IsNumber 1 sign b
    → IsCorrected al (take (through_zero r zs) zs) ws c → IsRefined table al (drop (through_zero r zs) zs) x d
    → IsRefined table al zs (before_more (with_last (new_number al sign) ws) x) (a ++ (b ++ (c ++ d)))
found-refined table al r sign zs ws x a b c d bytes small coded is corrected m =
    let n = signed al sign is.below in
    let own : bit (sign_bit n.0) ∷ [] ≡ b = ap (λ (v : ℕ). bit v ∷ []) n.1 ∙ one-bit sign b is in
    rw (← own) (through-refined table al r n.0 a (bit (sign_bit n.0) ∷ []) c d zs ws _ x small corrected m
    (grind (arith, with_last-end))
    (λ front more back none count w. found r front n.0 a more back x.1 (run-small table r 1 a bytes coded) none count n.2 coded w))

rest-refined : (table : Table) (r e : ℕ) (us : List ℤ) (code : List Bool) → 0 < length us → r ≤ 14 → e < 2 ^ r
    → NoneNew us → IsCoded table (16 * r + 0) code
    → WritesRefinement table us (code ++ (low_bits r e ++ corrections us)) (2 ^ r - 1 + e)
rest-refined table r e [] code some h f none coded = absurd (omega arith)
rest-refined table r e (u ∷ us) code some h f none coded = none_left r e u us code h f none coded

last-refined : (table : Table) (al r e : ℕ) (zs ws : List ℤ) (a b c : List Bool) → HasByteSymbols table → r ≢ 15
    → 0 < length zs → IsCoded table (16 * r + 0) a → IsNumber r e b → IsCorrected al zs ws c
    → IsRefined table al zs (ws, 2 ^ r - 1 + e) (a ++ (b ++ c))
last-refined table al r e zs ws a b c bytes ne some coded is w = grind (arith, alike-long, run-small, rest-refined)

-- what follows a symbol that was read
after-symbol : (table : Table) (al n r s : ℕ) (z : ℤ) (zs : List ℤ) (bits one : List Bool) {y : Band} {t : Text} → s ≤ 15
    → symbol_from table (alone bits) ≡ Ok (16 * r + s, alone one)
    → refined_ac table al (suc n) (z ∷ zs) (alone bits) ≡ Ok (y, t)
    → refined_piece al (refined_ac table al n) (z ∷ zs) r s (alone one) ≡ Ok (y, t)
unfolding refined_ac
after-symbol table al n r s z zs bits one small h e = grind (arith, after-read)

through-some : (r : ℕ) (z : ℤ) (zs : List ℤ) → 0 < through_zero r (z ∷ zs)
through-some zero z zs = grind (arith, through-here, zero-is, through-other)
through-some (suc r) z zs = grind (arith, through-zero, zero-is, through-other)

drop-small : (n r : ℕ) (z : ℤ) (zs : List ℤ) → length (z ∷ zs) ≤ suc n
    → length (drop (through_zero r (z ∷ zs)) (z ∷ zs)) ≤ n
drop-small n r z zs h = grind (arith, through-some, length-drop)

-- The bits that were taken of a band in a refinement are written for it.
pub refined-taken : {table : Table} {al n : ℕ} {bits : List Bool} {y : Band} {t : Text} (zs : List ℤ) → IsTable table
    → HasByteSymbols table → AllByRecursion (IsKept al) zs → PiecesFit table al zs bits → length zs ≤ n
    → refined_ac table al n zs (alone bits) ≡ Ok (y, t) → IsCut (IsRefined table al zs y) bits t
unfolding refined_ac refined_piece
refined-taken {table} {al} zs is bytes kept (covered bits') le e = search (rules, gives-taken, refined)
refined-taken {n = zero} zs is bytes kept fits le e = absurd (omega arith)
refined-taken {table} {al} {n = suc n} {bits} {t = t} zs is bytes kept (new r sign z rest front bits' one two more h small h1 h2 w) le e =
    let k = through_zero r (z ∷ rest) in
    let all = z ∷ rest in
    cut-then (symbol_taken is h) (cut-then (number_taken h1)
    (cut-then (corrected-taken (take k all) (all-take (IsKept al) k all kept) h2)
    (map-taken (refined_ac table al n (drop k all)) (λ (m : Band). before_more (with_last (new_number al sign) front) m)
    (IsRefined table al (drop k all))
    (λ (y : Band). After (IsCorrected al (take k all) front) (After (IsNumber 1 sign)
    (After (IsCoded table (16 * r + 1)) (IsRefined table al all y))))
    (λ m. refined-taken (drop k all) is bytes (all-drop (IsKept al) k all kept) w (drop-small n r z rest le))
    (λ m d D c C b B a A. found-refined table al r sign all front m a b c d bytes small A B C D)
    (after-read (corrected al (take k all)) _ h2 (after-read (bits_from 1) _ h1 (after-symbol table al n r 1 z rest bits one (omega arith) h e))))))
refined-taken {table} {al} {n = suc n} {bits} {t = t} zs is bytes kept (zeros z rest front bits' one more h small h2 w) le e =
    let k = through_zero 15 (z ∷ rest) in
    let all = z ∷ rest in
    cut-then (symbol_taken is h)
    (cut-then (corrected-taken (take k all) (all-take (IsKept al) k all kept) h2)
    (map-taken (refined_ac table al n (drop k all)) (λ (m : Band). before_more front m) (IsRefined table al (drop k all))
    (λ (y : Band). After (IsCorrected al (take k all) front) (After (IsCoded table (16 * 15 + 0)) (IsRefined table al all y)))
    (λ m. refined-taken (drop k all) is bytes (all-drop (IsKept al) k all kept) w (drop-small n 15 z rest le))
    (λ m d D c C a A. through-refined table al 15 (pos 0) a [] c d all front front m small C D (λ front e. e)
    (λ front more back none count. passed front a more back m.1 none count A))
    (after-read (corrected al (take k all)) _ h2 (after-symbol table al n 15 0 z rest bits one (omega arith) h e))))
refined-taken {table} {al} {n = suc n} {bits} zs is bytes kept (last r z rest bits' one h ne) le e =
    let all = z ∷ rest in
    cut-then (symbol_taken is h) (if-read (eqb r 15) _ _ (after-symbol table al n r 0 z rest bits one (omega arith) h e)
    (λ q k. absurd (ne (eqb-true r 15 q)))
    (λ q. bind-cut (bits_from r) (λ (e : ℕ). corrected al all >>= (λ ws. gives (ws, 2 ^ r - 1 + e))) (IsNumber r)
    (λ e u. number_taken)
    (λ e more f. map-taken (corrected al all) (λ (ws : List ℤ). (ws, 2 ^ r - 1 + e)) (IsCorrected al all)
    (λ (y : Band). After (IsNumber r e) (After (IsCoded table (16 * r + 0)) (IsRefined table al all y)))
    (λ ws. corrected-taken all kept)
    (λ ws c C b B a A. last-refined table al r e all ws a b c bytes ne (omega arith) A B C))))
