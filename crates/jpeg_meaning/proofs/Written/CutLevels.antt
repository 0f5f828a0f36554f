-- A legal scan takes the blocks at its levels to the blocks at the levels after it.
use Rattle.std.proofs.lemmas.Grind.{common_steps}
use Rattle.std.proofs.Common.{rules, ◌≡◌, ℕ, suc, ◌+◌, ◌/◌, ◌^◌, ◌≤◌, List, [], ◌∷◌, ◌++◌, map, take, drop, replicate}
use Rattle.std.proofs.Common.{length, ℤ, pos, negsuc, neg_ℤ, ◌≤ℤ◌, unsigned_abs, Option, Some, None, refl, sym, ap}
use Rattle.std.proofs.Common.{ap₂, ◌∙◌, arith, pow_mono, length-take, length-drop, drop-drop, take-append-drop}
use Rattle.std.proofs.lemmas.List.{length-replicate, take-map, drop-map}
use Rattle.std.proofs.Math.Nat.{div-le_self, div-mul-le_self, add-mul, one-mul}
use lib.Pow.{shr-shr}
use Rattle.std.proofs.lemmas.Int.{ints, int_wrap_fits}
use Rattle.std.proofs.lemmas.Bool.{eqb-true}
use Rattle.std.specs.List.{AllByRecursion}
use Rattle.jpeg_bits.proofs.ReadIntervals.{all-again, all-drop, all-map, all-take}
use Rattle.jpeg_bits.specs.Bands.{wrapped}
use Rattle.jpeg_bits.specs.Passes.{Pass, Block, band_of, with_band, before_band, band_size}
use Rattle.jpeg_meaning.specs.Levels.{floor_at, toward_zero, numbers_at, Levels, cut_by, cut_acs, cut, IsLegal}
use Rattle.jpeg_meaning.specs.Levels.{sent_after, Is8Bit}
use Rattle.jpeg_meaning.specs.WrittenData.{no_numbers}
use Rattle.jpeg_meaning.proofs.Written.SentBlocks.{halved, scaled, kept, InRange, InDcRange, Suits, after_pass, floor_half}
use Rattle.jpeg_meaning.proofs.Written.WrittenBands.{abs-scaled, mag-le}
use Rattle.jpeg_meaning.proofs.Written.WrittenBlocks.{dc-refined}

-- ---- numbers

pub half-shift : (n al : ℕ) → n / 2 ^ al / 2 ≡ n / 2 ^ suc al
half-shift n al = shr-shr n al 1 ∙ ap (λ (x : ℕ). n / 2 ^ x) (omega arith)

pub halved-toward : (al : ℕ) (x : ℤ) → halved (toward_zero al x) ≡ toward_zero (suc al) x
halved-toward al (pos n) = ap pos (half-shift n al)
halved-toward al (negsuc n) = search (rules, neg_ℤ, half-shift)

pub half-floor : (al : ℕ) (x : ℤ) → floor_half (floor_at al x) ≡ floor_at (suc al) x
half-floor al (pos n) = ap pos (half-shift n al)
half-floor al (negsuc n) = ap negsuc (half-shift n al)

pub toward-range : (al : ℕ) (x : ℤ) → unsigned_abs x ≤ 1023 → InRange al (toward_zero al x)
toward-range al x h = search (rules, neg_ℤ, div-mul-le_self, unsigned_abs)

pub floor-range : (al : ℕ) (x : ℤ) → negsuc 1023 ≤ℤ x → x ≤ℤ pos 1023 → InDcRange (floor_at al x)
floor-range al (pos n) h k = search (rules, div-le_self, ints)
floor-range al (negsuc n) h k = search (rules, div-le_self, ints)

pub floor-fits : (al : ℕ) (x : ℤ) → al ≤ 7 → negsuc 1023 ≤ℤ x → x ≤ℤ pos 1023
    → wrapped (scaled al (floor_at al x)) ≡ scaled al (floor_at al x)
floor-fits al x low h k =
    search (rules, int_wrap_fits, scaled, pow_mono, div-mul-le_self, ints, mag-le, abs-scaled, add-mul, one-mul)

-- ---- lists

pub cut-take : (n : ℕ) (cs : List ℤ) (ls : List (Option ℕ)) → take n (cut_acs cs ls) ≡ cut_acs (take n cs) (take n ls)
unfolding cut_acs
cut-take (suc n) (c ∷ cs) (l ∷ ls) = ap (λ (m : List ℤ). cut_by toward_zero c l ∷ m) (cut-take n cs ls)
cut-take n cs ls = refl

pub cut-nil : (cs : List ℤ) → [] ≡ cut_acs cs []
unfolding cut_acs
cut-nil [] = refl
cut-nil (c ∷ cs) = refl

pub cut-drop : (n : ℕ) (cs : List ℤ) (ls : List (Option ℕ)) → drop n (cut_acs cs ls) ≡ cut_acs (drop n cs) (drop n ls)
unfolding cut_acs
cut-drop (suc n) (c ∷ cs) (l ∷ ls) = cut-drop n cs ls
cut-drop n cs ls = search (rules, cut-nil)

pub cut-append : (xs ys : List ℤ) (ms ns : List (Option ℕ)) → length xs ≡ length ms
    → cut_acs (xs ++ ys) (ms ++ ns) ≡ cut_acs xs ms ++ cut_acs ys ns
unfolding cut_acs
cut-append [] ys [] ns h = refl
cut-append (x ∷ xs) ys (m ∷ ms) ns h = ap (λ (l : List ℤ). cut_by toward_zero x m ∷ l) (cut-append xs ys ms ns (omega arith))
cut-append xs ys ms ns h = absurd (omega arith)

pub cut-unsent : (cs : List ℤ) (ls : List (Option ℕ)) → length cs ≡ length ls → AllByRecursion (λ x. x ≡ None) ls
    → cut_acs cs ls ≡ no_numbers (length cs)
unfolding cut_acs
cut-unsent (c ∷ cs) (l ∷ ls) h all = search (rules, cut-unsent cs ls (omega arith) all.1)
cut-unsent cs ls h all = search rules

pub cut-sent : (a : ℕ) (cs : List ℤ) (ls : List (Option ℕ)) → length cs ≡ length ls
    → AllByRecursion (λ x. x ≡ Some a) ls → cut_acs cs ls ≡ map (λ c. scaled a (toward_zero a c)) cs
unfolding cut_acs
cut-sent a (c ∷ cs) (l ∷ ls) h all = search (rules, cut-sent a cs ls (omega arith) all.1)
cut-sent a cs ls h all = search rules

pub band-cut : (p : Pass) (cs : List ℤ) (ls : List (Option ℕ))
    → band_of p (cut_acs cs ls) ≡ cut_acs (band_of p cs) (band_of p ls)
band-cut p cs ls = search (rules, cut-drop, cut-take)

pub band-map : (p : Pass) (f : ℤ → ℤ) (cs : List ℤ) → band_of p (map f cs) ≡ map f (band_of p cs)
band-map p f cs = rw (drop-map f (before_band p) cs, take-map f (band_size p) (drop (before_band p) cs)) refl

pub map-map : (f g h : ℤ → ℤ) → ((x : ℤ) → g (f x) ≡ h x) → (xs : List ℤ) → map g (map f xs) ≡ map h xs
map-map f g h e [] = refl
map-map f g h e (x ∷ xs) = ap₂ (λ (y : ℤ) (l : List ℤ). y ∷ l) (e x) (map-map f g h e xs)

pub same-take : (n : ℕ) (cs : List ℤ) (ls : List (Option ℕ)) → length cs ≡ length ls
    → length (take n cs) ≡ length (take n ls)
same-take n cs ls h = omega (arith, length-take n cs, length-take n ls)

pub same-band : (p : Pass) (cs : List ℤ) (ls : List (Option ℕ)) → length cs ≡ length ls
    → length (band_of p cs) ≡ length (band_of p ls)
same-band p cs ls h = search (rules, same-take, length-drop)

-- a list is what stands before a band, the band, and what stands after it
pub around-band : {A : Type 0} (p : Pass) (cs : List A) → with_band p cs (band_of p cs) ≡ cs
around-band p cs = (search (rules, drop-drop))
    ∙ ap (λ l. take (before_band p) cs ++ l) (take-append-drop (band_size p) (drop (before_band p) cs))
    ∙ take-append-drop (before_band p) cs

pub all-same : (a : Option ℕ) (n : ℕ) → AllByRecursion (λ x. x ≡ a) (replicate n a)
all-same a n = all-again (λ x. x ≡ a) n a refl

-- ---- a scan

-- The block at its levels suits a legal scan.
pub suits-cut : (p : Pass) (l : Levels) (c : Block) → Is8Bit c → length c.acs ≡ length l.acs → IsLegal p l
    → Suits p (cut l c) (numbers_at p.al c)
suits-cut p l c range same legal = record {
  unsent = grind (arith, common_steps, band-cut, cut-unsent, same-band, band-map);
  sent = λ f. band-cut p c.acs l.acs
      ∙ cut-sent (suc p.al) (band_of p c.acs) (band_of p l.acs) (same-band p c.acs l.acs same) (legal.acs_sent f)
      ∙ sym (search (rules, map-map, scaled, halved-toward))
      ∙ ap (map (kept p.al)) (sym (band-map p (toward_zero p.al) c.acs));
  range = search (rules, all-map, toward-range, all-take, all-drop);
  dc_range = floor-range p.al c.dc range.dc_low range.dc_high;
  dc_fits = floor-fits p.al c.dc legal.low range.dc_low range.dc_high;
}

pub acs-after : (p : Pass) (l : Levels) (c : Block) → length c.acs ≡ length l.acs
    → with_band p (cut_acs c.acs l.acs) (map (scaled p.al) (band_of p (map (toward_zero p.al) c.acs)))
    ≡ cut_acs c.acs (sent_after p l).acs
acs-after p l c same =
    let b = before_band p in
    let s = band_size p in
    let count = length (band_of p l.acs) in
    let now = replicate count (Some p.al) in
    let sizes = same-band p c.acs l.acs same ∙ sym (length-replicate count (Some p.al)) in
    let band : map (scaled p.al) (band_of p (map (toward_zero p.al) c.acs)) ≡ cut_acs (band_of p c.acs) now
    = ap (map (scaled p.al)) (band-map p (toward_zero p.al) c.acs)
    ∙ map-map (toward_zero p.al) (scaled p.al) (λ x. scaled p.al (toward_zero p.al x)) (λ x. refl) (band_of p c.acs)
    ∙ sym (cut-sent p.al (band_of p c.acs) now sizes (all-same (Some p.al) count)) in
    ap₂ (λ (x y : List ℤ). x ++ y) (cut-take b c.acs l.acs)
    (ap₂ (λ (x y : List ℤ). x ++ y) band (cut-drop (b + s) c.acs l.acs))
    ∙ ap (λ (x : List ℤ). cut_acs (take b c.acs) (take b l.acs) ++ x)
    (sym (cut-append (band_of p c.acs) (drop (b + s) c.acs) now (drop (b + s) l.acs) sizes))
    ∙ sym (cut-append (take b c.acs) (band_of p c.acs ++ drop (b + s) c.acs) (take b l.acs)
    (now ++ drop (b + s) l.acs) (same-take b c.acs l.acs same))
    ∙ ap (λ (x : List ℤ). cut_acs x (sent_after p l).acs) (around-band p c.acs)

pub dc-then : (p : Pass) (l : Levels) (c : Block) → IsLegal p l
    → (after_pass p (cut l c) (numbers_at p.al c)).dc ≡ (cut (sent_after p l) c).dc
dc-then p l c legal = grind (arith, eqb-true, half-floor, dc-refined)

-- A legal scan takes the block at its levels to the block at the levels after it.
pub cut-after : (p : Pass) (l : Levels) (c : Block) → length c.acs ≡ length l.acs → IsLegal p l
    → after_pass p (cut l c) (numbers_at p.al c) ≡ cut (sent_after p l) c
cut-after p l c same legal = rw (dc-then p l c legal, acs-after p l c same) refl
