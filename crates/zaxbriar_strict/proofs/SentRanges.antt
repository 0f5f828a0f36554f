-- The ranges of a block before a pass of a progressive frame.
use Rattle.std.proofs.Common.{◌≡◌, ℕ, zero, suc, ◌+◌, ◌-◌, ◌*◌, ◌/◌, ◌^◌, ◌<◌, ◌≤◌, Bool, true, false, List, [], ◌∷◌, ◌++◌, length, drop}
use Rattle.std.proofs.Common.{take, map, refl, sym, ap, ◌∙◌, subst, arith, ℤ, pos, negsuc, neg_ℤ, ◌*ℤ◌, ◌≤ℤ◌, unsigned_abs, pow_pos}
use Rattle.std.proofs.Common.{pow-add, pow-suc, mul_assoc}
use Rattle.std.proofs.Math.Nat.{add-mul, lt_of_mul-lt-mul_right, mul-le-mul_right, one-mul}
use Rattle.std.proofs.lemmas.Int.{ints}
use Rattle.std.specs.List.{AllByRecursion}
use Rattle.std.proofs.Common.{ap₂}
use Rattle.std.specs.Prelude.{if◌then◌else◌}
use Rattle.jpeg_bits.proofs.ReadIntervals.{all-append}
use Rattle.jpeg_bits.specs.Passes.{Pass, band_of, band_size, before_band, with_band}
use Rattle.jpeg_bits.specs.BlockView.{dc_in}
use Rattle.jpeg_bits.specs.Codes.{Table}
use Rattle.jpeg_meaning.specs.Levels.{Is8Bit, floor_at, toward_zero}
use Rattle.jpeg_meaning.specs.WrittenData.{no_numbers}
use Rattle.jpeg_meaning.proofs.Written.CutLevels.{around-band}
use Rattle.jpeg_meaning.proofs.Written.WrittenBands.{abs-scaled}
use Rattle.jpeg_meaning.proofs.Written.WrittenRefinements.{neg-times}
use Rattle.zaxbriar_strict.specs.Bands.{block_in}
use Rattle.zaxbriar_strict.specs.Changes.{IsReady}
use Rattle.zaxbriar_strict.specs.Data.{Data}
use Rattle.zaxbriar_strict.specs.Sent.{ReadsSentDc, scaled_by, sent_before}
use Rattle.zaxbriar_strict.proofs.Changes.{all-first, all-second}
use Rattle.zaxbriar_strict.proofs.SentBlocks.{dc_pass}

-- A DC coefficient of 8-bit samples.
pub record IsDc (z : ℤ) : Type 0 where
  pub low : negsuc 1023 ≤ℤ z
  pub high : z ≤ℤ pos 1023

double : (al : ℕ) → 2 ^ suc al ≡ 2 * 2 ^ al
double al = let e : 2 ^ al * 2 ≡ 2 * 2 ^ al = omega arith in pow-suc 2 al ∙ e

half-most : (n k : ℕ) → n / 2 * (2 * k) ≤ n * k
half-most n k =
    let h : n / 2 * 2 ≤ n = omega arith in
    let m = mul-le-mul_right k h in
    let a = mul_assoc (n / 2) 2 k in
    omega (arith, m, a)

half-next : (al n : ℕ) → al ≤ 7 → suc n * 2 ^ al ≤ 1024 → suc (n / 2) * 2 ^ suc al ≤ 1024
half-next al n low h =
    let j = 9 - al in
    let m = 2 ^ j in
    let k = 2 ^ al in
    let size : m * 2 ^ suc al ≡ 1024 = sym (pow-add 2 j (suc al)) ∙ ap (λ (x : ℕ). 2 ^ x)
    (let e : j + suc al ≡ 10 = omega (arith, low) in e) in
    let some = pow_pos al in
    let whole : 2 * m * k ≡ 1024 = (
    let a = mul_assoc m 2 k in
    let b : m * 2 ≡ 2 * m = omega arith in
    ap (λ (x : ℕ). x * k) (sym b) ∙ a ∙ ap (λ (x : ℕ). m * x) (sym (double al)) ∙ size
    ) in
    let next : (2 * m + 1) * k ≡ 1024 + k = add-mul (2 * m) 1 k ∙ ap (λ (x : ℕ). x + 1 * k) whole
    ∙ ap (λ (x : ℕ). 1024 + x) (one-mul k) in
    let lt : suc n * k < (2 * m + 1) * k = omega (arith, h, next, some) in
    let few : suc n < 2 * m + 1 = lt_of_mul-lt-mul_right k lt in
    let half : suc (n / 2) ≤ m = omega (arith, few) in
    let most = mul-le-mul_right (2 ^ suc al) half in
    omega (arith, most, size)

pub floor-dc : (al : ℕ) (u : ℤ) → al ≤ 7 → IsDc (u *ℤ pos (2 ^ al)) → IsDc (floor_at 1 u *ℤ pos (2 ^ suc al))
floor-dc al (pos n) low d =
    let h : n * 2 ^ al ≤ 1023 = (let q = d.high in omega (arith, ints, q)) in
    let m = half-most n (2 ^ al) in
    let e : n / 2 * 2 ^ suc al ≡ n / 2 * (2 * 2 ^ al) = ap (λ (k : ℕ). n / 2 * k) (double al) in
    let g : n / 2 * 2 ^ suc al ≤ 1023 = omega (arith, h, m, e) in
    record { low = omega (arith, ints); high = omega (arith, ints, g) }
floor-dc al (negsuc n) low d =
    let e = neg-times (suc n) (2 ^ al) in
    let h : suc n * 2 ^ al ≤ 1024 = (let q = d.low in omega (arith, ints, q, e)) in
    let g = half-next al n low h in
    let f = neg-times (suc (n / 2)) (2 ^ suc al) in
    record { low = omega (arith, ints, g, f); high = omega (arith, ints, f) }

pub dc-in-range : (first : Bool) (al : ℕ) (table : Table) (before after : ℤ) (old new : List ℤ) (from to : Data)
    → IsReady (dc_pass first al) old → ReadsSentDc (dc_pass first al) table before after old new from to → al ≤ 7
    → Is8Bit (block_in new) → Is8Bit (block_in old)
dc-in-range first al table before after old new from to ready r low b =
    let dc = go first ready r in
    record {
      count = ap length (sym r.others) ∙ b.count;
      dc_low = dc.low;
      dc_high = dc.high;
      acs = subst (λ (l : List ℤ). AllByRecursion (λ (x : ℤ). unsigned_abs x ≤ 1023) l) r.others b.acs;
    }
  where
    go : (f : Bool) → IsReady (dc_pass f al) old → ReadsSentDc (dc_pass f al) table before after old new from to
        → IsDc (dc_in old)
    go true ready r =
        subst (λ (z : ℤ). IsDc z) (sym (ready.dc_first refl refl))
        (record { low = omega (arith, ints); high = omega (arith, ints) })
    go false ready r =
        subst (λ (z : ℤ). IsDc z) (sym (r.was refl refl))
        (floor-dc al r.number low
        (subst (λ (z : ℤ). IsDc z) (r.is refl) (record { low = b.dc_low; high = b.dc_high })))

-- ---- AC

abs-neg : (m : ℕ) → unsigned_abs (neg_ℤ (pos m)) ≡ m
abs-neg zero = refl
abs-neg (suc m) = refl

abs-half : (u : ℤ) → unsigned_abs (toward_zero 1 u) ≡ unsigned_abs u / 2
abs-half (pos n) = refl
abs-half (negsuc n) = abs-neg (suc n / 2)

shrinks : (al : ℕ) (u : ℤ) → unsigned_abs (u *ℤ pos (2 ^ al)) ≤ 1023
    → unsigned_abs (toward_zero 1 u *ℤ pos (2 ^ suc al)) ≤ 1023
shrinks al u h =
    let a = abs-scaled al u in
    let b = abs-scaled (suc al) (toward_zero 1 u) in
    let m = half-most (unsigned_abs u) (2 ^ al) in
    let e : unsigned_abs (toward_zero 1 u) * 2 ^ suc al ≡ unsigned_abs u / 2 * (2 * 2 ^ al) =
    ap₂ (λ (x y : ℕ). x * y) (abs-half u) (double al) in
    omega (arith, h, a, b, m, e)

abbrev Small : ℤ → Type 0
Small x = unsigned_abs x ≤ 1023

all-shrink : (al : ℕ) (us : List ℤ) → AllByRecursion Small (scaled_by al us)
    → AllByRecursion Small (scaled_by (suc al) (map (toward_zero 1) us))
all-shrink al [] all = tt
all-shrink al (u ∷ us) all = (shrinks al u all.0, all-shrink al us all.1)

all-zero : (n : ℕ) → AllByRecursion Small (no_numbers n)
all-zero zero = tt
all-zero (suc n) = (omega (arith, ints), all-zero n)

band-small : (p : Pass) (numbers : List ℤ) → AllByRecursion Small (scaled_by p.al numbers)
    → AllByRecursion Small (sent_before p numbers)
band-small p numbers all = go p.is_first
  where
    go : (f : Bool) → AllByRecursion Small (if f then no_numbers (length numbers)
        else scaled_by (suc p.al) (map (toward_zero 1) numbers))
    go true = all-zero (length numbers)
    go false = all-shrink p.al numbers all

pub acs-small : (p : Pass) (xs numbers : List ℤ) → band_of p xs ≡ sent_before p numbers
    → AllByRecursion Small (with_band p xs (scaled_by p.al numbers)) → AllByRecursion Small xs
acs-small p xs numbers was all =
    let b = before_band p in
    let s = band_size p in
    let sent = scaled_by p.al numbers in
    let front = all-first Small (take b xs) (sent ++ drop (b + s) xs) all in
    let later = all-second Small (take b xs) (sent ++ drop (b + s) xs) all in
    let middle = all-first Small sent (drop (b + s) xs) later in
    let end = all-second Small sent (drop (b + s) xs) later in
    subst (λ (l : List ℤ). AllByRecursion Small l) (around-band p xs)
    (all-append Small (take b xs) (band_of p xs ++ drop (b + s) xs) front
    (all-append Small (band_of p xs) (drop (b + s) xs)
    (subst (λ (l : List ℤ). AllByRecursion Small l) (sym was) (band-small p numbers middle)) end))
