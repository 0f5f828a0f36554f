-- Bits and the number that they stand for.
use Rattle.std.proofs.Common.{rules, ◌≡◌, ℕ, ◌+◌, ◌*◌, ◌^◌, ◌<◌, ◌≤◌, Bool, true, false, cond, List, []}
use Rattle.std.proofs.Common.{◌∷◌, length, take, refl, ap, ◌∙◌, arith, length-take, pow-suc, mul_assoc, Option}
use Rattle.std.proofs.Common.{Some, None}
use lib.Arith.{digits_div}
use Rattle.std.proofs.Math.Nat.{add-mul, zero-mul, one-mul}
use Rattle.jpeg_bits.specs.Entropy.{number_of}
use Rattle.jpeg_bits.specs.Written.{low_bits}
use Rattle.jpeg_bits.proofs.WrittenBits.{number_onto}
use Rattle.jpeg_bits.proofs.Reservoirs.{low_bits-high}

number-split : (a : ℕ) (bs : List Bool) → number_onto a bs ≡ a * 2 ^ length bs + number_of bs
number-split a [] = omega arith
number-split a (b ∷ bs) =
    let c : ℕ = cond b 1 0 in
    let l = length bs in
    let w : 2 * a ≡ a * 2 = omega arith in
    grind (arith, add-mul, mul_assoc, pow-suc, number_onto, number-split c bs, number-split (2 * a + c) bs)

number-more : (b : Bool) (bs : List Bool) → number_of (b ∷ bs) ≡ cond b 1 0 * 2 ^ length bs + number_of bs
number-more b bs =
    let z : 2 * 0 + cond b 1 0 ≡ cond b 1 0 = omega arith in
    ap (λ (x : ℕ). number_onto x bs) z ∙ number-split (cond b 1 0) bs

number-below : (bs : List Bool) → number_of bs < 2 ^ length bs
number-below [] = omega arith
number-below (true ∷ bs) = search (rules, number-more, pow-suc, one-mul, number-below bs)
number-below (false ∷ bs) = grind (arith, number-more, pow-suc, zero-mul, number-below bs)

-- bits are the low bits of their number
bits-back : (bs : List Bool) → low_bits (length bs) (number_of bs) ≡ bs
unfolding low_bits
bits-back [] = refl
bits-back (b ∷ bs) = search (rules, number-more, digits_div, number-below, low_bits-high, bits-back bs)

pub front-number : (n : ℕ) (bits : List Bool) → n ≤ length bits
    → (low_bits n (number_of (take n bits)) ≡ take n bits) × (number_of (take n bits) < 2 ^ n)
front-number n bits le =
    let size : length (take n bits) ≡ n = omega (arith, length-take n bits) in
    grind (arith, bits-back, number-below)

pub some-is : {A : Type 0} (a b : A) → ◌≡◌ {A = Option A} (Some a) (Some b) → a ≡ b
some-is a b e = cc

pub none-is : {A : Type 0} (a : A) → ◌≡◌ {A = Option A} None (Some a) → ⊥
none-is a e = cc
