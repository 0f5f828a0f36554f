-- Division bit by bit.
use Rattle.std.proofs.Common.{◌≡◌, ◌∙◌, ℕ, zero, suc, ◌+◌, ◌-◌, ◌*◌, ◌/◌, ◌%◌, ◌^◌, ◌<◌, ◌≤◌, ap}
use Rattle.std.proofs.Common.{arith, pow-suc, mul_assoc}
use Rattle.std.proofs.Math.Nat.{add-mul, div-le_self, le-mul_of_pos_right}
use Rattle.std.proofs.lemmas.Nat.{div-add-mod', div-mul-add, pow_pos}

-- a digit of one bit, as a multiple
bit-times : (t q : ℕ) → t < 2 → t * q ≤ q
bit-times zero q h = omega arith
bit-times (suc zero) q h = omega arith
bit-times (suc (suc t)) q h = absurd (omega arith)

-- half a quotient is that by the double
halved : (n q : ℕ) → 0 < q → n / (2 * q) ≡ n / q / 2
halved n q some =
    let h = n / q / 2 in
    let t = n / q % 2 in
    let parts : n / q ≡ h * 2 + t = omega arith in
    let split : n / q * q ≡ h * (2 * q) + t * q =
    ap (λ k. k * q) parts ∙ omega (arith, add-mul (h * 2) t q, mul_assoc h 2 q) in
    let less : n % q < q = omega arith in
    let e : n ≡ h * (2 * q) + (t * q + n % q) = omega (arith, div-add-mod' n q, split) in
    ap (λ k. k / (2 * q)) e ∙ div-mul-add h (2 * q) (t * q + n % q) (omega (arith, bit-times t q, less))

-- the leading digits of a number with one more
next-bit : (n step : ℕ) → step < 11
    → 2 * (n / 2 ^ (11 - step)) + n / 2 ^ (10 - step) % 2 ≡ n / 2 ^ (10 - step)
next-bit n step lt =
    let q = 2 ^ (10 - step) in
    let e : 11 - step ≡ suc (10 - step) = omega arith in
    let twice : 2 ^ (11 - step) ≡ 2 * q = ap (λ k. 2 ^ k) e ∙ omega (arith, pow-suc 2 (10 - step)) in
    let half : n / 2 ^ (11 - step) ≡ n / q / 2 = ap (λ k. n / k) twice ∙ halved n q (pow_pos (10 - step)) in
    omega (arith, half)

-- how far a division of 1095 has come after some of its eleven digits
abbrev pub Divides : ℕ → ℕ → ℕ → ℕ → Type 0
Divides limit divisor rest step =
    (limit * divisor + rest ≡ 1095 / 2 ^ (11 - step)) × (rest < divisor) × (limit ≤ 1095) × (rest ≤ 1095)

at-most : (limit divisor rest step : ℕ) → limit * divisor + rest ≡ 1095 / 2 ^ (11 - step) → rest < divisor
    → Divides limit divisor rest step
at-most limit divisor rest step e lt =
    let n = div-le_self 1095 (2 ^ (11 - step)) in
    let some : 0 < divisor = omega arith in
    let le : limit ≤ limit * divisor = le-mul_of_pos_right limit some in
    (e, lt, omega (arith, e, n, le), omega (arith, e, n))

next : (n step : ℕ) → step < 11
    → 2 * (n / 2 ^ (11 - step)) + n / 2 ^ (10 - step) % 2 ≡ n / 2 ^ (11 - (step + 1))
next n step lt =
    let e : 10 - step ≡ 11 - (step + 1) = omega arith in
    next-bit n step lt ∙ ap (λ k. n / 2 ^ k) e

-- one more digit, where the divisor goes into the rest, and where it doesn't
pub goes : (limit divisor rest step : ℕ) → step < 11 → Divides limit divisor rest step
    → divisor ≤ 2 * rest + 1095 / 2 ^ (10 - step) % 2
    → Divides (2 * limit + 1) divisor (2 * rest + 1095 / 2 ^ (10 - step) % 2 - divisor) (step + 1)
goes limit divisor rest step lt h le =
    at-most _ divisor _ (step + 1)
    (omega (arith, add-mul (2 * limit) 1 divisor, mul_assoc 2 limit divisor, h.0, next 1095 step lt))
    (omega (arith, h.1))

pub stays : (limit divisor rest step : ℕ) → step < 11 → Divides limit divisor rest step
    → 2 * rest + 1095 / 2 ^ (10 - step) % 2 < divisor
    → Divides (2 * limit) divisor (2 * rest + 1095 / 2 ^ (10 - step) % 2) (step + 1)
stays limit divisor rest step lt h less =
    at-most _ divisor _ (step + 1) (omega (arith, mul_assoc 2 limit divisor, h.0, next 1095 step lt)) less
