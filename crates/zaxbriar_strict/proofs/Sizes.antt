-- Sizes in parts, of which the last may be smaller.
use Rattle.std.proofs.Common.{◌≡◌, ◌≢◌, ℕ, ◌+◌, ◌-◌, ◌*◌, ◌/◌, ◌^◌, ◌<◌, ◌≤◌, sym, ap, ◌∙◌, arith}
use Rattle.std.proofs.Math.Nat.{add-mul, mul-le-mul_left}
use Rattle.std.proofs.lemmas.Nat.{div-mul-add, mul-le}
use Rattle.jpeg_segments.specs.Frame.{ceiling}

pub whole-parts : (n d q r : ℕ) → 1 ≤ d → q * d + r ≡ n → r ≡ 0 → q ≡ ceiling n d
whole-parts n d q r some e none =
    let lt : d - 1 < d = omega arith in
    let sum : n + (d - 1) ≡ q * d + (d - 1) = omega (arith, e, none) in
    sym (ap (λ (k : ℕ). k / d) sum ∙ div-mul-add q d (d - 1) lt)

pub last-part : (n d q r : ℕ) → q * d + r ≡ n → r < d → r ≢ 0 → q + 1 ≡ ceiling n d
last-part n d q r e below some =
    let product = add-mul q 1 d in
    let lt : r - 1 < d = omega arith in
    let sum : n + (d - 1) ≡ (q + 1) * d + (r - 1) = omega (arith, e, below, some, product) in
    sym (ap (λ (k : ℕ). k / d) sum ∙ div-mul-add (q + 1) d (r - 1) lt)

-- then the number of parts has 32 bits where the size has
pub parts-fit : (n d q r : ℕ) → q * d + r ≡ n → r < d → r ≢ 0 → n < 2 ^ 32 → q + 1 < 2 ^ 32
parts-fit n d q r e below some fits =
    let two : 2 ≤ d = omega arith in
    let h = mul-le-mul_left q two in
    omega (arith, h, e, fits)

pub product-fits : (a b : ℕ) → a ≤ 65535 → b ≤ 255 → a * b < 2 ^ 32
product-fits a b h k = (let m = mul-le a b 65535 255 h k in omega (arith, m))
