-- Quotients that are rounded up.
use Rattle.std.proofs.Common.{◌≡◌, ◌≤◌, ◌<◌, ℕ, ◌+◌, ◌*◌, arith}
use Rattle.std.proofs.Math.Nat.{div-add-mod, mod-lt, mul-add, mul_assoc, mul_comm, lt_of_mul-lt-mul_left}
use Rattle.jpeg_segments.specs.Frame.{ceiling}
use Rattle.std.proofs.lemmas.Grind.{common_steps}

pub ceiling-low : (n d : ℕ) → 0 < d → n ≤ d * ceiling n d
ceiling-low n d some = grind (arith, common_steps, div-add-mod, mod-lt)

pub ceiling-high : (n d : ℕ) → 0 < d → d * ceiling n d < n + d
ceiling-high n d some = grind (arith, common_steps, div-add-mod)

-- the quotient is the least q with n ≤ d * q
pub ceiling-le : (n d q : ℕ) → 0 < d → n ≤ d * q → ceiling n d ≤ q
ceiling-le n d q some h = grind (arith, common_steps, ceiling-high, mul-add, lt_of_mul-lt-mul_left)

pub ceiling-eights : (n d : ℕ) → 0 < d → ceiling (n * 8) (d * 8) ≡ ceiling n d
ceiling-eights n d some = grind (arith, common_steps, ceiling-low, mul_assoc, mul_comm, ceiling-le)
