-- The inverse cosine transform of T.81, A.3.3, and how far from it the decoder's samples are.
use Rattle.std.specs.Prelude.{ℕ, ◌+◌, ◌*◌, ◌==◌, if◌then◌else◌, List, ℤ, pos, ◌-ℤ◌, ◌+ℤ◌, ◌*ℤ◌}
use Rattle.std.specs.Prelude.{unsigned_abs}
use Rattle.std.specs.Int.{w32, int_shr, int_wrap}
use Rattle.jpeg_pixels.specs.Samples.{sum_below, transformed, dequantized, column_value}
use Rattle.jpeg_evidence.specs.Cosines.{cosine, unit}

-- C_k cos ((2 index + 1) k pi / 16), in units of 10^-12: C_0 is the cosine of 4 sixteenths of pi
unfoldable pub weight : ℕ → ℕ → ℤ
weight index k = cosine (if k == 0 then 4 else (2 * index + 1) * k)

-- A.3.3's sum for the sample at (x, y), without its factor 1/4, in units of 10^-24: d v u is the
-- coefficient of row v and column u, dequantized
unfoldable pub exact_sum : (ℕ → ℕ → ℤ) → ℕ → ℕ → ℤ
exact_sum d x y = sum_below (λ u. sum_below (λ v. weight x u *ℤ weight y v *ℤ d v u) 8) 8

-- the sum of the squares of a block's 64 numbers
unfoldable pub squares : (ℕ → ℕ → ℤ) → ℤ
squares d = sum_below (λ u. sum_below (λ v. d v u *ℤ d v u) 8) 8

-- the number that is clamped to the sample at (x, y)
unfoldable pub unclamped : List ℤ → List ℕ → ℕ → ℕ → ℤ
unclamped coefficients quantization x y =
    int_shr (int_wrap w32 (transformed (column_value coefficients quantization y) x
    +ℤ pos 16842752)) 17

-- the number of units of `distance` in a whole: 4 * 10^24
abbrev pub whole : ℕ
whole = 4 * (unit * unit)

-- How far that number is from A.3.3's sample, which is 128 and a quarter of the sum. The digits
-- that the cosines leave out change it by less than 10^-8 of a whole for the blocks of
-- `transform_is_near`.
unfoldable pub distance : List ℤ → List ℕ → ℕ → ℕ → ℕ
distance coefficients quantization x y =
    unsigned_abs (pos whole *ℤ (unclamped coefficients quantization x y -ℤ pos 128)
    -ℤ exact_sum (dequantized coefficients quantization) x y)
