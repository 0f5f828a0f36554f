-- How far the products of the transform's matrix are from those of cosines, computed.
use Rattle.std.proofs.Common.{◌≡◌, ℕ, ◌*◌, ◌<◌, ◌≤◌, ℤ, pos, ◌-ℤ◌, ◌*ℤ◌, ◌≤ℤ◌}
use Rattle.std.proofs.Common.{Bool, true, refl, arith, unsigned_abs, nat_le}
use Rattle.std.proofs.lemmas.Bool.{leb-true}
use Rattle.std.proofs.lemmas.Int.{ints}
use Rattle.std.specs.List.{list_all, range_with_len}
use Rattle.jpeg_bits.proofs.Ranges.{each_passes}
use Rattle.jpeg_pixels.specs.Samples.{sum_below, basis}
use Rattle.jpeg_evidence.specs.Cosines.{cosine}
use Rattle.jpeg_evidence.specs.Exact.{weight}
use Rattle.jpeg_evidence.proofs.Transform.Sums.{size_below}

abbrev is_small_row : ℕ → Bool
is_small_row row = nat_le (size_below (basis row) 8) 30610

sizes : list_all is_small_row (range_with_len 0 8) ≡ true
unfolding basis
sizes = refl

pub size_of_row : (row : ℕ) → row < 8 → size_below (basis row) 8 ≤ 30610
size_of_row row h = leb-true (size_below (basis row) 8) 30610 (each_passes is_small_row 0 8 row sizes (omega arith) h)

-- how far the product of two entries is from that of their cosines, in units of 1 / (8 * 10^24)
unfoldable pub error : ℕ → ℕ → ℕ → ℕ → ℤ
error x y u v =
    pos 59604644775390625 *ℤ (basis x u *ℤ basis y v) -ℤ pos 2 *ℤ (weight x u *ℤ weight y v)

unfoldable pub squared_errors : ℕ → ℕ → ℤ
squared_errors x y = sum_below (λ u. sum_below (λ v. error x y u v *ℤ error x y u v) 8) 8

-- 342 millionths of 8 * 10^24
abbrev pub greatest : ℕ
greatest = 2736000000000000000000

abbrev is_small : ℕ → ℕ → Bool
is_small x y = nat_le (unsigned_abs (squared_errors x y)) (greatest * greatest)

abbrev is_small_at : ℕ → Bool
is_small_at x = list_all (is_small x) (range_with_len 0 8)

are_small : list_all is_small_at (range_with_len 0 8) ≡ true
unfolding squared_errors error weight cosine basis
are_small = refl

pub errors_at_most : (x y : ℕ) → x < 8 → y < 8 → squared_errors x y ≤ℤ pos (greatest * greatest)
errors_at_most x y hx hy =
    let small = leb-true (unsigned_abs (squared_errors x y)) (greatest * greatest)
    (each_passes (is_small x) 0 8 y (each_passes is_small_at 0 8 x are_small (omega arith) hx) (omega arith) hy) in
    omega (arith, ints)
