-- The transform is near the exact one.
use Rattle.std.proofs.lemmas.Grind.{common_steps}
use Rattle.std.proofs.Common.{rules, ◌≡◌, ℕ, ◌+◌, ◌*◌, ◌<◌, ◌≤◌, List, ℤ, pos, ◌+ℤ◌, ◌-ℤ◌, refl}
use Rattle.std.proofs.Common.{◌*ℤ◌, ◌≤ℤ◌, Bool, arith, unsigned_abs, le_trans, mul-le-mul_left}
use Rattle.std.proofs.lemmas.Int.{ints, int_wrap_fits}
use Rattle.std.specs.Int.{w32, int_shr, int_wrap}
use Rattle.jpeg_pixels.specs.Samples.{clamped, sample, sum_below, basis, transformed, dequantized, is_flat_column, column_value}
use Rattle.jpeg_pixels.proofs.ZeroCases.{zero_column}
use Rattle.jpeg_evidence.specs.Exact.{exact_sum, squares, unclamped, whole, distance}
use Rattle.jpeg_evidence.proofs.Transform.Sums.{drifted, bounded, each_at_most, products_of_rows, within_product}
use Rattle.jpeg_evidence.proofs.Transform.Sums.{one_sum, difference}
use Rattle.jpeg_evidence.proofs.Transform.Errors.{size_of_row, error, squared_errors, greatest, errors_at_most}

-- ---- the shifts round

rounded_column : (t : ℤ) → unsigned_abs t ≤ 62689280
    → unsigned_abs (pos 1024 *ℤ int_shr (int_wrap w32 (t +ℤ pos 512)) 10 -ℤ t) ≤ 512
rounded_column t h = grind (arith, int_wrap_fits)

rounded_row : (r : ℤ) → unsigned_abs r ≤ 1873974810
    → unsigned_abs (pos 131072 *ℤ (int_shr (int_wrap w32 (r +ℤ pos 16842752)) 17 -ℤ pos 128) -ℤ r) ≤ 65536
rounded_row r h = grind (arith, int_wrap_fits)

-- ---- no sum is too large

-- a transform of numbers of at most m
transform_at_most : (m : ℕ) (s : ℕ → ℤ) (index : ℕ) → index < 8 → ((k : ℕ) → k < 8 → unsigned_abs
    (s k) ≤ m)
    → unsigned_abs (transformed s index) ≤ m * 30610
unfolding transformed
transform_at_most m s index h small =
    le_trans (bounded m (basis index) s 8 small) (mul-le-mul_left m (size_of_row index h))

value_at_most : (w t : ℤ) → unsigned_abs (pos 1024 *ℤ w -ℤ t) ≤ 512 → unsigned_abs t ≤ 62689280
    → unsigned_abs w ≤ 61221
value_at_most w t h g = omega (arith, ints)

module _ (coefficients : List ℤ) (quantization : List ℕ) where
  -- a column's value, by the general case
  abbrev general_value : ℕ → ℕ → ℤ
  general_value row column =
      int_shr (int_wrap w32 (transformed (λ k. dequantized coefficients quantization k column) row +ℤ pos 512)) 10

  column_of : (row column : ℕ) (b : Bool) → row < 8 → is_flat_column coefficients column ≡ b
      → unsigned_abs (dequantized coefficients quantization 0 column) ≤ 2048
      → column_value coefficients quantization row column ≡ general_value row column
  unfolding column_value
  column_of row column x h flat small = grind (arith, ints, zero_column)

  -- the sums of a column
  abbrev column_sum : ℕ → ℕ → ℤ
  column_sum row column = transformed (λ k. dequantized coefficients quantization k column) row

  -- a block of numbers of at most 2048
  abbrev AreSmall : Type 0
  AreSmall = (u v : ℕ) → u < 8 → v < 8 → unsigned_abs (dequantized coefficients quantization v u) ≤ 2048

  column_sum_at_most : (row column : ℕ) → row < 8 → column < 8 → AreSmall
      → unsigned_abs (column_sum row column) ≤ 62689280
  column_sum_at_most row column h l small =
      transform_at_most 2048 (λ k. dequantized coefficients quantization k column) row h (λ k lk. small column k l lk)

  column_near : (row column : ℕ) → row < 8 → column < 8 → AreSmall →
      unsigned_abs (pos 1024 *ℤ column_value coefficients quantization row column -ℤ column_sum row column) ≤ 512
  column_near row column h l small = grind (arith, column_of, rounded_column, column_sum_at_most)

  row_at_most : (x y : ℕ) → x < 8 → y < 8 → AreSmall
      → unsigned_abs (transformed (column_value coefficients quantization y) x) ≤ 1873974810
  row_at_most x y hx hy small =
      transform_at_most 61221 (column_value coefficients quantization y) x hx (λ u l. value_at_most
      (column_value coefficients quantization y u) (column_sum y u) (column_near y u hy l small)
      (column_sum_at_most y u hy l small))

  -- the two roundings
  row_near : (x y : ℕ) → x < 8 → y < 8 → AreSmall →
      unsigned_abs (pos 131072 *ℤ (unclamped coefficients quantization x y -ℤ pos 128)
      -ℤ transformed (column_value coefficients quantization y) x) ≤ 65536
  unfolding unclamped
  row_near x y hx hy small = grind (arith, common_steps, rounded_row, row_at_most)

  columns_near : (x y : ℕ) → x < 8 → y < 8 → AreSmall →
      unsigned_abs (pos 1024 *ℤ transformed (column_value coefficients quantization y) x
      -ℤ transformed (column_sum y) x) ≤ 512 * 30610
  unfolding transformed
  columns_near x y hx hy small =
      le_trans (drifted (pos 1024) 512 (basis x) (column_value coefficients quantization y) (column_sum y) 8
      (λ u l. column_near y u hy l small)) (mul-le-mul_left 512 (size_of_row x hx))

-- ---- the errors of the matrix

-- the sum of the products with the errors
abbrev error_sum : (ℕ → ℕ → ℤ) → ℕ → ℕ → ℤ
error_sum d x y = sum_below (λ u. sum_below (λ v. error x y u v *ℤ d v u) 8) 8

errors_are : (d : ℕ → ℕ → ℤ) (x y : ℕ) →
    pos 59604644775390625 *ℤ transformed (λ u. transformed (λ v. d v u) y) x -ℤ pos 2 *ℤ exact_sum d x y
    ≡ error_sum d x y
unfolding transformed exact_sum error
errors_are d x y = search (rules, difference, one_sum)

errors_small : (d : ℕ → ℕ → ℤ) (n x y : ℕ) → x < 8 → y < 8 → squares d ≤ℤ pos (n * n)
    → unsigned_abs (error_sum d x y) ≤ greatest * n
unfolding squares squared_errors
errors_small d n x y hx hy h =
    within_product greatest n (error_sum d x y) (squared_errors x y)
    (sum_below (λ u. sum_below (λ v. d v u *ℤ d v u) 8) 8) (omega arith) (errors_at_most x y hx hy) h
    (λ a b. products_of_rows a b (error x y) (λ u v. d v u) 8 8)

-- ---- together

together : (s r t e f : ℤ) (n : ℕ) → unsigned_abs (pos 131072 *ℤ s -ℤ r) ≤ 65536
    → unsigned_abs (pos 1024 *ℤ r -ℤ t) ≤ 512 * 30610
    → pos 59604644775390625 *ℤ t -ℤ pos 2 *ℤ e ≡ f → unsigned_abs f ≤ greatest * n
    → 1000000 * unsigned_abs (pos whole *ℤ s -ℤ e) ≤ (617000 + 342 * n) * whole
together s r t e f n hs hr ht hf = omega (arith, ints)

pub near : (coefficients : List ℤ) (quantization : List ℕ) (n x y : ℕ) → n ≤ 2048 → x < 8 → y < 8
    → squares (dequantized coefficients quantization) ≤ℤ pos (n * n)
    → 1000000 * distance coefficients quantization x y ≤ (617000 + 342 * n) * whole
unfolding distance squares
near coefficients quantization n x y l hx hy h =
    let d = dequantized coefficients quantization in
    let small : AreSmall coefficients quantization = λ u v lu lv. le_trans (each_at_most d n h u v lu lv) l in
    together (unclamped coefficients quantization x y -ℤ pos 128)
    (transformed (column_value coefficients quantization y) x)
    (transformed (column_sum coefficients quantization y) x) (exact_sum d x y) (error_sum d x y) n
    (row_near coefficients quantization x y hx hy small) (columns_near coefficients quantization x y hx hy small)
    (errors_are d x y) (errors_small d n x y hx hy h)

less : (k : ℕ) → 1000000 * k ≤ (617000 + 342 * 1119) * whole → k < whole
less k h = omega arith

pub within_one : (coefficients : List ℤ) (quantization : List ℕ) (x y : ℕ) → x < 8 → y < 8
    → squares (dequantized coefficients quantization) ≤ℤ pos (1119 * 1119)
    → distance coefficients quantization x y < whole
within_one coefficients quantization x y hx hy h = search (rules, less, near)

pub clamps : (coefficients : List ℤ) (quantization : List ℕ) (x y : ℕ)
    → sample coefficients quantization x y ≡ clamped (unclamped coefficients quantization x y)
unfolding sample unclamped
clamps coefficients quantization x y = refl

pub ruleset nearness = (clamps, near, within_one)
