-- The samples of a block (T.81, A.3.3), as functions of coordinates: the inverse transform in whole
-- numbers, columns first. The terms of a sum are added up as whole numbers, and the sum is wrapped
-- to an `i32` where the transform shifts it.
use Rattle.std.specs.Prelude.{◌≡◌, ℕ, zero, suc, ◌<◌, ◌+◌, ◌*◌, ◌==◌, Bool}
use Rattle.std.specs.Prelude.{if◌then◌else◌, List, [], ◌∷◌, ℤ, pos, negsuc, neg_ℤ, ◌+ℤ◌, ◌*ℤ◌}
use Rattle.std.specs.Prelude.{slice_index, slice_index_or, min, unsigned_abs}
use Rattle.std.specs.Int.{w32, int_wrap, int_shr}
use Rattle.std.specs.List.{list_all, range_with_len}

-- f 0 + f 1 + .. + f (n - 1)
abbrev pub sum_below : (ℕ → ℤ) → ℕ → ℤ
sum_below f zero = pos 0
sum_below f (suc n) = sum_below f n +ℤ f n

-- the number of a byte that is nearest
abbrev pub clamped : ℤ → ℕ
clamped (pos n) = min n 255
clamped (negsuc n) = 0

-- the matrix of the inverse transform of eight numbers, by rows, 4096 times its entries
abbrev pub basis_entries : List ℤ
basis_entries =
    pos 4096 ∷ pos 5683 ∷ pos 5352 ∷ pos 4816 ∷ pos 4096 ∷ pos 3219 ∷ pos 2217 ∷ pos 1131
    ∷ pos 4096 ∷ pos 4816 ∷ pos 2217 ∷ neg_ℤ (pos 1129) ∷ neg_ℤ (pos 4096) ∷ neg_ℤ (pos 5681)
    ∷ neg_ℤ (pos 5350) ∷ neg_ℤ (pos 3218)
    ∷ pos 4096 ∷ pos 3219 ∷ neg_ℤ (pos 2217) ∷ neg_ℤ (pos 5681) ∷ neg_ℤ (pos 4096) ∷ pos 1132
    ∷ pos 5350 ∷ pos 4816
    ∷ pos 4096 ∷ pos 1131 ∷ neg_ℤ (pos 5352) ∷ neg_ℤ (pos 3218) ∷ pos 4096 ∷ pos 4816
    ∷ neg_ℤ (pos 2217) ∷ neg_ℤ (pos 5680)
    ∷ pos 4096 ∷ neg_ℤ (pos 1131) ∷ neg_ℤ (pos 5352) ∷ pos 3218 ∷ pos 4096 ∷ neg_ℤ (pos 4816)
    ∷ neg_ℤ (pos 2217) ∷ pos 5680
    ∷ pos 4096 ∷ neg_ℤ (pos 3219) ∷ neg_ℤ (pos 2217) ∷ pos 5681 ∷ neg_ℤ (pos 4096)
    ∷ neg_ℤ (pos 1132) ∷ pos 5350 ∷ neg_ℤ (pos 4816)
    ∷ pos 4096 ∷ neg_ℤ (pos 4816) ∷ pos 2217 ∷ pos 1129 ∷ neg_ℤ (pos 4096) ∷ pos 5681
    ∷ neg_ℤ (pos 5350) ∷ pos 3218
    ∷ pos 4096 ∷ neg_ℤ (pos 5683) ∷ pos 5352 ∷ neg_ℤ (pos 4816) ∷ pos 4096 ∷ neg_ℤ (pos 3219)
    ∷ pos 2217 ∷ neg_ℤ (pos 1131) ∷ []

unfoldable pub basis : ℕ → ℕ → ℤ
basis row column = slice_index_or basis_entries (row * 8 + column) (pos 0)

-- the value at this index of the transform of the eight numbers s
unfoldable pub transformed : (ℕ → ℤ) → ℕ → ℤ
transformed s index = sum_below (λ k. basis index k *ℤ s k) 8

-- the coefficient at this row and column, times its quantization value
unfoldable pub dequantized : List ℤ → List ℕ → ℕ → ℕ → ℤ
dequantized coefficients quantization row column =
    slice_index_or coefficients (row * 8 + column) (pos 0) *ℤ pos
    (slice_index quantization (row * 8 + column))

-- the coefficient of this column in the row below row k is 0
abbrev pub is_zero_at : List ℤ → ℕ → ℕ → Bool
is_zero_at coefficients column k =
    unsigned_abs (slice_index_or coefficients (suc k * 8 + column) (pos 0)) == 0

-- below the first row, each coefficient of the column is 0
unfoldable pub is_flat_column : List ℤ → ℕ → Bool
is_flat_column coefficients column = list_all (is_zero_at coefficients column) (range_with_len 0 7)

-- the columns are transformed first: the value at this row of the column
unfoldable pub column_value : List ℤ → List ℕ → ℕ → ℕ → ℤ
column_value coefficients quantization row column =
    if is_flat_column coefficients column
    then int_wrap w32 (pos 4 *ℤ dequantized coefficients quantization 0 column)
    else int_shr (int_wrap w32 (transformed (λ k. dequantized coefficients quantization k column)
    row +ℤ pos 512)) 10

-- and then each row: the sample at (x, y)
unfoldable pub sample : List ℤ → List ℕ → ℕ → ℕ → ℕ
sample coefficients quantization x y =
    clamped (int_shr (int_wrap w32 (transformed (column_value coefficients quantization y) x
    +ℤ pos 16842752)) 17)

-- a block of one coefficient, the first
pub record HasFirstOnly (coefficients : List ℤ) : Type 0 where
  pub others : (k : ℕ) → 0 < k → k < 64 → slice_index_or coefficients k (pos 0) ≡ pos 0
