-- Eight rows of eight lanes, and the numbers that stand in them.
use Rattle.std.specs.Prelude.{◌≡◌, ℕ, ◌<◌, ◌≤◌, ◌+◌, ◌*◌, List, [], ◌∷◌, ℤ, pos, slice_index_or}
use Rattle.jpeg_pixels.specs.declared.arch.Rows.{Rows}
use Rattle.jpeg_pixels.specs.Lanes.{lane, lanes}

-- what stands in this lane of each row, from above
abbrev pub column_of : Rows → ℕ → List ℤ
column_of rows k = lane rows.r0 k ∷ lane rows.r1 k ∷ lane rows.r2 k ∷ lane rows.r3 k ∷ lane rows.r4
    k ∷ lane rows.r5 k ∷ lane rows.r6 k ∷ lane rows.r7 k ∷ []

-- what stands in this lane of this row
abbrev pub lane_at : Rows → ℕ → ℕ → ℤ
lane_at rows k j = slice_index_or (column_of rows j) k (pos 0)

-- in lane j of row k stands f k j
pub record HasNumbers (rows : Rows) (f : ℕ → ℕ → ℤ) : Type 0 where
  pub r0 : rows.r0 ≡ lanes (f 0)
  pub r1 : rows.r1 ≡ lanes (f 1)
  pub r2 : rows.r2 ≡ lanes (f 2)
  pub r3 : rows.r3 ≡ lanes (f 3)
  pub r4 : rows.r4 ≡ lanes (f 4)
  pub r5 : rows.r5 ≡ lanes (f 5)
  pub r6 : rows.r6 ≡ lanes (f 6)
  pub r7 : rows.r7 ≡ lanes (f 7)

-- the last four rows are 0
pub record HasZeros (rows : Rows) : Type 0 where
  pub r4 : rows.r4 ≡ lanes (λ _. pos 0)
  pub r5 : rows.r5 ≡ lanes (λ _. pos 0)
  pub r6 : rows.r6 ≡ lanes (λ _. pos 0)
  pub r7 : rows.r7 ≡ lanes (λ _. pos 0)

-- rows and columns exchanged
pub record IsTurned (rows turned : Rows) : Type 0 where
  pub r0 : turned.r0 ≡ column_of rows 0
  pub r1 : turned.r1 ≡ column_of rows 1
  pub r2 : turned.r2 ≡ column_of rows 2
  pub r3 : turned.r3 ≡ column_of rows 3
  pub r4 : turned.r4 ≡ column_of rows 4
  pub r5 : turned.r5 ≡ column_of rows 5
  pub r6 : turned.r6 ≡ column_of rows 6
  pub r7 : turned.r7 ≡ column_of rows 7

-- outside the top left corner of four rows and four columns, each coefficient is 0
pub record IsInCorner (coefficients : List ℤ) : Type 0 where
  pub right : (row column : ℕ) → row < 8 → 4 ≤ column → column < 8
      → slice_index_or coefficients (row * 8 + column) (pos 0) ≡ pos 0
  pub below : (row column : ℕ) → 4 ≤ row → row < 8 → column < 8
      → slice_index_or coefficients (row * 8 + column) (pos 0) ≡ pos 0
