-- Eight rows of eight short lanes, pairs of them, and what lets a block be transformed in them.
use Rattle.std.specs.Prelude.{◌≡◌, ℕ, ◌<◌, ◌≤◌, ◌/◌, ◌+ℤ◌, List, [], ◌∷◌, ℤ, pos, negsuc}
use Rattle.std.specs.Prelude.{slice_index, slice_index_or, min, max, unsigned_abs, map}
use Rattle.std.specs.List.{range_with_len}
use Rattle.std.specs.Int.{w32, int_wrap, int_shr}
use Rattle.jpeg_pixels.specs.declared.short_block.Pairs.{Pairs}
use Rattle.jpeg_pixels.specs.declared.short_block.ShortTable.{ShortTable}
use Rattle.jpeg_pixels.specs.declared.short_block.Shorts.{Shorts}
use Rattle.jpeg_pixels.specs.Lanes.{lanes}
use Rattle.jpeg_pixels.specs.Samples.{transformed}

-- in lane j of row k stands f k j
pub record HasShorts (rows : Shorts) (f : ℕ → ℕ → ℤ) : Type 0 where
  pub r0 : rows.r0 ≡ lanes (f 0)
  pub r1 : rows.r1 ≡ lanes (f 1)
  pub r2 : rows.r2 ≡ lanes (f 2)
  pub r3 : rows.r3 ≡ lanes (f 3)
  pub r4 : rows.r4 ≡ lanes (f 4)
  pub r5 : rows.r5 ≡ lanes (f 5)
  pub r6 : rows.r6 ≡ lanes (f 6)
  pub r7 : rows.r7 ≡ lanes (f 7)

-- a vector of sixteen lanes, by what stands in each
abbrev pub sixteen : (ℕ → ℤ) → List ℤ
sixteen f = map f (range_with_len 0 16)

-- eight of each of two functions, by turns
abbrev pub paired : (ℕ → ℤ) → (ℕ → ℤ) → List ℤ
paired f g =
    f 0 ∷ g 0 ∷ f 1 ∷ g 1 ∷ f 2 ∷ g 2 ∷ f 3 ∷ g 3
    ∷ f 4 ∷ g 4 ∷ f 5 ∷ g 5 ∷ f 6 ∷ g 6 ∷ f 7 ∷ g 7 ∷ []

-- in the pairs of each j stand f k j and f (k + 4) j
pub record HasPairs (pairs : Pairs) (f : ℕ → ℕ → ℤ) : Type 0 where
  pub p04 : pairs.p04 ≡ paired (f 0) (f 4)
  pub p15 : pairs.p15 ≡ paired (f 1) (f 5)
  pub p26 : pairs.p26 ≡ paired (f 2) (f 6)
  pub p37 : pairs.p37 ≡ paired (f 3) (f 7)

-- four of each of two functions, and then the next four of each
abbrev pub halves : {A : Type 0} → (ℕ → A) → (ℕ → A) → List A
halves f g =
    f 0 ∷ f 1 ∷ f 2 ∷ f 3 ∷ g 0 ∷ g 1 ∷ g 2 ∷ g 3
    ∷ f 4 ∷ f 5 ∷ f 6 ∷ f 7 ∷ g 4 ∷ g 5 ∷ g 6 ∷ g 7 ∷ []

-- eight fours: of each j, what the first four rows have there
abbrev pub fours : (ℕ → ℕ → ℕ) → List ℕ
fours f =
    f 0 0 ∷ f 1 0 ∷ f 2 0 ∷ f 3 0 ∷ f 0 1 ∷ f 1 1 ∷ f 2 1 ∷ f 3 1
    ∷ f 0 2 ∷ f 1 2 ∷ f 2 2 ∷ f 3 2 ∷ f 0 3 ∷ f 1 3 ∷ f 2 3 ∷ f 3 3
    ∷ f 0 4 ∷ f 1 4 ∷ f 2 4 ∷ f 3 4 ∷ f 0 5 ∷ f 1 5 ∷ f 2 5 ∷ f 3 5
    ∷ f 0 6 ∷ f 1 6 ∷ f 2 6 ∷ f 3 6 ∷ f 0 7 ∷ f 1 7 ∷ f 2 7 ∷ f 3 7
    ∷ []

-- a number that may be a limit of coefficients
abbrev pub IsLimit : ℤ → Type 0
IsLimit (pos n) = n ≤ 1095
IsLimit (negsuc n) = ⊥

-- the values of a quantization table, up to 1095
pub record HasValues (values : List ℤ) (quantization : List ℕ) : Type 0 where
  pub are : (k : ℕ) → k < 64
      → slice_index_or values k (pos 0) ≡ pos (min (slice_index quantization k) 1095)

-- what a quantization table is in lanes of 16 bits
pub record IsShortTable (table : ShortTable) (quantization : List ℕ) : Type 0 where
  pub values : HasValues table.values quantization
  pub limits : (k : ℕ) → k < 64
      → slice_index_or table.limits k (pos 0) ≡ pos (1095 / max (slice_index quantization k) 1)

-- No product of a coefficient and its quantization value is above 1095 in magnitude.
pub record HasShortProducts (coefficients : List ℤ) (quantization : List ℕ) : Type 0 where
  pub are : (k : ℕ) → k < 64
      → unsigned_abs (slice_index_or coefficients k (pos 0))
      ≤ 1095 / max (slice_index quantization k) 1

-- a sample before it is clamped, of the values of the columns at its row
unfoldable pub line_value : (ℕ → ℕ → ℤ) → ℕ → ℕ → ℤ
line_value values y x = int_shr (int_wrap w32 (transformed (values y) x +ℤ pos 16842752)) 17
