-- The zigzag order of the indices of a block (T.81, A.3.6, Figure A.6).
use Rattle.std.specs.Prelude.{ℕ, List, [], ◌∷◌, map, slice_index, slice_index_or, ℤ, pos}

-- the index in the block, row * 8 + column, of each index in zigzag order
abbrev pub zigzag : List ℕ
zigzag =
    0 ∷ 1 ∷ 8 ∷ 16 ∷ 9 ∷ 2 ∷ 3 ∷ 10 ∷ 17 ∷ 24 ∷ 32 ∷ 25 ∷ 18 ∷ 11 ∷ 4 ∷ 5 ∷ 12 ∷ 19 ∷ 26 ∷ 33 ∷ 40
    ∷ 48 ∷ 41 ∷ 34 ∷ 27 ∷ 20 ∷ 13 ∷ 6 ∷ 7 ∷ 14 ∷ 21 ∷ 28 ∷ 35 ∷ 42 ∷ 49 ∷ 56 ∷ 57 ∷ 50 ∷ 43 ∷ 36
    ∷ 29 ∷ 22 ∷ 15 ∷ 23 ∷ 30 ∷ 37 ∷ 44 ∷ 51 ∷ 58 ∷ 59 ∷ 52 ∷ 45 ∷ 38 ∷ 31 ∷ 39 ∷ 46 ∷ 53 ∷ 60 ∷ 61
    ∷ 54 ∷ 47 ∷ 55 ∷ 62 ∷ 63 ∷ []

-- the index in zigzag order of each index in the block
unfoldable pub zigzag_indices : List ℕ
zigzag_indices =
    0 ∷ 1 ∷ 5 ∷ 6 ∷ 14 ∷ 15 ∷ 27 ∷ 28 ∷ 2 ∷ 4 ∷ 7 ∷ 13 ∷ 16 ∷ 26 ∷ 29 ∷ 42 ∷ 3 ∷ 8 ∷ 12 ∷ 17 ∷ 25
    ∷ 30 ∷ 41 ∷ 43 ∷ 9 ∷ 11 ∷ 18 ∷ 24 ∷ 31 ∷ 40 ∷ 44 ∷ 53 ∷ 10 ∷ 19 ∷ 23 ∷ 32 ∷ 39 ∷ 45 ∷ 52 ∷ 54
    ∷ 20 ∷ 22 ∷ 33 ∷ 38 ∷ 46 ∷ 51 ∷ 55 ∷ 60 ∷ 21 ∷ 34 ∷ 37 ∷ 47 ∷ 50 ∷ 56 ∷ 59 ∷ 61 ∷ 35 ∷ 36 ∷ 48
    ∷ 49 ∷ 57 ∷ 58 ∷ 62 ∷ 63 ∷ []

-- coefficients in zigzag order, in block order
unfoldable pub coefficients_in_block_order : List ℤ → List ℤ
coefficients_in_block_order coefficients =
    map (λ index. slice_index_or coefficients index (pos 0)) zigzag_indices

-- quantization values in zigzag order, in block order
unfoldable pub values_in_block_order : List ℕ → List ℕ
values_in_block_order values = map (λ index. slice_index values index) zigzag_indices

-- coefficients in block order, in zigzag order
unfoldable pub coefficients_in_zigzag : List ℤ → List ℤ
coefficients_in_zigzag coefficients =
    map (λ index. slice_index_or coefficients index (pos 0)) zigzag
