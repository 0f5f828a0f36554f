-- Streams that writers may emit, though T.81 doesn't allow them.
use Rattle.std.specs.Prelude.{ℕ, List, [], ◌∷◌}
use Rattle.jpeg_meaning.specs.WorkedImages.{in_column}
use Rattle.jpeg_meaning.specs.WrittenScans.{Coefficients}

-- An image of zeros.
unfoldable pub no_coefficients : Coefficients
no_coefficients index row column = in_column [] column

-- Its one block, 8 by 8 samples, by a table of AC codes 0 and 1: the second is of ones alone, which
-- C.2 reserves as the beginning of longer codes. It is not used.
abbrev pub code_of_ones : List ℕ
code_of_ones =
    255 ∷ 216 ∷ 255 ∷ 219 ∷ 0 ∷ 67 ∷ 0 ∷ 1 ∷ 1 ∷ 1 ∷ 1 ∷ 1 ∷ 1 ∷ 1 ∷ 1 ∷ 1 ∷ 1 ∷ 1 ∷ 1 ∷ 1 ∷ 1 ∷ 1 ∷
    1 ∷ 1 ∷ 1 ∷ 1 ∷ 1 ∷ 1 ∷ 1 ∷ 1 ∷ 1 ∷ 1 ∷ 1 ∷ 1 ∷ 1 ∷ 1 ∷ 1 ∷ 1 ∷ 1 ∷ 1 ∷ 1 ∷ 1 ∷ 1 ∷ 1 ∷ 1 ∷ 1 ∷
    1 ∷ 1 ∷ 1 ∷ 1 ∷ 1 ∷ 1 ∷ 1 ∷ 1 ∷ 1 ∷ 1 ∷ 1 ∷ 1 ∷ 1 ∷ 1 ∷ 1 ∷ 1 ∷ 1 ∷ 1 ∷ 1 ∷ 1 ∷ 1 ∷ 1 ∷ 1 ∷ 1 ∷
    1 ∷ 255 ∷ 192 ∷ 0 ∷ 11 ∷ 8 ∷ 0 ∷ 8 ∷ 0 ∷ 8 ∷ 1 ∷ 1 ∷ 17 ∷ 0 ∷ 255 ∷ 196 ∷ 0 ∷ 20 ∷ 0 ∷ 1 ∷ 0 ∷
    0 ∷ 0 ∷ 0 ∷ 0 ∷ 0 ∷ 0 ∷ 0 ∷ 0 ∷ 0 ∷ 0 ∷ 0 ∷ 0 ∷ 0 ∷ 0 ∷ 0 ∷ 255 ∷ 196 ∷ 0 ∷ 21 ∷ 16 ∷ 2 ∷ 0 ∷
    0 ∷ 0 ∷ 0 ∷ 0 ∷ 0 ∷ 0 ∷ 0 ∷ 0 ∷ 0 ∷ 0 ∷ 0 ∷ 0 ∷ 0 ∷ 0 ∷ 0 ∷ 240 ∷ 255 ∷ 218 ∷ 0 ∷ 8 ∷ 1 ∷ 1 ∷
    0 ∷ 0 ∷ 63 ∷ 0 ∷ 63 ∷ 255 ∷ 217 ∷ []
