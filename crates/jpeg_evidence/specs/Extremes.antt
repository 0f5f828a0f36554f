-- The extremes of what is written of 8-bit samples: DC of -1024 and 1023, AC of 1023 and -1023,
-- level 7, and restart intervals that change between scans.
use Rattle.std.specs.Prelude.{ℕ, List, [], ◌∷◌, replicate, pos, negsuc, get_or}
use Rattle.jpeg_bits.specs.Passes.{Block}
use Rattle.jpeg_meaning.specs.WorkedImages.{in_column}
use Rattle.jpeg_meaning.specs.WrittenScans.{Coefficients}

-- two blocks of one component
abbrev pub lowest : Block
lowest = record { dc = negsuc 1023; acs = pos 1023 ∷ negsuc 1022 ∷ replicate 61 (pos 0) }

abbrev pub highest : Block
highest = record { dc = pos 1023; acs = negsuc 1022 ∷ pos 1023 ∷ replicate 61 (pos 0) }

abbrev pub extreme_blocks : List (List (List Block))
extreme_blocks = ((lowest ∷ highest ∷ []) ∷ []) ∷ []

-- Beyond those all are zeros.
unfoldable pub extreme_array : Coefficients
extreme_array index row column = in_column (get_or (get_or extreme_blocks index []) row []) column

-- In one sequential scan: the difference of the two DC coefficients is 2047.
abbrev pub extreme_sequential : List ℕ
extreme_sequential =
    255 ∷ 216 ∷ 255 ∷ 219 ∷ 0 ∷ 67 ∷ 0 ∷ 1 ∷ 1 ∷ 1 ∷ 1 ∷ 1 ∷ 1 ∷ 1 ∷ 1 ∷ 1 ∷ 1 ∷ 1 ∷ 1 ∷ 1 ∷ 1 ∷ 1
    ∷ 1 ∷ 1 ∷ 1 ∷ 1 ∷ 1 ∷ 1 ∷ 1 ∷ 1 ∷ 1 ∷ 1 ∷ 1 ∷ 1 ∷ 1 ∷ 1 ∷ 1 ∷ 1 ∷ 1 ∷ 1 ∷ 1 ∷ 1 ∷ 1 ∷ 1 ∷ 1 ∷
    1 ∷ 1 ∷ 1 ∷ 1 ∷ 1 ∷ 1 ∷ 1 ∷ 1 ∷ 1 ∷ 1 ∷ 1 ∷ 1 ∷ 1 ∷ 1 ∷ 1 ∷ 1 ∷ 1 ∷ 1 ∷ 1 ∷ 1 ∷ 1 ∷ 1 ∷ 1 ∷ 1
    ∷ 1 ∷ 1 ∷ 255 ∷ 193 ∷ 0 ∷ 11 ∷ 8 ∷ 0 ∷ 8 ∷ 0 ∷ 16 ∷ 1 ∷ 1 ∷ 17 ∷ 0 ∷ 255 ∷ 196 ∷ 0 ∷ 31 ∷ 0 ∷
    0 ∷ 0 ∷ 0 ∷ 12 ∷ 0 ∷ 0 ∷ 0 ∷ 0 ∷ 0 ∷ 0 ∷ 0 ∷ 0 ∷ 0 ∷ 0 ∷ 0 ∷ 0 ∷ 0 ∷ 1 ∷ 2 ∷ 3 ∷ 4 ∷ 5 ∷ 6 ∷ 7
    ∷ 8 ∷ 9 ∷ 10 ∷ 11 ∷ 255 ∷ 196 ∷ 0 ∷ 31 ∷ 16 ∷ 0 ∷ 0 ∷ 0 ∷ 12 ∷ 0 ∷ 0 ∷ 0 ∷ 0 ∷ 0 ∷ 0 ∷ 0 ∷ 0 ∷
    0 ∷ 0 ∷ 0 ∷ 0 ∷ 0 ∷ 16 ∷ 1 ∷ 2 ∷ 3 ∷ 4 ∷ 5 ∷ 6 ∷ 7 ∷ 8 ∷ 9 ∷ 10 ∷ 255 ∷ 218 ∷ 0 ∷ 8 ∷ 1 ∷ 1 ∷
    0 ∷ 0 ∷ 63 ∷ 0 ∷ 183 ∷ 255 ∷ 0 ∷ 127 ∷ 253 ∷ 128 ∷ 1 ∷ 127 ∷ 254 ∷ 192 ∷ 11 ∷ 255 ∷ 0 ∷ 192 ∷
    255 ∷ 217 ∷ []

-- Progressive: DC and the first AC coefficient first at level 7, the latter in restart intervals of
-- one MCU, then each level down to 0 in refinements without restarts, and the rest of AC at once.
abbrev pub extreme_progressive : List ℕ
extreme_progressive =
    255 ∷ 216 ∷ 255 ∷ 219 ∷ 0 ∷ 67 ∷ 0 ∷ 1 ∷ 1 ∷ 1 ∷ 1 ∷ 1 ∷ 1 ∷ 1 ∷ 1 ∷ 1 ∷ 1 ∷ 1 ∷ 1 ∷ 1 ∷ 1 ∷ 1
    ∷ 1 ∷ 1 ∷ 1 ∷ 1 ∷ 1 ∷ 1 ∷ 1 ∷ 1 ∷ 1 ∷ 1 ∷ 1 ∷ 1 ∷ 1 ∷ 1 ∷ 1 ∷ 1 ∷ 1 ∷ 1 ∷ 1 ∷ 1 ∷ 1 ∷ 1 ∷ 1 ∷
    1 ∷ 1 ∷ 1 ∷ 1 ∷ 1 ∷ 1 ∷ 1 ∷ 1 ∷ 1 ∷ 1 ∷ 1 ∷ 1 ∷ 1 ∷ 1 ∷ 1 ∷ 1 ∷ 1 ∷ 1 ∷ 1 ∷ 1 ∷ 1 ∷ 1 ∷ 1 ∷ 1
    ∷ 1 ∷ 1 ∷ 255 ∷ 194 ∷ 0 ∷ 11 ∷ 8 ∷ 0 ∷ 8 ∷ 0 ∷ 16 ∷ 1 ∷ 1 ∷ 17 ∷ 0 ∷ 255 ∷ 196 ∷ 0 ∷ 31 ∷ 0 ∷
    0 ∷ 0 ∷ 0 ∷ 12 ∷ 0 ∷ 0 ∷ 0 ∷ 0 ∷ 0 ∷ 0 ∷ 0 ∷ 0 ∷ 0 ∷ 0 ∷ 0 ∷ 0 ∷ 0 ∷ 1 ∷ 2 ∷ 3 ∷ 4 ∷ 5 ∷ 6 ∷ 7
    ∷ 8 ∷ 9 ∷ 10 ∷ 11 ∷ 255 ∷ 196 ∷ 0 ∷ 31 ∷ 16 ∷ 0 ∷ 0 ∷ 0 ∷ 12 ∷ 0 ∷ 0 ∷ 0 ∷ 0 ∷ 0 ∷ 0 ∷ 0 ∷ 0 ∷
    0 ∷ 0 ∷ 0 ∷ 0 ∷ 0 ∷ 16 ∷ 1 ∷ 2 ∷ 3 ∷ 4 ∷ 5 ∷ 6 ∷ 7 ∷ 8 ∷ 9 ∷ 10 ∷ 255 ∷ 218 ∷ 0 ∷ 8 ∷ 1 ∷ 1 ∷
    0 ∷ 0 ∷ 0 ∷ 7 ∷ 71 ∷ 79 ∷ 255 ∷ 221 ∷ 0 ∷ 4 ∷ 0 ∷ 1 ∷ 255 ∷ 218 ∷ 0 ∷ 8 ∷ 1 ∷ 1 ∷ 0 ∷ 1 ∷ 1 ∷
    7 ∷ 78 ∷ 255 ∷ 208 ∷ 64 ∷ 255 ∷ 221 ∷ 0 ∷ 4 ∷ 0 ∷ 0 ∷ 255 ∷ 218 ∷ 0 ∷ 8 ∷ 1 ∷ 1 ∷ 0 ∷ 0 ∷ 0 ∷
    118 ∷ 64 ∷ 255 ∷ 218 ∷ 0 ∷ 8 ∷ 1 ∷ 1 ∷ 0 ∷ 0 ∷ 0 ∷ 101 ∷ 64 ∷ 255 ∷ 218 ∷ 0 ∷ 8 ∷ 1 ∷ 1 ∷ 0 ∷
    0 ∷ 0 ∷ 84 ∷ 64 ∷ 255 ∷ 218 ∷ 0 ∷ 8 ∷ 1 ∷ 1 ∷ 0 ∷ 0 ∷ 0 ∷ 67 ∷ 64 ∷ 255 ∷ 218 ∷ 0 ∷ 8 ∷ 1 ∷ 1
    ∷ 0 ∷ 0 ∷ 0 ∷ 50 ∷ 64 ∷ 255 ∷ 218 ∷ 0 ∷ 8 ∷ 1 ∷ 1 ∷ 0 ∷ 0 ∷ 0 ∷ 33 ∷ 64 ∷ 255 ∷ 218 ∷ 0 ∷ 8 ∷
    1 ∷ 1 ∷ 0 ∷ 0 ∷ 0 ∷ 16 ∷ 64 ∷ 255 ∷ 218 ∷ 0 ∷ 8 ∷ 1 ∷ 1 ∷ 0 ∷ 1 ∷ 1 ∷ 118 ∷ 22 ∷ 255 ∷ 218 ∷ 0
    ∷ 8 ∷ 1 ∷ 1 ∷ 0 ∷ 1 ∷ 1 ∷ 101 ∷ 22 ∷ 255 ∷ 218 ∷ 0 ∷ 8 ∷ 1 ∷ 1 ∷ 0 ∷ 1 ∷ 1 ∷ 84 ∷ 22 ∷ 255 ∷
    218 ∷ 0 ∷ 8 ∷ 1 ∷ 1 ∷ 0 ∷ 1 ∷ 1 ∷ 67 ∷ 22 ∷ 255 ∷ 218 ∷ 0 ∷ 8 ∷ 1 ∷ 1 ∷ 0 ∷ 1 ∷ 1 ∷ 50 ∷ 22 ∷
    255 ∷ 218 ∷ 0 ∷ 8 ∷ 1 ∷ 1 ∷ 0 ∷ 1 ∷ 1 ∷ 33 ∷ 22 ∷ 255 ∷ 218 ∷ 0 ∷ 8 ∷ 1 ∷ 1 ∷ 0 ∷ 1 ∷ 1 ∷ 16 ∷
    22 ∷ 255 ∷ 218 ∷ 0 ∷ 8 ∷ 1 ∷ 1 ∷ 0 ∷ 2 ∷ 63 ∷ 0 ∷ 176 ∷ 0 ∷ 47 ∷ 255 ∷ 0 ∷ 0 ∷ 255 ∷ 217 ∷ []
