-- Two streams that are worked by hand, and the coefficients that they are written for.
use Rattle.std.specs.Prelude.{◌≡◌, ℕ, List, [], ◌∷◌, ◌++◌, replicate, ℤ, pos, negsuc, Some, get_or}
use Rattle.std.specs.List.{concat}
use Rattle.jpeg_bits.specs.Passes.{Block}
use Rattle.jpeg_segments.specs.Frame.{Frame}
use Rattle.jpeg_meaning.specs.Levels.{Levels}
use Rattle.jpeg_meaning.specs.Found.{Said}
use Rattle.jpeg_meaning.specs.WholeImages.{AllComplete}
use Rattle.jpeg_meaning.specs.Worked.{colour_frame, eight_times, grey_frame, image_with, one_code}
use Rattle.jpeg_meaning.specs.Worked.{quantization_of, restart_interval, scan_text, scan_of_three}
use Rattle.jpeg_meaning.specs.WrittenImages.{WritesImage}
use Rattle.jpeg_meaning.specs.WrittenScans.{Coefficients}

-- The bytes are a stream for the array, and every bit of its coefficients is sent.
pub record IsWhollyWritten (array : Coefficients) (bytes : List ℕ) : Type 0 where
  pub final : Said
  pub last : ℕ → Levels
  pub frame : Frame
  pub written : WritesImage array bytes final last
  pub framed : final.frame ≡ Some frame
  pub complete : AllComplete frame last

-- a block with this DC and no AC
abbrev pub flat_block : ℤ → Block
flat_block dc = record { dc = dc; acs = replicate 63 (pos 0) }

-- the block in a column of a list of blocks, and a block of zeros beyond them
abbrev pub in_column : List Block → ℕ → Block
in_column blocks column = get_or blocks column (flat_block (pos 0))

-- ---- a progressive stream: three blocks of one component

abbrev pub grey_blocks : List Block
grey_blocks =
    record { dc = pos 9; acs = pos 3 ∷ negsuc 0 ∷ replicate 61 (pos 0) }
    ∷ record { dc = negsuc 1; acs = negsuc 1 ∷ replicate 62 (pos 0) }
    ∷ flat_block (pos 7) ∷ []

abbrev pub grey_array : Coefficients
grey_array index row column = in_column grey_blocks column

-- Codes for AC: 0 for a value of one bit, 10 for the end of the band, 110 for that of two or three
-- blocks.
abbrev pub three_codes : List ℕ
three_codes = 255 ∷ 196 ∷ 0 ∷ 22 ∷ 16 ∷ 1 ∷ 1 ∷ 1 ∷ (replicate 13 0 ++ 1 ∷ 0 ∷ 16 ∷ [])

-- DC and AC at level 1, and a refinement of each. Code 0 stands for DC differences of category 3.
abbrev pub grey_bytes : List ℕ
grey_bytes =
    image_with (quantization_of 16 ∷ grey_frame 2 8 24 ∷ one_code 0 3 ∷ three_codes
    ∷ scan_text 1 0 0 1 (66 ∷ 79 ∷ []) ∷ scan_text 1 1 63 1 (99 ∷ 63 ∷ [])
    ∷ scan_text 1 0 0 16 (191 ∷ []) ∷ scan_text 1 1 63 16 (58 ∷ []) ∷ [])

-- a line of its picture, by the samples of the first block
abbrev pub grey_line : List ℕ → List ℕ
grey_line front = front ++ (118 ∷ 119 ∷ 121 ∷ 123 ∷ 125 ∷ 127 ∷ 129 ∷ 130 ∷ [] ++ replicate 8 142)

abbrev pub grey_picture : List ℕ
grey_picture =
    grey_line (152 ∷ 150 ∷ 148 ∷ 145 ∷ 142 ∷ 139 ∷ 136 ∷ 135 ∷ [])
    ++ (grey_line (152 ∷ 151 ∷ 148 ∷ 145 ∷ 142 ∷ 139 ∷ 137 ∷ 135 ∷ [])
    ++ (grey_line (153 ∷ 151 ∷ 149 ∷ 146 ∷ 143 ∷ 140 ∷ 137 ∷ 136 ∷ [])
    ++ (grey_line (154 ∷ 152 ∷ 150 ∷ 147 ∷ 144 ∷ 141 ∷ 138 ∷ 137 ∷ [])
    ++ (grey_line (155 ∷ 154 ∷ 151 ∷ 148 ∷ 145 ∷ 142 ∷ 140 ∷ 138 ∷ [])
    ++ (grey_line (156 ∷ 155 ∷ 152 ∷ 149 ∷ 146 ∷ 143 ∷ 141 ∷ 139 ∷ [])
    ++ (grey_line (157 ∷ 155 ∷ 153 ∷ 150 ∷ 147 ∷ 144 ∷ 141 ∷ 140 ∷ [])
    ++ (grey_line (157 ∷ 156 ∷ 153 ∷ 150 ∷ 147 ∷ 144 ∷ 142 ∷ 140 ∷ []))))))))

-- ---- a sequential stream: three components in one scan, with padding and a restart

-- The first component has three blocks, and the others two each.
abbrev pub colour_blocks : List (List Block)
colour_blocks =
    (flat_block (pos 8) ∷ flat_block (negsuc 0) ∷ flat_block (pos 9) ∷ [])
    ∷ (flat_block (negsuc 7) ∷ flat_block (negsuc 8) ∷ [])
    ∷ (flat_block (pos 15) ∷ flat_block (pos 12) ∷ []) ∷ []

abbrev pub colour_array : Coefficients
colour_array index row column = in_column (get_or colour_blocks index []) column

-- Two MCUs of four blocks, each an interval. The first component's second block in the second MCU
-- is padding, and is sent with DC -1.
abbrev pub colour_bytes : List ℕ
colour_bytes =
    image_with (quantization_of 16 ∷ colour_frame 0 8 24 33 ∷ one_code 0 4 ∷ one_code 16 0
    ∷ restart_interval 1
    ∷ scan_of_three 63 (64 ∷ 195 ∷ 158 ∷ 255 ∷ 208 ∷ 72 ∷ 163 ∷ 24 ∷ []) ∷ [])

-- The components are red, green and blue, and the last two are half as wide as the picture.
abbrev pub colour_picture : List ℕ
colour_picture =
    eight_times (concat (replicate 8 (144 ∷ 112 ∷ 158 ∷ []) ++ (replicate 7 (126 ∷ 112 ∷ 158 ∷ [])
    ++ ((126 ∷ 112 ∷ 157 ∷ []) ∷ (146 ∷ 111 ∷ 154 ∷ []) ∷ replicate 7 (146 ∷ 110 ∷ 152 ∷ [])))))
