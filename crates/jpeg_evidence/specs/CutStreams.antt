-- Streams that are cut or damaged, worked by hand, and what they show.
use Rattle.std.specs.Prelude.{ℕ, ◌+◌, ◌-◌, ◌*◌, List, [], ◌∷◌, ◌++◌, length, map, take, replicate}
use Rattle.std.specs.Prelude.{pos, Option, Result, Ok, Err}
use Rattle.jpeg_bits.specs.Passes.{Block}
use Rattle.jpeg_bits.specs.Reading.{Fault, ◌>>=◌}
use Rattle.jpeg_bits.specs.declared.huffman.codes.HuffmanTableClass.TheVariants.{DC, AC}
use Rattle.jpeg_segments.specs.Frame.{Frame, frame_of}
use Rattle.jpeg_meaning.specs.Found.{with_said}
use Rattle.jpeg_meaning.specs.Order.{Spot}
use Rattle.jpeg_meaning.specs.ScanSegments.{Coding}
use Rattle.jpeg_meaning.specs.Output.{default_settings}
use Rattle.jpeg_meaning.specs.Shown.{Shown, shown, shown_rest}
use Rattle.jpeg_meaning.specs.Stream.{header_at, sized_to}
use Rattle.jpeg_meaning.specs.Worked.{colour_frame, grey_frame, image_with, one_code}
use Rattle.jpeg_meaning.specs.Worked.{quantization_of, restart_interval, scan_text, stream_parts}
use Rattle.jpeg_meaning.specs.Worked.{stream_with}
use Rattle.jpeg_meaning.specs.Worked.{two_codes}
use Rattle.jpeg_evidence.specs.FoundTables.{factors_with, one_symbol}

-- the picture and the first fault, or why there is no picture
abbrev pub picture_and_fault : Result Shown Fault → Result (List ℕ × Option Fault) Fault
picture_and_fault (Ok s) = Ok (s.picture, s.fault)
picture_and_fault (Err e) = Err e

abbrev pub seen : List ℕ → Result (List ℕ × Option Fault) Fault
seen bytes = picture_and_fault (shown default_settings bytes)

-- the same where the picture is to be at least that wide or that high
abbrev pub seen_sized : ℕ → ℕ → List ℕ → Result (List ℕ × Option Fault) Fault
seen_sized width height bytes =
    header_at bytes >>= λ header. picture_and_fault
    (shown_rest default_settings (with_said (sized_to width height) header.0) header.1)

-- without its last n bytes
abbrev pub without_last : ℕ → List ℕ → List ℕ
without_last n bytes = take (length bytes - n) bytes

-- 16 by 8 samples: DC 8 and DC 16, in six bits each
abbrev pub two_blocks : List ℕ
two_blocks = stream_with 16 (65 ∷ 15 ∷ [])

-- the same blocks, one below the other
abbrev pub block_below : List ℕ
block_below = stream_parts 16 8 (65 ∷ 15 ∷ []) []

-- their frame, how its component is coded, and the blocks
abbrev pub frame_of_two : Frame
frame_of_two = frame_of 0 8 8 16 (factors_with 1 1 1 0 ∷ [])

abbrev pub codings_of_two : List Coding
codings_of_two = map (λ c. record {
  index = 0;
  component = c;
  quantization = replicate 64 1;
  dc = one_symbol DC 4;
  ac = one_symbol AC 0;
}) frame_of_two.components

-- a frame of three components, 2 by 64 samples, with these sampling factors of the first
abbrev pub frame_of_three : ℕ → ℕ → Frame
frame_of_three h v =
    frame_of 0 8 2 64 (factors_with 1 h v 0 ∷ factors_with 2 1 1 0 ∷ factors_with 3 1 1 0 ∷ [])

abbrev pub blocks_of_two : Spot → Block
blocks_of_two s = record { dc = pos (8 + 8 * s.index); acs = replicate 63 (pos 0) }

-- 24 by 8 samples: a band at level 1, and its refinement, of three bits a block
abbrev pub three_refined : List ℕ
three_refined =
    image_with (quantization_of 16 ∷ grey_frame 2 8 24 ∷ one_code 0 0 ∷ two_codes 16 1 0
    ∷ scan_text 1 0 0 0 (31 ∷ []) ∷ scan_text 1 1 2 1 (102 ∷ 111 ∷ [])
    ∷ scan_text 1 1 2 16 (36 ∷ 191 ∷ []) ∷ [])

-- 32 by 8 samples in four restart intervals, the second of which ends with the wrong marker
abbrev pub wrong_restart : List ℕ
wrong_restart =
    image_with (quantization_of 1 ∷ grey_frame 0 8 32 ∷ one_code 0 4 ∷ one_code 16 0
    ∷ restart_interval 1
    ∷ scan_text 1 0 63 0 (67 ∷ 255 ∷ 208 ∷ 67 ∷ 255 ∷ 210 ∷ 67 ∷ 255 ∷ 210 ∷ 67 ∷ []) ∷ [])

-- 16 by 8 samples in two restart intervals, the first of which goes on after its six bits
abbrev pub unread_bits : List ℕ
unread_bits =
    image_with (quantization_of 1 ∷ grey_frame 0 8 16 ∷ one_code 0 4 ∷ one_code 16 0
    ∷ restart_interval 1 ∷ scan_text 1 0 63 0 (replicate 9 67) ∷ [])

-- 8 by 8 samples: a block and 66 bits that it doesn't need, and FF FF 00, which is no marker
abbrev pub unread_end : List ℕ
unread_end = stream_with 8 (replicate 9 67 ++ (255 ∷ 255 ∷ 0 ∷ []))

-- an end of band that stands for two blocks, and bytes that end after it
abbrev pub run_at_end : List ℕ
run_at_end =
    image_with (quantization_of 1 ∷ grey_frame 2 8 16 ∷ one_code 0 4 ∷ one_code 16 16
    ∷ scan_text 1 0 0 0 (65 ∷ 192 ∷ []) ∷ scan_text 1 1 63 0 (63 ∷ []) ∷ [])

-- a lossless stream of lines of samples, each of category 1 and so of two bits
abbrev pub lines_of_samples : ℕ → ℕ → List ℕ → List ℕ
lines_of_samples height width data_bytes =
    image_with (grey_frame 3 height width ∷ one_code 0 1 ∷ scan_text 1 1 0 0 data_bytes ∷ [])

abbrev pub two_lines : List ℕ
two_lines = lines_of_samples 2 4 (85 ∷ 85 ∷ [])

-- the same, and then a second scan of other samples
abbrev pub two_lines_twice : List ℕ
two_lines_twice =
    image_with (grey_frame 3 2 4 ∷ one_code 0 1 ∷ scan_text 1 1 0 0 (85 ∷ 85 ∷ [])
    ∷ scan_text 1 1 0 0 (0 ∷ 0 ∷ []) ∷ [])

-- three lossless components of 1 by 4, 1 by 2 and 1 by 2 samples: an MCU has two, one and one
abbrev pub two_rows_of_mcus : List ℕ
two_rows_of_mcus =
    image_with (colour_frame 3 4 1 18 ∷ one_code 0 1 ∷ (255 ∷ 218 ∷ 0 ∷ 12 ∷ 3
    ∷ 82 ∷ 0 ∷ 71 ∷ 0 ∷ 66 ∷ 0 ∷ 1 ∷ 0 ∷ 0 ∷ 85 ∷ 85 ∷ []) ∷ [])

-- two lines of four samples in a restart interval each, with the wrong marker between them
abbrev pub wrong_row_restart : List ℕ
wrong_row_restart =
    image_with (grey_frame 3 2 4 ∷ one_code 0 1 ∷ restart_interval 4
    ∷ scan_text 1 1 0 0 (85 ∷ 255 ∷ 209 ∷ 85 ∷ []) ∷ [])

-- two components of a sequential frame were not sent
abbrev pub one_of_three : List ℕ
one_of_three =
    image_with (quantization_of 1 ∷ colour_frame 0 8 8 17 ∷ one_code 0 4 ∷ one_code 16 0
    ∷ scan_text 66 0 63 0 (123 ∷ []) ∷ [])

-- a progressive stream whose DC alone is sent, and after it another quantization table
abbrev pub requantized : List ℕ
requantized =
    image_with (quantization_of 1 ∷ grey_frame 2 8 8 ∷ one_code 0 4
    ∷ scan_text 1 0 0 0 (71 ∷ []) ∷ quantization_of 8 ∷ [])
