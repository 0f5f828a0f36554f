-- Streams and a frame that are worked by hand.
use Rattle.std.specs.Prelude.{ℕ, ◌+◌, List, [], ◌∷◌, ◌++◌, replicate, Result, Ok, Err, Option, None}
use Rattle.std.specs.Prelude.{true}
use Rattle.std.specs.List.{concat}
use Rattle.jpeg_bits.specs.Reading.{Fault}
use Rattle.jpeg_bits.specs.declared.color_transform.ColorTransform.{ColorTransform}
use Rattle.jpeg_segments.specs.Frame.{Factors, Frame, frame_of}
use Rattle.jpeg_meaning.specs.Output.{default_settings}
use Rattle.jpeg_segments.specs.declared.scale.Scale.{Scale}
use Rattle.jpeg_meaning.specs.FoundPlanes.{planes_of}
use Rattle.jpeg_meaning.specs.Stream.{Told, meaning, meaning_showing, scaled_meaning, sized_meaning}
use Rattle.jpeg_meaning.specs.declared.settings.Settings.{Settings}

-- ---- what a stream means

-- the picture that a stream means, or why it means none
abbrev pub picture_part : Result ((Told × List ℕ) × List ℕ) Fault → Result (List ℕ) Fault
picture_part (Ok x) = Ok x.0.1
picture_part (Err e) = Err e

abbrev pub picture_with : Settings → List ℕ → Result (List ℕ) Fault
picture_with settings bytes = picture_part (meaning settings bytes)

-- settings of a limit and a transform, if one is set, by which the luma is asked for
abbrev pub luma_within : ℕ → Option ColorTransform → Settings
luma_within limit transform =
    record { limit = limit; color_transform = transform; max_blocks = None; luma = true }

abbrev pub picture_meant : List ℕ → Result (List ℕ) Fault
picture_meant bytes = picture_with default_settings bytes

-- the planes of what a stream brings, within a limit on their samples, or why it gives none
abbrev pub planes_part : Result ((Told × List (List ℕ)) × List ℕ) Fault
    → Result (List (List ℕ)) Fault
planes_part (Ok x) = Ok x.0.1
planes_part (Err e) = Err e

abbrev pub planes_with : ℕ → List ℕ → Result (List (List ℕ)) Fault
planes_with limit bytes = planes_part (meaning_showing None (planes_of limit) bytes)

-- the picture at the least scale that is as wide or as high as this
abbrev pub picture_sized : ℕ → ℕ → List ℕ → Result (List ℕ) Fault
picture_sized width height bytes = picture_part (sized_meaning width height default_settings bytes)

-- the picture at a scale
abbrev pub picture_scaled : Scale → List ℕ → Result (List ℕ) Fault
picture_scaled scale bytes = picture_part (scaled_meaning scale default_settings bytes)

-- ---- segments

-- a quantization table of 64 times one value, for destination 0
abbrev pub quantization_of : ℕ → List ℕ
quantization_of value = 255 ∷ 219 ∷ 0 ∷ 67 ∷ 0 ∷ replicate 64 value

-- The header SOFn of a frame of 8 bits, with this height and width up to 255, and one component.
abbrev pub grey_frame : ℕ → ℕ → ℕ → List ℕ
grey_frame number height width =
    255 ∷ (192 + number) ∷ 0 ∷ 11 ∷ 8 ∷ 0 ∷ height ∷ 0 ∷ width ∷ 1 ∷ 1 ∷ 17 ∷ 0 ∷ []

-- The header of a frame of three components with the letters RGB, the first and the second of these
-- factors.
abbrev pub frame_by_factors : ℕ → ℕ → ℕ → ℕ → ℕ → List ℕ
frame_by_factors number height width first second =
    255 ∷ (192 + number) ∷ 0 ∷ 17 ∷ 8 ∷ 0 ∷ height ∷ 0 ∷ width ∷ 3
    ∷ 82 ∷ first ∷ 0 ∷ 71 ∷ second ∷ 0 ∷ 66 ∷ 17 ∷ 0 ∷ []

-- one with the first of these factors
abbrev pub colour_frame : ℕ → ℕ → ℕ → ℕ → List ℕ
colour_frame number height width factors = frame_by_factors number height width factors 17

-- A Huffman table for a class and destination, with one code of one bit.
abbrev pub one_code : ℕ → ℕ → List ℕ
one_code index symbol = 255 ∷ 196 ∷ 0 ∷ 20 ∷ index ∷ 1 ∷ (replicate 15 0 ++ symbol ∷ [])

-- One with a code of one bit and a code of two.
abbrev pub two_codes : ℕ → ℕ → ℕ → List ℕ
two_codes index first second =
    255 ∷ 196 ∷ 0 ∷ 21 ∷ index ∷ 1 ∷ 1 ∷ (replicate 14 0 ++ first ∷ second ∷ [])

-- A restart interval of this many MCUs, up to 255.
abbrev pub restart_interval : ℕ → List ℕ
restart_interval count = 255 ∷ 221 ∷ 0 ∷ 4 ∷ 0 ∷ count ∷ []

-- The header of a scan of one component, its band and its levels, and then its data.
abbrev pub scan_text : ℕ → ℕ → ℕ → ℕ → List ℕ → List ℕ
scan_text identifier first last levels data_bytes =
    255 ∷ 218 ∷ 0 ∷ 8 ∷ 1 ∷ identifier ∷ 0 ∷ first ∷ last ∷ levels ∷ data_bytes

-- The header of a scan of the letters RGB, and then its data.
abbrev pub scan_of_three : ℕ → List ℕ → List ℕ
scan_of_three last data_bytes =
    255 ∷ 218 ∷ 0 ∷ 12 ∷ 3 ∷ 82 ∷ 0 ∷ 71 ∷ 0 ∷ 66 ∷ 0 ∷ 0 ∷ last ∷ 0 ∷ data_bytes

-- SOI, these segments and scans, and EOI.
abbrev pub image_with : List (List ℕ) → List ℕ
image_with parts = 255 ∷ 216 ∷ (concat parts ++ 255 ∷ 217 ∷ [])

-- eight lines that are alike
abbrev pub eight_times : List ℕ → List ℕ
eight_times line = concat (replicate 8 line)

-- ---- sequential streams of one component

-- A frame of 8 lines with this height in its header, DC of category 4 and the end of the band as
-- the only codes, and one scan with these data; then more.
abbrev pub stream_parts : ℕ → ℕ → List ℕ → List (List ℕ) → List ℕ
stream_parts height width data_bytes more =
    image_with (quantization_of 1 ∷ grey_frame 0 height width ∷ one_code 0 4 ∷ one_code 16 0
    ∷ scan_text 1 0 63 0 data_bytes ∷ more)

abbrev pub stream_with : ℕ → List ℕ → List ℕ
stream_with width data_bytes = stream_parts 8 width data_bytes []

abbrev pub stream_without_height : ℕ → List ℕ
stream_without_height byte = stream_parts 0 8 (byte ∷ []) []

-- A block of one AC coefficient, cut to this height and width: quantization values of 64, DC of
-- category 0, and two codes for AC: 0 for a value of one bit, 10 for the end of the band.
abbrev pub one_coefficient : ℕ → ℕ → List ℕ
one_coefficient height width =
    image_with (quantization_of 64 ∷ grey_frame 0 height width ∷ one_code 0 0 ∷ two_codes 16 1 0
    ∷ scan_text 1 0 63 0 (55 ∷ []) ∷ [])

abbrev pub stream_of_one_coefficient : List ℕ
stream_of_one_coefficient = one_coefficient 8 8

-- two scans of the same component, by different quantization tables
abbrev pub scanned_twice : List ℕ
scanned_twice = stream_parts 8 8 (67 ∷ []) (quantization_of 8 ∷ scan_text 1 0 63 0 (67 ∷ []) ∷ [])

-- two blocks with a restart marker between them
abbrev pub with_restart : ℕ → List ℕ
with_restart number =
    image_with (quantization_of 1 ∷ grey_frame 0 8 16 ∷ one_code 0 4 ∷ one_code 16 0
    ∷ restart_interval 1 ∷ scan_text 1 0 63 0 (67 ∷ 255 ∷ number ∷ 67 ∷ []) ∷ [])

-- ---- streams of three components

-- in one scan
abbrev pub three_at_once : List ℕ
three_at_once =
    image_with (quantization_of 1 ∷ colour_frame 0 8 8 17 ∷ one_code 0 4 ∷ one_code 16 0
    ∷ scan_of_three 63 (64 ∷ 231 ∷ 191 ∷ []) ∷ [])

-- in a scan each
abbrev pub three_in_turn : List ℕ
three_in_turn =
    image_with (quantization_of 1 ∷ colour_frame 0 8 8 17 ∷ one_code 0 4 ∷ one_code 16 0
    ∷ scan_text 66 0 63 0 (123 ∷ []) ∷ scan_text 82 0 63 0 (67 ∷ []) ∷ scan_text 71 0 63 0 (59 ∷ [])
    ∷ [])

-- The first component has two blocks in an MCU.
abbrev pub two_to_one : List ℕ
two_to_one =
    image_with (quantization_of 1 ∷ colour_frame 0 8 16 33 ∷ one_code 0 4 ∷ one_code 16 0
    ∷ scan_of_three 63 (64 ∷ 228 ∷ 14 ∷ []) ∷ [])

-- The second component has two blocks in an MCU, by its factors, and the first is half as wide or
-- half as high as the picture.
abbrev pub larger_second : ℕ → ℕ → ℕ → List ℕ
larger_second height width factors =
    image_with (quantization_of 1 ∷ frame_by_factors 0 height width 17 factors ∷ one_code 0 4
    ∷ one_code 16 0 ∷ scan_of_three 63 (64 ∷ 228 ∷ 14 ∷ []) ∷ [])

-- The first component has two blocks across and two down in an MCU; a restart after each of two
-- MCUs. The quantization values are 8, so that a block of DC d alone is 64 samples of 128 + d.
abbrev pub two_by_two : List ℕ
two_by_two =
    image_with (quantization_of 8 ∷ colour_frame 0 16 32 34 ∷ one_code 0 4 ∷ one_code 16 0
    ∷ restart_interval 1
    ∷ scan_of_three 63 (65 ∷ 34 ∷ 142 ∷ 64 ∷ 239 ∷ 255 ∷ 208 ∷ 73 ∷ 66 ∷ 6 ∷ 64 ∷ 239 ∷ []) ∷ [])

-- The same factors, and each component alone in a scan: three times three blocks of the first,
-- which has four times four with its padding.
abbrev pub own_blocks : List ℕ
own_blocks =
    image_with (quantization_of 8 ∷ colour_frame 0 24 24 34 ∷ two_codes 0 4 0 ∷ one_code 16 0
    ∷ scan_text 82 0 63 0 (65 ∷ 34 ∷ 142 ∷ 81 ∷ 97 ∷ 140 ∷ 99 ∷ [])
    ∷ scan_text 71 0 63 0 (66 ∷ 73 ∷ []) ∷ scan_text 66 0 63 0 (58 ∷ 73 ∷ []) ∷ [])

-- ---- progressive streams

-- A band that was sent at level 1, and then more.
abbrev pub refined : List (List ℕ) → List ℕ
refined more =
    image_with (quantization_of 16 ∷ grey_frame 2 8 8 ∷ one_code 0 0 ∷ two_codes 16 1 0
    ∷ scan_text 1 0 0 0 (127 ∷ []) ∷ scan_text 1 1 2 1 (111 ∷ []) ∷ more)

-- An end of band that stands for two blocks.
abbrev pub run_of_blocks : List ℕ
run_of_blocks =
    image_with (quantization_of 1 ∷ grey_frame 2 8 16 ∷ one_code 0 4 ∷ one_code 16 16
    ∷ scan_text 1 0 0 0 (65 ∷ 192 ∷ []) ∷ scan_text 1 1 63 0 (63 ∷ []) ∷ [])

-- ---- the default tables

-- APP0 of an MJPEG frame, and no DHT: by Table K.3 category 4 is 101, by Table K.5 the end of the
-- band is 1010.
abbrev pub without_tables : List ℕ
without_tables =
    image_with ((255 ∷ 224 ∷ 0 ∷ 7 ∷ 65 ∷ 86 ∷ 73 ∷ 49 ∷ 0 ∷ []) ∷ quantization_of 1
    ∷ grey_frame 0 8 8 ∷ scan_text 1 0 63 0 (177 ∷ 95 ∷ []) ∷ [])

-- ---- streams that are refused

-- a restart marker before the frame
abbrev pub stray_marker : List ℕ
stray_marker =
    image_with (quantization_of 1 ∷ (255 ∷ 208 ∷ []) ∷ grey_frame 0 8 8 ∷ one_code 0 4
    ∷ one_code 16 0 ∷ scan_text 1 0 63 0 (67 ∷ []) ∷ [])

-- a DC difference of 12 bits
abbrev pub category_12 : List ℕ
category_12 =
    image_with (quantization_of 1 ∷ grey_frame 0 8 8 ∷ one_code 0 12 ∷ one_code 16 0
    ∷ scan_text 1 0 63 0 (64 ∷ 0 ∷ 127 ∷ []) ∷ [])

-- an MCU of 9 + 1 + 1 blocks
abbrev pub eleven_blocks : List ℕ
eleven_blocks =
    image_with (quantization_of 1 ∷ colour_frame 0 8 8 51 ∷ one_code 0 4 ∷ one_code 16 0
    ∷ scan_of_three 63 (64 ∷ []) ∷ [])

-- DC from level 2 to level 0 at once
abbrev pub by_two_levels : List ℕ
by_two_levels =
    image_with (quantization_of 1 ∷ grey_frame 2 8 8 ∷ one_code 0 0
    ∷ scan_text 1 0 0 2 (127 ∷ []) ∷ scan_text 1 0 0 32 (127 ∷ []) ∷ [])

-- ---- a frame

abbrev pub factors_by : ℕ → ℕ → Factors
factors_by identifier factor =
    record { identifier = identifier; horizontal = factor; vertical = factor; quantization = 0 }

-- 17 by 9 pixels, whose second and third components are half as wide and high
abbrev pub odd_frame : Frame
odd_frame = frame_of 0 8 17 9 (factors_by 1 2 ∷ factors_by 2 1 ∷ factors_by 3 1 ∷ [])
