-- How the samples of a picture become the lines of a layout.
use Rattle.std.specs.Prelude.{◌≡◌, ℕ, zero, suc, ◌+◌, ◌-◌, ◌*◌, ◌/◌, ◌%◌, ◌^◌, ◌==◌, List}
use Rattle.std.specs.Prelude.{if◌then◌else◌}
use Rattle.std.specs.Prelude.{[], ◌∷◌, Bool, true, false, max, min, nat_le, option_map}
use Rattle.std.specs.Prelude.{◌++◌, drop, take, length, slice_index, Option, Some, None}
use Rattle.jpeg_decoder.specs.Bytes.{bytes_a_sample, samples_a_pixel}
use Rattle.jpeg_meaning.specs.declared.images.PixelFormat.{PixelFormat}
use Rattle.jpeg_meaning.specs.declared.images.PixelFormat.TheVariants.{L8, L16, RGB24, CMYK32}
use Rattle.zaxbriar_calls.specs.declared.layouts.Colour.{Colour}
use Rattle.zaxbriar_calls.specs.declared.layouts.Conversion.{Conversion}
use Rattle.zaxbriar_calls.specs.declared.layouts.Conversion.TheVariants.{Stored, InColour}
use Rattle.zaxbriar_calls.specs.declared.layouts.Layout.{Layout}
use Rattle.zaxbriar_calls.specs.declared.layouts.Layout.TheVariants.{Grey, Rgb, Rgba, Bgra, Bgr}
use Rattle.zaxbriar_calls.specs.declared.layouts.Layout.TheVariants.{Xrgb, Abgr, Rgb565}
use Rattle.zaxbriar_calls.specs.declared.layouts.Layout.TheVariants.{Grey16, Rgb16}

-- ---- a pixel as it is stored becomes a colour

-- the bytes of a pixel of a format and a precision
abbrev pub pixel_bytes : PixelFormat → ℕ → ℕ
pixel_bytes format precision = samples_a_pixel format * bytes_a_sample precision

-- a sample of a pixel whose samples have this precision: one byte up to 8 bits, and two above, the
-- lower first
abbrev pub sample_at : ℕ → List ℕ → ℕ → ℕ
sample_at precision pixel k = if nat_le precision 8 then slice_index pixel k
    else slice_index pixel (2 * k) + 256 * slice_index pixel (2 * k + 1)

-- the greatest sample of a precision, which is at most 16
abbrev pub greatest : ℕ → ℕ
greatest precision = 2 ^ max 1 (min precision 16) - 1

-- a sample from 0 to the greatest on the scale from 0 to `full`, rounded, and at most `full`: on
-- its own scale a sample stays as it is
abbrev pub scaled : ℕ → ℕ → ℕ → ℕ
scaled full most sample = min full ((sample * full + most / 2) / most)

-- a sample of a pixel on the scale from 0 to `full`
unfoldable pub level : ℕ → ℕ → List ℕ → ℕ → ℕ
level full precision pixel k = scaled full (greatest precision) (sample_at precision pixel k)

-- Red, green or blue of an ink and black, where `full` is full ink, without a profile.
abbrev pub light : ℕ → ℕ → ℕ → ℕ
light full ink black = ((full - ink) * (full - black) + full / 2) / full

abbrev pub colour : ℕ → ℕ → ℕ → Colour
colour red green blue = record { red = red; green = green; blue = blue }

-- The colour of a pixel of a format and a precision, each part from 0 to `full`. Grey is red, green
-- and blue alike.
abbrev pub colour_of : ℕ → PixelFormat → ℕ → List ℕ → Colour
colour_of full RGB24 precision p = colour (level full precision p 0) (level full precision p 1)
    (level full precision p 2)
colour_of full CMYK32 precision p =
    colour (light full (level full precision p 0) (level full precision p 3))
    (light full (level full precision p 1) (level full precision p 3))
    (light full (level full precision p 2) (level full precision p 3))
colour_of full _ precision p = colour (level full precision p 0) (level full precision p 0)
    (level full precision p 0)

-- ---- a colour becomes the bytes of a layout

-- the greatest part of a layout's colours
abbrev pub full_of : Layout → ℕ
full_of Grey16 = 65535
full_of Rgb16 = 65535
full_of _ = 255

-- the luma of a colour, by the weights 0.299, 0.587 and 0.114 of ITU-R BT.601 in 16 bits, rounded;
-- that of grey is grey
abbrev pub luma : Colour → ℕ
luma c = (19595 * c.red + 38470 * c.green + 7471 * c.blue + 32768) / 65536

-- a number of 16 bits as two bytes, the lower first
abbrev pub word : ℕ → List ℕ
word n = n % 256 ∷ n / 256 ∷ []

-- the upper 5 bits of red, 6 of green and 5 of blue, red uppermost
abbrev pub packed : Colour → ℕ
packed c = c.red / 8 * 2048 + c.green / 4 * 32 + c.blue / 8

abbrev pub bytes_of : Layout → Colour → List ℕ
bytes_of Grey c = luma c ∷ []
bytes_of Rgb c = c.red ∷ c.green ∷ c.blue ∷ []
bytes_of Rgba c = c.red ∷ c.green ∷ c.blue ∷ 255 ∷ []
bytes_of Bgra c = c.blue ∷ c.green ∷ c.red ∷ 255 ∷ []
bytes_of Bgr c = c.blue ∷ c.green ∷ c.red ∷ []
bytes_of Xrgb c = 255 ∷ c.red ∷ c.green ∷ c.blue ∷ []
bytes_of Abgr c = 255 ∷ c.blue ∷ c.green ∷ c.red ∷ []
bytes_of Rgb565 c = word (packed c)
bytes_of Grey16 c = word (luma c)
bytes_of Rgb16 c = word c.red ++ (word c.green ++ word c.blue)

-- ---- pixels and lines

abbrev pub pixel_of : Conversion → List ℕ → List ℕ
pixel_of Stored p = p
pixel_of (InColour format precision layout) p =
    bytes_of layout (colour_of (full_of layout) format precision p)

-- so many pixels of a row, each of so many samples
unfoldable pub pixels_of : (List ℕ → List ℕ) → ℕ → ℕ → List ℕ → List ℕ
pixels_of pixel stored zero row = []
pixels_of pixel stored (suc width) row =
    pixel (take stored row) ++ pixels_of pixel stored width (drop stored row)

-- a row of pixels, each of so many bytes, as a line of a layout
abbrev pub layout_line : Conversion → ℕ → ℕ → List ℕ → List ℕ
layout_line conversion stored width row = pixels_of (pixel_of conversion) stored width row

-- the bytes of a pixel in a layout, where it is stored in so many
abbrev pub layout_bytes : Layout → ℕ
layout_bytes Grey = 1
layout_bytes Rgb = 3
layout_bytes Bgr = 3
layout_bytes Rgb565 = 2
layout_bytes Grey16 = 2
layout_bytes Rgb16 = 6
layout_bytes _ = 4

abbrev pub converted_bytes : Conversion → ℕ → ℕ
converted_bytes Stored stored = stored
converted_bytes (InColour format precision layout) stored = layout_bytes layout

-- the layout of a number, and the conversion to it: 0 as stored, 1 grey, 2 RGB, 3 RGBA, 4 BGRA,
-- 5 BGR, 6 XRGB, 7 ABGR, 8 RGB565, 9 grey and 10 RGB of 16 bits a sample
abbrev pub layout_numbered : ℕ → Option Layout
layout_numbered n = if n == 1 then Some Grey
    else (if n == 2 then Some Rgb
    else (if n == 3 then Some Rgba
    else (if n == 4 then Some Bgra
    else (if n == 5 then Some Bgr
    else (if n == 6 then Some Xrgb
    else (if n == 7 then Some Abgr
    else (if n == 8 then Some Rgb565
    else (if n == 9 then Some Grey16
    else (if n == 10 then Some Rgb16 else None)))))))))

abbrev pub conversion_to : ℕ → PixelFormat → ℕ → Option Conversion
conversion_to layout format precision = if layout == 0 then Some Stored
    else option_map (λ l. InColour format precision l) (layout_numbered layout)

-- ---- lines

-- the bytes from the first of a picture to its last
abbrev pub size_of_lines : ℕ → ℕ → ℕ → ℕ
size_of_lines stride row_bytes height =
    if height == 0 then 0 else stride * (height - 1) + row_bytes

-- some bytes at the beginning of others
abbrev pub over : List ℕ → List ℕ → List ℕ
over new old = new ++ drop (length new) old

-- Of a row and so many others, that of the line that stands first in memory, and the others: the
-- first row, or from the bottom the last.
abbrev pub nearest_row : Bool → ℕ → ℕ → List ℕ → List ℕ
nearest_row bottom_up row others samples =
    take row (if bottom_up then drop (others * row) samples else samples)

abbrev pub other_rows : Bool → ℕ → List ℕ → List ℕ
other_rows bottom_up row samples = if bottom_up then samples else drop row samples

-- So many rows of samples, each as a line, one stride after the other, in the place of old bytes:
-- those between the lines, and those after the last, stay. The first row stands first, or from the
-- bottom last.
unfoldable pub laid_out : (List ℕ → List ℕ) → ℕ → ℕ → Bool → ℕ → List ℕ → List ℕ → List ℕ
laid_out line row stride bottom_up zero samples old = old
laid_out line row stride bottom_up (suc height) samples old =
    over (line (nearest_row bottom_up row height samples)) (take stride old)
    ++ laid_out line row stride bottom_up height (other_rows bottom_up row samples)
    (drop stride old)

-- ---- what the code asks of them

-- whether pixels stay as they are stored
abbrev pub is_stored : Conversion → Bool
is_stored Stored = true
is_stored (InColour L8 precision Grey) = precision == 8
is_stored (InColour RGB24 precision Rgb) = precision == 8
is_stored (InColour L16 precision Grey16) = precision == 16
is_stored (InColour RGB24 precision Rgb16) = precision == 16
is_stored _ = false

-- A conversion takes pixels that are stored in so many bytes.
abbrev pub TakesStored : Conversion → ℕ → Type 0
TakesStored Stored stored = Unit {0}
TakesStored (InColour format precision layout) stored = stored ≡ pixel_bytes format precision
