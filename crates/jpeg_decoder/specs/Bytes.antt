-- How many bytes a picture has, and how many are taken while it is decoded.
use Rattle.std.specs.Prelude.{◌≡◌, ◌≤◌, ℕ, ◌*◌, ◌+◌, ◌==◌, Bool, false, if◌then◌else◌, max, nat_le}
use Rattle.std.specs.Prelude.{List, length, map, Option, Some, None, option_map, sum_by}
use Rattle.std.specs.List.{AllByRecursion}
use Rattle.jpeg_segments.specs.Frame.{Component, Frame}
use Rattle.jpeg_segments.specs.declared.frame.CodingProcess.{CodingProcess}
use Rattle.jpeg_segments.specs.declared.frame.CodingProcess.TheVariants.{DctSequential}
use Rattle.jpeg_segments.specs.declared.frame.CodingProcess.TheVariants.{DctProgressive, Lossless}
use Rattle.jpeg_meaning.specs.Pixels.{bytes_a_pixel, info_with, samples_shown}
use Rattle.jpeg_meaning.specs.declared.images.ImageInfo.{ImageInfo}
use Rattle.jpeg_meaning.specs.declared.images.PixelFormat.{PixelFormat}
use Rattle.jpeg_meaning.specs.declared.images.PixelFormat.TheVariants.{L16}
use Rattle.jpeg_meaning.specs.declared.settings.Settings.{Settings}
use Rattle.jpeg_meaning.specs.States.{Decoding}
use Rattle.jpeg_decoder.specs.ByRows.{strip_size, unit_lines}
use Rattle.jpeg_decoder.specs.declared.sizes.DecodingBytes.{DecodingBytes}

-- ---- the picture

-- the bytes of a sample: one up to 8 bits, and two above
abbrev pub bytes_a_sample : ℕ → ℕ
bytes_a_sample precision = if nat_le precision 8 then 1 else 2

-- the samples of a pixel, by its format
abbrev pub samples_a_pixel : PixelFormat → ℕ
samples_a_pixel L16 = 1
samples_a_pixel format = bytes_a_pixel format

-- the size and the format of a picture, the samples of a pixel, and the bits of a sample
pub record Shape : Type 0 where
  pub info : ImageInfo
  pub samples : ℕ
  pub precision : ℕ

-- that of the picture of a frame where a pixel has this many samples
abbrev pub shape_with : ℕ → Frame → Shape
shape_with samples f = record {
  info = info_with samples f;
  samples = samples;
  precision = f.precision;
}

-- that of the picture of a frame by the settings
abbrev pub shape_of : Settings → Frame → Shape
shape_of settings f = shape_with (samples_shown settings f) f

-- that of the picture of a decoder, once it has a frame
abbrev pub shape_in : Decoding → Option Shape
shape_in d = option_map (shape_of d.settings) d.found.said.frame

-- the bytes of a pixel of a shape
abbrev pub pixel_bytes : Shape → ℕ
pixel_bytes s = s.samples * bytes_a_sample s.precision

-- the bytes of a picture
unfoldable pub picture_size : Shape → ℕ
picture_size s = s.info.width * s.info.height * pixel_bytes s

-- those of the picture of a frame of blocks, by what `info` says of it
abbrev pub HasBytes : CodingProcess → ImageInfo → List ℕ → Type 0
HasBytes Lossless info pixels = Unit {0}
HasBytes _ info pixels = length pixels ≡ info.width * info.height * bytes_a_pixel info.pixel_format

-- A picture has the bytes of its shape, and one of blocks those that its format says.
abbrev pub IsWhole : Option Shape → List ℕ → Type 0
IsWhole None pixels = Unit {0}
IsWhole (Some s) pixels = (length pixels ≡ picture_size s)
    × HasBytes s.info.coding_process s.info pixels

-- the bytes of a line of a picture
unfoldable pub line_bytes : Shape → ℕ
line_bytes s = s.info.width * pixel_bytes s

-- each line has this many bytes
abbrev pub HaveBytes : ℕ → List (List ℕ) → Type 0
HaveBytes bytes lines = AllByRecursion (λ line. length line ≡ bytes) lines

-- The lines of a picture are as many and as long as its shape says.
abbrev pub AreLinesOf : Option Shape → List (List ℕ) → Type 0
AreLinesOf None lines = Unit {0}
AreLinesOf (Some s) lines = (length lines ≡ s.info.height) × HaveBytes (line_bytes s) lines

-- each has the bytes of a line of a picture
abbrev pub HaveLines : Option Shape → List (List ℕ) → Type 0
HaveLines None lines = Unit {0}
HaveLines (Some s) lines = HaveBytes (line_bytes s) lines

-- some lines of a picture, one after the other, each whole
abbrev pub AreWholeLines : Option Shape → List ℕ → Type 0
AreWholeLines None bytes = Unit {0}
AreWholeLines (Some s) bytes = (count : ℕ) × (length bytes ≡ count * line_bytes s)

-- this many bytes are enough for a picture
abbrev pub HasRoom : Option Shape → ℕ → Type 0
HasRoom None room = Unit {0}
HasRoom (Some s) room = picture_size s ≤ room

-- A pixel has as many samples as its format says.
abbrev pub IsCounted : Option Shape → Type 0
IsCounted None = Unit {0}
IsCounted (Some s) = s.samples ≡ samples_a_pixel s.info.pixel_format

-- ---- the planes of its components

-- One plane of each component, each of the component's own size.
abbrev pub AreOwnPlanes : Option Frame → List (List ℕ) → Type 0
AreOwnPlanes None planes = Unit {0}
AreOwnPlanes (Some f) planes = map (λ plane. length plane) planes
    ≡ map (λ c. c.width * c.height * bytes_a_sample f.precision) f.components

-- ---- what is taken while it is decoded

-- the coefficients of a component, two bytes each: of one row of MCUs in a sequential frame, and of
-- all its blocks in a progressive one
abbrev pub coefficient_bytes : CodingProcess → Component → ℕ
coefficient_bytes DctSequential c = 128 * (c.blocks_wide * c.factors.vertical)
coefficient_bytes DctProgressive c = 128 * (c.blocks_wide * c.blocks_high)
coefficient_bytes Lossless c = 0

-- the plane of a component: the samples of all its blocks, or those of a lossless one, two bytes
-- each
abbrev pub plane_bytes : CodingProcess → Component → ℕ
plane_bytes Lossless c = 2 * (c.width * c.height)
plane_bytes _ c = c.blocks_wide * c.scale * (c.blocks_high * c.scale)

-- The picture beside its planes: where a pixel of a frame of blocks has one sample, the plane of
-- that sample becomes the picture itself.
abbrev pub beside_planes : CodingProcess → ℕ → ℕ → ℕ
beside_planes Lossless samples picture = picture
beside_planes _ samples picture = if samples == 1 then 0 else picture

-- What is kept beside the blocks of a row of MCUs where lines are given as a scan is read: the
-- samples of two rows of MCUs, the lines that one decides, which may be a line more than it makes,
-- and room for a line.
unfoldable pub window_bytes : Frame → ℕ
window_bytes f = 2 * sum_by strip_size f.components
    + (unit_lines f.components + 2) * (length f.components * f.output_width)

-- What is kept where lines are given one after the other: of a sequential frame as its first scan
-- is read, and else of the planes. The luma alone is given of these, too.
abbrev pub rows_bytes : CodingProcess → Bool → ℕ → ℕ → ℕ → ℕ
rows_bytes DctSequential false coefficients planes window = coefficients + window
rows_bytes _ _ coefficients planes window = coefficients + planes

-- The blocks that are read, the planes and the picture, and the most of them at a time: blocks and
-- planes while scans are read, and planes and picture at the end.
abbrev pub bytes_of_shape : Bool → Shape → Frame → DecodingBytes
bytes_of_shape luma shape f =
    let coefficients = sum_by (coefficient_bytes f.process) f.components in
    let planes = sum_by (plane_bytes f.process) f.components in
    let picture = picture_size shape in
    let end = planes + beside_planes f.process shape.samples picture in
    record {
      coefficients = coefficients;
      planes = planes;
      picture = picture;
      peak = max (coefficients + planes) end;
      rows = rows_bytes f.process luma coefficients planes (window_bytes f);
    }

-- those of the picture of a frame by the settings
abbrev pub decoding_bytes : Settings → Frame → DecodingBytes
decoding_bytes settings f = bytes_of_shape settings.luma (shape_of settings f) f
