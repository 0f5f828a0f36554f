-- What a frame says of its picture: the size, and how the bytes stand for the pixels.
use Rattle.std.specs.Prelude.{ℕ, ◌==◌, if◌then◌else◌, nat_le, length}
use Rattle.jpeg_segments.specs.Frame.{Frame}
use Rattle.jpeg_segments.specs.declared.frame.CodingProcess.{CodingProcess}
use Rattle.jpeg_segments.specs.declared.frame.CodingProcess.TheVariants.{Lossless}
use Rattle.jpeg_meaning.specs.declared.settings.Settings.{Settings}
use Rattle.jpeg_meaning.specs.declared.images.ImageInfo.{ImageInfo}
use Rattle.jpeg_meaning.specs.declared.images.PixelFormat.{PixelFormat}
use Rattle.jpeg_meaning.specs.declared.images.PixelFormat.TheVariants.{L8, L16, RGB24, CMYK32}

-- one byte for each 8 bits of a sample, and one sample for each component
abbrev pub bytes_a_pixel : PixelFormat → ℕ
bytes_a_pixel L8 = 1
bytes_a_pixel L16 = 2
bytes_a_pixel RGB24 = 3
bytes_a_pixel CMYK32 = 4

-- one component has 8 or 16 bits a sample, three are red, green and blue, and four cyan, magenta,
-- yellow and black
abbrev pub format_of : ℕ → ℕ → PixelFormat
format_of count precision = if count == 3 then RGB24 else (if count == 4 then CMYK32
    else (if nat_le precision 8 then L8 else L16))

-- The samples of a pixel: one of each component; or where the luma is asked for, that alone, unless
-- the frame is lossless.
abbrev pub luma_samples : CodingProcess → ℕ → ℕ
luma_samples Lossless count = count
luma_samples _ count = 1

abbrev pub samples_shown : Settings → Frame → ℕ
samples_shown settings f = if settings.luma then luma_samples f.process (length f.components)
    else length f.components

-- its output size, its format and its process, where a pixel has this many samples
abbrev pub info_with : ℕ → Frame → ImageInfo
info_with samples f = record {
  width = f.output_width;
  height = f.output_height;
  pixel_format = format_of samples f.precision;
  coding_process = f.process;
}

-- that of the picture with a sample of each component, and of the picture by the settings
abbrev pub info_of : Frame → ImageInfo
info_of f = info_with (length f.components) f

abbrev pub info_by : Settings → Frame → ImageInfo
info_by settings f = info_with (samples_shown settings f) f
