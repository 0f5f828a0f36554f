-- The lines of a picture, and what a caller is told of it.
use Rattle.std.specs.Prelude.{◌≡◌, ◌==◌, ◌≤◌, ℕ, ◌*◌, Bool, List, replicate, Some}
use Rattle.std.specs.Prelude.{if◌then◌else◌, Option}
use Rattle.jpeg_decoder.specs.Bytes.{bytes_a_sample, samples_a_pixel}
use Rattle.jpeg_segments.specs.declared.frame.CodingProcess.{CodingProcess}
use Rattle.jpeg_segments.specs.declared.frame.CodingProcess.TheVariants.{DctSequential}
use Rattle.jpeg_segments.specs.declared.frame.CodingProcess.TheVariants.{DctProgressive, Lossless}
use Rattle.jpeg_meaning.specs.declared.images.ImageInfo.{ImageInfo}
use Rattle.jpeg_meaning.specs.declared.images.PixelFormat.{PixelFormat}
use Rattle.jpeg_meaning.specs.declared.images.PixelFormat.TheVariants.{L8, L16, RGB24, CMYK32}
use Rattle.jpeg_orientation.specs.Turns.{upright_height, upright_width}
use Rattle.jpeg_orientation.specs.declared.turns.Turn.{Turn}
use Rattle.zaxbriar_calls.specs.Layouts.{TakesStored, conversion_to, converted_bytes}
use Rattle.zaxbriar_calls.specs.Layouts.{pixel_bytes, size_of_lines}
use Rattle.zaxbriar_calls.specs.Upright.{arranged_by}
use Rattle.zaxbriar_calls.specs.Boxed.{fit_turn, turned_info}
use Rattle.zaxbriar_calls.specs.Crops.{IsInPicture, part_of, part_turn}
use Rattle.zaxbriar_calls.specs.declared.crops.StoredPart.{StoredPart}
use Rattle.zaxbriar_calls.specs.declared.layouts.Conversion.{Conversion}
use Rattle.zaxbriar_calls.specs.declared.density.Density.{Density}
use Rattle.zaxbriar_calls.specs.declared.extents.Extent.{Extent}
use Rattle.zaxbriar_calls.specs.declared.lines.Lines.{Lines}
use Rattle.zaxbriar_calls.specs.declared.options.Options.{Options}
use Rattle.zaxbriar_calls.specs.declared.picture.Picture.{Picture}
use Rattle.zaxbriar_calls.specs.declared.planes.PlaneSizes.{PlaneSizes}

-- the bytes of a pixel as it is stored
abbrev pub stored_bytes : ImageInfo → ℕ → ℕ
stored_bytes info precision = pixel_bytes info.pixel_format precision

-- the bytes of a pixel, and those of a line without its gap
abbrev pub layout_pixel_bytes : ImageInfo → ℕ → Conversion → ℕ
layout_pixel_bytes info precision conversion = converted_bytes conversion (stored_bytes info
    precision)

abbrev pub row_bytes : Turn → ImageInfo → ℕ → Conversion → ℕ
row_bytes turn info precision conversion =
    upright_width turn * layout_pixel_bytes info precision conversion

-- the bytes from one line to the next
abbrev pub stride_of : ℕ → ℕ → ℕ
stride_of stride row = if stride == 0 then row else stride

-- whether the rows stand in memory from the bottom
abbrev pub is_bottom_up : Options → Bool
is_bottom_up o = o.bottom_up == 1

-- how a picture of an orientation is turned: upright, where that is asked for, and else not
abbrev pub turn_of : Options → ImageInfo → ℕ → Turn
turn_of o info orientation = record {
  width = info.width;
  height = info.height;
  orientation = if o.upright == 1 then orientation else 1;
}

-- the lines of a part of a picture, or of all of it, of which this is said, once it is made smaller
-- and turned
abbrev pub lines_turned : Options → ImageInfo → ℕ → Option StoredPart → Turn → Conversion → Lines
lines_turned o info precision part turn conversion = record {
  conversion = conversion;
  width = upright_width turn;
  height = upright_height turn;
  part = part;
  info = info;
  precision = precision;
  turn = turn;
  stored = stored_bytes info precision;
  pixel_bytes = layout_pixel_bytes info precision conversion;
  row_bytes = row_bytes turn info precision conversion;
  stride = stride_of o.stride (row_bytes turn info precision conversion);
  bottom_up = is_bottom_up o;
}

-- the part of a picture of an orientation that the options ask for, and how it is turned
abbrev pub part_given : Options → ImageInfo → ℕ → Option StoredPart
part_given o info orientation = part_of o (turn_of o info orientation)

abbrev pub turn_uncut : Options → ImageInfo → ℕ → Turn
turn_uncut o info orientation =
    part_turn (part_given o info orientation) (turn_of o info orientation)

-- how what is given is turned: the part, made smaller where it is to fit within a size
abbrev pub turn_given : Options → ImageInfo → ℕ → Turn
turn_given o info orientation = fit_turn o info (turn_uncut o info orientation)

-- the lines of a picture of an orientation
abbrev pub lines_by : Options → ImageInfo → ℕ → ℕ → Conversion → Lines
lines_by o info precision orientation conversion =
    lines_turned o (turned_info info (turn_uncut o info orientation)) precision
    (part_given o info orientation) (turn_given o info orientation) conversion

-- Lines are those that the options ask for of a picture of an orientation.
pub record HasLines (o : Options) (info : ImageInfo) (precision orientation : ℕ) (lines : Lines)
    : Type 0 where
  pub conversion : Conversion
  pub is : conversion_to o.layout info.pixel_format precision ≡ Some conversion
  pub fits : TakesStored conversion (stored_bytes info precision)
  pub lines_are : lines ≡ lines_by o info precision orientation conversion
  pub inside : IsInPicture o (turn_of o info orientation)
  pub wide : lines.row_bytes ≤ lines.stride
  pub narrow : lines.stride ≤ 4294967296

-- Lines fit a picture of an orientation, as the options ask for them: there is the layout, a part,
-- if one is asked for, lies inside the picture, and a stride, if one is given, is no shorter than a
-- line and at most 2^32.
pub record FitLines (o : Options) (info : ImageInfo) (precision orientation : ℕ) : Type 0 where
  pub conversion : Conversion
  pub is : conversion_to o.layout info.pixel_format precision ≡ Some conversion
  pub inside : IsInPicture o (turn_of o info orientation)
  pub wide : let row = row_bytes (turn_given o info orientation) info precision conversion in
      row ≤ stride_of o.stride row
  pub narrow : stride_of o.stride
      (row_bytes (turn_given o info orientation) info precision conversion) ≤ 4294967296

-- the number of a coding process
abbrev pub process_number : CodingProcess → ℕ
process_number DctSequential = 1
process_number DctProgressive = 2
process_number Lossless = 3

-- the number of a format
abbrev pub format_number : PixelFormat → ℕ
format_number L8 = 1
format_number L16 = 2
format_number RGB24 = 3
format_number CMYK32 = 4

-- what a caller is told of a picture: these lines, the memory that decoding takes, the orientation,
-- the sampling factors, the sizes of the planes, the transform, the density, and the bytes of the
-- stream
abbrev pub described_picture : ℕ → ImageInfo → ℕ → Lines → ℕ → ℕ → List ℕ → PlaneSizes → ℕ
    → Density → ℕ → Picture
described_picture layout info precision lines decoding orientation sampling planes transform
    density bytes = record {
      size = size_of_lines lines.stride lines.row_bytes lines.height;
      row_bytes = lines.row_bytes;
      decoding_bytes = decoding;
      stream_bytes = bytes;
      width = lines.width;
      height = lines.height;
      whole_rows = 0;
      pixel_bytes = lines.pixel_bytes;
      layout = layout;
      components = samples_a_pixel info.pixel_format;
      precision = precision;
      sample_bytes = bytes_a_sample precision;
      process = process_number info.coding_process;
      orientation = orientation;
      format = format_number info.pixel_format;
      feature = 0;
      feature_argument = 0;
      sampling = sampling;
      fault = 0;
      density_unit = density.unit;
      horizontal_density = density.horizontal;
      vertical_density = density.vertical;
      transform = transform;
      reserved_byte = 0;
      plane_width = planes.width;
      plane_height = planes.height;
      reserved_bytes = replicate 6 0;
      planes_size = planes.size;
      reserved = replicate 112 0;
      text = replicate 112 0;
    }

-- The samples of a picture are in the caller's memory as the options ask for them: those of a part
-- of it, made smaller to fit within a size, and turned upright by the orientation that a caller is
-- told of, if that is asked for, or those of its planes; and a caller is told of them.
pub record Arranged (extent : Extent) (o : Options) (info : ImageInfo) (precision : ℕ)
    (samples old new : List ℕ) (picture : Picture) : Type 0 where
  pub conversion : Conversion
  pub is : conversion_to o.layout info.pixel_format precision ≡ Some conversion
  pub orientation : ℕ
  pub pixels : new
      ≡ arranged_by extent (lines_by o info precision orientation conversion) samples old
  pub decoding : ℕ
  pub sampling : List ℕ
  pub planes : PlaneSizes
  pub transform : ℕ
  pub density : Density
  pub picture_is : picture ≡ described_picture o.layout info precision
      (lines_by o info precision orientation conversion) decoding orientation sampling planes
      transform density picture.stream_bytes
