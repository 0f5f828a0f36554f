-- What a call with some options gives for the bytes of a stream.
use Rattle.std.specs.Prelude.{◌≡◌, ◌==◌, ◌+◌, ◌&&◌, ℕ, List, Option, Some, None, if◌then◌else◌}
use Rattle.std.specs.Prelude.{length, option_map, replicate, true, false, Ok, Result, ◌⊎◌}
use Rattle.jpeg_orientation.specs.Orientation.{orientation_in}
use Rattle.jpeg_bits.specs.Reading.{Outcome, ◌>>=◌, Fault}
use Rattle.jpeg_bits.specs.Stream.{Stream}
use Rattle.jpeg_bits.specs.declared.color_transform.ColorTransform.{ColorTransform}
use Rattle.jpeg_bits.specs.declared.color_transform.ColorTransform.TheVariants as transforms
use Rattle.jpeg_segments.specs.declared.scale.Scale.{Scale}
use Rattle.jpeg_segments.specs.declared.scale.Scale.TheVariants.{Eighth, Quarter, Half, Full}
use Rattle.jpeg_meaning.specs.DecodedImages.{Size, FullSize, AtLeast, AtScale, at_size}
use Rattle.jpeg_meaning.specs.Found.{Found, with_said}
use Rattle.jpeg_meaning.specs.FoundPlanes.{planes_of}
use Rattle.jpeg_meaning.specs.States.{Decoding}
use Rattle.jpeg_meaning.specs.declared.progress.Progress.TheVariants.{HeaderRead}
use Rattle.jpeg_meaning.specs.Pixels.{info_by}
use Rattle.jpeg_meaning.specs.Stream.{Told, header_at, rest_by, rest_showing}
use Rattle.jpeg_meaning.specs.declared.images.ImageInfo.{ImageInfo}
use Rattle.jpeg_meaning.specs.declared.settings.Settings.{Settings}
use Rattle.jpeg_decoder.specs.Bytes.{decoding_bytes}
use Rattle.jpeg_decoder.specs.StreamTransforms.{frame_transform}
use Rattle.jpeg_decoder.specs.declared.sizes.DecodingBytes.{DecodingBytes}
use Rattle.zaxbriar_calls.specs.Density.{density_of}
use Rattle.zaxbriar_calls.specs.Layouts.{conversion_to}
use Rattle.zaxbriar_calls.specs.Limits.{are_known, are_known_for, blocks_of_passes, bytes_beside}
use Rattle.zaxbriar_calls.specs.Limits.{exceeds_limits}
use Rattle.zaxbriar_calls.specs.Lines.{Arranged, FitLines, lines_by, described_picture}
use Rattle.zaxbriar_calls.specs.Planes.{planes_of_components}
use Rattle.zaxbriar_calls.specs.Sampling.{sampling_of}
use Rattle.zaxbriar_calls.specs.declared.extents.Extent.{Extent}
use Rattle.zaxbriar_calls.specs.declared.layouts.Conversion.{Conversion}
use Rattle.zaxbriar_calls.specs.declared.options.Options.{Options}
use Rattle.zaxbriar_calls.specs.declared.picture.Picture.{Picture}
use Rattle.zaxbriar_calls.specs.declared.planes.PlaneSizes.{PlaneSizes}

-- the colour transform of a number
abbrev pub transform_number : ℕ → Option ColorTransform
transform_number n = if n == 1 then Some transforms.None
    else (if n == 2 then Some transforms.RGB
    else (if n == 3 then Some transforms.YCbCr
    else (if n == 4 then Some transforms.CMYK
    else (if n == 5 then Some transforms.YCCK else None))))

-- the number of a transform among the options, and 0 for one that is refused
abbrev pub number_of_transform : ColorTransform → ℕ
number_of_transform transforms.None = 1
number_of_transform transforms.RGB = 2
number_of_transform transforms.YCbCr = 3
number_of_transform transforms.CMYK = 4
number_of_transform transforms.YCCK = 5
number_of_transform _ = 0

-- the settings of a decoder of which the header was not read
abbrev pub settings_of : Options → Settings
settings_of o = record {
  limit = 18446744073709551615;
  color_transform = transform_number o.transform;
  max_blocks = None;
  luma = o.luma == 1;
}

-- The least length of a side, where one is asked for: no side is as long as 65535 but at full size,
-- so that the other side decides.
abbrev pub least_side : ℕ → ℕ
least_side side = if side == 0 then 65535 else side

-- the scale of a denominator
abbrev pub scale_by : ℕ → Option Scale
scale_by n = if n == 1 then Some Full
    else (if n == 2 then Some Half
    else (if n == 4 then Some Quarter
    else (if n == 8 then Some Eighth else None)))

-- the size by a scale, or else by the least lengths of the sides
abbrev pub size_by : Option Scale → ℕ → ℕ → Size
size_by (Some scale) width height = AtScale scale
size_by None width height = if width == 0 && height == 0 then FullSize
    else AtLeast (least_side width) (least_side height)

-- the size that the picture is to have
abbrev pub size_wanted : Options → Size
size_wanted o = size_by (scale_by o.scale) o.min_width o.min_height

-- what is found in a header, of which the picture is to have that size
abbrev pub found_at : Options → Found → Found
found_at o header = with_said (at_size (size_wanted o)) header

-- the settings after a header: its scans are limited, too
abbrev pub settings_at : Options → Found → Settings
settings_at o found = record (settings_of o) {
  max_blocks = blocks_of_passes o.max_passes found.said.frame;
}

-- what is told of a stream, its picture, and the bytes after it
unfoldable pub meaning_by : Options → List ℕ → Outcome (Told × List ℕ)
meaning_by o bytes = do
  header ← header_at bytes
  let found = found_at o header.0 in rest_by (settings_at o found) found header.1

-- what the rest of a stream means, in place of its picture its planes
abbrev pub planes_rest : Settings → Found → List ℕ → Outcome (Told × List (List ℕ))
planes_rest settings found bytes =
    rest_showing settings.max_blocks (planes_of settings.limit) found bytes

-- what is told of a stream, its planes, and the bytes after it
unfoldable pub planes_by : Options → List ℕ → Outcome (Told × List (List ℕ))
planes_by o bytes = do
  header ← header_at bytes
  let found = found_at o header.0 in planes_rest (settings_at o found) found header.1

-- A decoder of known bytes has read their header, its picture is to have the size of the options,
-- and its scans are limited by them.
pub record ReadsHeader (o : Options) (old new : Decoding) : Type 0 where
  pub stage : new.stage ≡ HeaderRead
  pub settings : new.settings ≡ settings_at o new.found
  pub reads : old.source.known ≡ true → (new.source.known ≡ true) × ((header : Found)
      × (header_at old.source.bytes ≡ Ok (header, new.source.bytes))
      × (new.found ≡ found_at o header))

-- A source stands after what a reading has read.
pub record StandsAfter {X : Type 0} (read : Outcome X) (source : Stream) : Type 0 where
  pub known : source.known ≡ true
  pub value : X
  pub reads : read ≡ Ok (value, source.bytes)

-- A number of bytes is what a reading of a stream has read: all before those that it leaves.
pub record CountsRead {X : Type 0} (read : Outcome X) (stream : List ℕ) (count : ℕ) : Type 0 where
  pub value : X
  pub rest : List ℕ
  pub reads : read ≡ Ok (value, rest)
  pub count_is : count + length rest ≡ length stream

-- the orientation that Exif data say, and 1, upright, where they say none
abbrev pub or_upright : Option ℕ → ℕ
or_upright None = 1
or_upright (Some orientation) = orientation

abbrev pub orientation_by : Option (List ℕ) → ℕ
orientation_by None = 1
orientation_by (Some exif) = or_upright (orientation_in exif)

-- A caller is told of the picture of a stream, by its header: the same whether the whole of it is
-- asked for or a part.
pub record Describes (o : Options) (bytes : List ℕ) (picture : Picture) : Type 0 where
  pub header : Found
  pub rest : List ℕ
  pub info : ImageInfo
  pub precision : ℕ
  pub decoding : DecodingBytes
  pub conversion : Conversion
  pub sampling : List ℕ
  pub planes : PlaneSizes
  pub transform : ℕ
  pub reads : header_at bytes ≡ Ok (header, rest)
  pub info_is : option_map (info_by (settings_of o)) (at_size (size_wanted o) header.said).frame
      ≡ Some info
  pub precision_is : option_map (λ f. f.precision) (at_size (size_wanted o) header.said).frame
      ≡ Some precision
  pub decoding_is : option_map (decoding_bytes (settings_of o))
      (at_size (size_wanted o) header.said).frame ≡ Some decoding
  pub conversion_is : conversion_to o.layout info.pixel_format precision ≡ Some conversion
  pub sampling_is : option_map (λ f. sampling_of f.components)
      (at_size (size_wanted o) header.said).frame ≡ Some sampling
  pub planes_is : option_map (λ f. planes_of_components f.components f.precision)
      (at_size (size_wanted o) header.said).frame ≡ Some planes
  pub transform_is : option_map (λ f. number_of_transform
      (frame_transform header.said.metadata f)) (at_size (size_wanted o) header.said).frame
      ≡ Some transform
  pub picture_is : picture ≡ described_picture o.layout info precision
      (lines_by o info precision
      (orientation_by (at_size (size_wanted o) header.said).metadata.exif) conversion)
      (bytes_beside decoding)
      (orientation_by (at_size (size_wanted o) header.said).metadata.exif) sampling planes
      transform (density_of bytes) 0

-- The lines that the options ask for don't fit the picture of a header.
pub record IsMisfit (o : Options) (bytes : List ℕ) : Type 0 where
  pub header : Found
  pub rest : List ℕ
  pub info : ImageInfo
  pub precision : ℕ
  pub reads : header_at bytes ≡ Ok (header, rest)
  pub info_is : option_map (info_by (settings_of o)) (at_size (size_wanted o) header.said).frame
      ≡ Some info
  pub precision_is : option_map (λ f. f.precision) (at_size (size_wanted o) header.said).frame
      ≡ Some precision
  pub misfit : FitLines o info precision
      (orientation_by (at_size (size_wanted o) header.said).metadata.exif) → ⊥

-- Options are wrong for a stream: they don't exist, or their lines don't fit the picture of its
-- header.
abbrev pub AreWrong : Options → List ℕ → Type 0
AreWrong o bytes = (are_known o ≡ false) ⊎ IsMisfit o bytes

-- The same where a picture or its planes are asked for.
abbrev pub AreWrongFor : Extent → Options → List ℕ → Type 0
AreWrongFor extent o bytes = (are_known_for extent o ≡ false) ⊎ IsMisfit o bytes

-- no picture
abbrev pub no_picture : Picture
no_picture = record {
  size = 0;
  row_bytes = 0;
  decoding_bytes = 0;
  stream_bytes = 0;
  width = 0;
  height = 0;
  whole_rows = 0;
  pixel_bytes = 0;
  layout = 0;
  components = 0;
  precision = 0;
  sample_bytes = 0;
  process = 0;
  orientation = 0;
  format = 0;
  feature = 0;
  feature_argument = 0;
  sampling = replicate 4 0;
  fault = 0;
  density_unit = 0;
  horizontal_density = 0;
  vertical_density = 0;
  transform = 0;
  reserved_byte = 0;
  plane_width = replicate 4 0;
  plane_height = replicate 4 0;
  reserved_bytes = replicate 6 0;
  planes_size = 0;
  reserved = replicate 112 0;
  text = replicate 112 0;
}

-- a picture without the number of bytes that were read
abbrev pub uncounted : Picture → Picture
uncounted picture = record picture { stream_bytes = 0 }

-- a picture without what a call says of itself: the bytes that were read, the feature that the
-- stream lacks here, and the text of a refusal
abbrev pub as_described : Picture → Picture
as_described picture = record picture {
  stream_bytes = 0;
  feature = 0;
  feature_argument = 0;
  text = replicate 112 0;
}

-- A picture is that of a header, and within the limits.
abbrev pub IsWithin : Options → List ℕ → Picture → Type 0
IsWithin o bytes picture = Describes o bytes picture × (exceeds_limits o picture ≡ false)

-- A picture is that of a header, and above a limit.
abbrev pub IsTooLarge : Options → List ℕ → Picture → Type 0
IsTooLarge o bytes picture = Describes o bytes picture × (exceeds_limits o picture ≡ true)

-- The samples of a picture, or of its planes, are in the caller's memory.
pub record ShowsSamples (extent : Extent) (o : Options) (picture : Result (List ℕ) Fault)
    (old new : List ℕ) (told : Picture) : Type 0 where
  pub samples : List ℕ
  pub info : ImageInfo
  pub precision : ℕ
  pub are : picture ≡ Ok samples
  pub arranged : Arranged extent o info precision samples old new told
