-- What a request takes of the picture of a stream, by its header, and whether the limits allow it.
use Rattle.std.specs.Prelude.{ℕ, ◌+◌, ◌*◌, ◌-◌, ◌^◌, ◌==◌, ◌&&◌, Bool, false, List, max, min, option_map}
use Rattle.std.specs.Prelude.{Ok, Err, if◌then◌else◌, unwrap_or}
use Rattle.jpeg_segments.specs.Frame.{Frame}
use Rattle.jpeg_segments.specs.Scales.{scaled}
use Rattle.jpeg_segments.specs.declared.frame.Dimensions.{Dimensions}
use Rattle.jpeg_meaning.specs.Found.{Found}
use Rattle.jpeg_meaning.specs.Pixels.{info_by}
use Rattle.jpeg_meaning.specs.Stream.{header_at}
use Rattle.jpeg_meaning.specs.declared.images.ImageInfo.{ImageInfo}
use Rattle.jpeg_decoder.specs.Bytes.{decoding_bytes}
use Rattle.jpeg_decoder.specs.declared.sizes.DecodingBytes.{DecodingBytes}
use Rattle.zaxbriar_files.specs.Limits.{is_allowed}
use Rattle.zaxbriar_files.specs.declared.limits.Limits.{Limits}
use Rattle.zaxbriar_samples.specs.Boxes.{is_smaller}
use Rattle.zaxbriar_samples.specs.Sizes.{luma_for, orientation_by, orientation_for}
use Rattle.zaxbriar_samples.specs.Sizes.{scale_of_request, size_for}
use Rattle.zaxbriar_samples.specs.Turns.{bytes_of}
use Rattle.zaxbriar_samples.specs.declared.files.PictureFormat.{PictureFormat}
use Rattle.zaxbriar_samples.specs.declared.files.PictureFormat.TheVariants.{Netpbm, Png}
use Rattle.zaxbriar_samples.specs.declared.requests.Request.{Request}
use Rattle.zaxbriar_samples.specs.declared.requests.Request.TheVariants.{At, Within}
use Rattle.zaxbriar_samples.specs.declared.requests.Upright.{Upright}
use Rattle.zaxbriar_pictures.specs.ScaledPictures.{settings_for}

-- a sum of bytes, as far as 64 bits count them
abbrev pub together : ℕ → ℕ → ℕ
together a b = min (a + b) (2 ^ 64 - 1)

-- what is taken where the lines of a picture are written one by one
abbrev pub taken_in_lines : DecodingBytes → ℕ
taken_in_lines bytes = together bytes.coefficients bytes.planes

-- what is taken where the whole picture is made, and turned by an orientation into another one,
-- unless it is upright as it is
abbrev pub taken_whole : ℕ → DecodingBytes → ℕ
taken_whole orientation bytes =
    if orientation == 1 then bytes.peak else together bytes.peak bytes.picture

-- what is taken for the bytes of a picture
abbrev pub taken_raw : ℕ → DecodingBytes → ℕ
taken_raw orientation bytes =
    if orientation == 1 then taken_in_lines bytes else taken_whole orientation bytes

-- a picture of this size, of the format of another
abbrev pub made_bytes : Dimensions → ImageInfo → ℕ → ℕ
made_bytes size full precision = size.width * size.height * bytes_of full.pixel_format precision

-- Whether the lines of a picture at a scale are written one by one: those of one that isn't turned.
-- In a netpbm file of other than 8 bits a sample, the greatest sample has to be known first.
abbrev pub is_by_lines : PictureFormat → ℕ → ℕ → Bool
is_by_lines Netpbm precision orientation = orientation == 1 && precision == 8
is_by_lines Png precision orientation = orientation == 1

-- what is taken of a picture of this precision at its scale, for a file of a format
abbrev pub taken_at : PictureFormat → ℕ → ℕ → DecodingBytes → ℕ
taken_at format precision orientation bytes = if is_by_lines format precision orientation
    then taken_in_lines bytes else taken_whole orientation bytes

-- What is taken where a picture is made smaller line by line, into one of this many bytes: it is
-- made beside what the lines are made of, and then turned by an orientation into another one,
-- unless it is upright as it is.
abbrev pub taken_smaller : ℕ → DecodingBytes → ℕ → ℕ
taken_smaller orientation bytes made = let boxed = together (taken_in_lines bytes) made in
    if orientation == 1 then boxed else max boxed (together made made)

-- What a request takes of the picture of a frame at its scale, for a file of a format.
unfoldable pub taken_for : Request → PictureFormat → ImageInfo → Frame → Dimensions → ℕ → ℕ
taken_for (At at) format full f size orientation =
    taken_at format f.precision orientation (decoding_bytes (settings_for at.luma) f)
taken_for (Within most upright) format full f size orientation =
    let bytes = decoding_bytes (settings_for false) f in
    if is_smaller size (info_by (settings_for false) f)
    then taken_smaller orientation bytes (made_bytes size full f.precision)
    else taken_at format f.precision orientation bytes

-- whether the limits allow the pixels of a frame, and what a request takes of it
abbrev pub allows_frame : Request → PictureFormat → Limits → Found → Frame → Bool
allows_frame request format limits header f =
    let full = info_by (settings_for (luma_for request)) f in
    let orientation = orientation_for request header.said.metadata.exif in
    is_allowed limits full.width full.height (taken_for request format full
    (scaled (scale_of_request request full orientation) f) (size_for request full orientation)
    orientation)

-- Whether the limits allow what a request takes of a stream, for a file of a format.
unfoldable pub allows : Request → PictureFormat → Limits → List ℕ → Bool
allows request format limits bytes = elim (header_at bytes) [
  | Ok header ↦
      unwrap_or (option_map (allows_frame request format limits header.0) header.0.said.frame) false
  | Err fault ↦ false
]

-- Whether the limits allow the pixels of a stream, and what is taken for the bytes of its picture.
abbrev pub allows_bytes : Bool → Upright → Limits → Found → Frame → Bool
allows_bytes luma turning limits header f = is_allowed limits f.output_width f.output_height
    (taken_raw (orientation_by turning header.said.metadata.exif)
    (decoding_bytes (settings_for luma) f))

unfoldable pub allows_raw : Bool → Upright → Limits → List ℕ → Bool
allows_raw luma turning limits bytes = elim (header_at bytes) [
  | Ok header ↦
      unwrap_or (option_map (allows_bytes luma turning limits header.0) header.0.said.frame)
      false
  | Err fault ↦ false
]
