-- Pictures that are written as their streams are read.
use Rattle.std.specs.Prelude.{◌⊎◌, ◌==◌, ◌||◌, ℕ, Bool, true, false, List, Result, Ok, Err}
use Rattle.std.specs.Prelude.{option_map, unwrap_or}
use Rattle.jpeg_bits.specs.Reading.{Fault, Outcome, ◌>>=◌}
use Rattle.jpeg_bits.specs.declared.error.Error.{Error}
use Rattle.jpeg_decoder.specs.ByRows.{rows_rest}
use Rattle.jpeg_decoder.specs.DecodesRows.{DecodesRows}
use Rattle.jpeg_meaning.specs.Found.{Found, with_said}
use Rattle.jpeg_meaning.specs.Output.{IsOutsideOrMemory}
use Rattle.jpeg_meaning.specs.Pixels.{info_by}
use Rattle.jpeg_meaning.specs.Shown.{Shown}
use Rattle.jpeg_meaning.specs.States.{Decoding}
use Rattle.jpeg_meaning.specs.Stream.{Told, header_at, rest_by, scaled_to}
use Rattle.jpeg_meaning.specs.declared.images.ImageInfo.{ImageInfo}
use Rattle.jpeg_meaning.specs.declared.settings.Settings.{Settings}
use Rattle.jpeg_segments.specs.Frame.{Frame}
use Rattle.jpeg_segments.specs.Scales.{scaled}
use Rattle.jpeg_segments.specs.declared.frame.Dimensions.{Dimensions}
use Rattle.zaxbriar_files.specs.declared.limits.Limits.{Limits}
use Rattle.zaxbriar_pictures.specs.Allowed.{is_by_lines}
use Rattle.zaxbriar_pictures.specs.Given.{given_rest, settings_within, without_fault}
use Rattle.zaxbriar_pictures.specs.Reasons.{scale_in}
use Rattle.zaxbriar_pictures.specs.ScaledPictures.{settings_for}
use Rattle.zaxbriar_pictures.specs.declared.extents.Extent.{Extent}
use Rattle.zaxbriar_pictures.specs.declared.extents.Extent.TheVariants.{Partial, Whole}
use Rattle.zaxbriar_samples.specs.Boxes.{is_smaller}
use Rattle.zaxbriar_samples.specs.Sizes.{luma_for, orientation_by, orientation_for}
use Rattle.zaxbriar_samples.specs.Sizes.{scale_of_request, size_for}
use Rattle.zaxbriar_samples.specs.declared.files.PictureFormat.{PictureFormat}
use Rattle.zaxbriar_samples.specs.declared.requests.AtScale.{AtScale}
use Rattle.zaxbriar_samples.specs.declared.requests.Request.{Request}
use Rattle.zaxbriar_samples.specs.declared.requests.Upright.{Upright}

-- A decoder whose lines are given has refused its stream with an error, or that is one of the
-- writer or memory.
abbrev pub RefusesRows : Decoding → Error → Type 0
RefusesRows start e =
    ((new : Decoding) × (bytes : List ℕ) × DecodesRows start (Err e) new bytes)
    ⊎ IsOutsideOrMemory e

-- ---- which pictures are

-- Whether the lines of a picture of this precision are written as they are read, for a file of a
-- format: where the whole is wanted, and they are written one by one.
abbrev pub is_by_rows : Extent → PictureFormat → ℕ → ℕ → Bool
is_by_rows Whole format precision orientation = is_by_lines format precision orientation
is_by_rows Partial format precision orientation = false

-- Whether they are taken so for a size: also where the picture is made smaller.
abbrev pub is_sized_by_rows : Extent → PictureFormat → ImageInfo → ℕ → ℕ → Dimensions → Bool
is_sized_by_rows Whole format info precision orientation size =
    is_smaller size info || is_by_lines format precision orientation
is_sized_by_rows Partial format info precision orientation size = false

-- by what a header says of the picture at a scale, and of the one for a request
abbrev pub at_by_rows : Extent → AtScale → PictureFormat → Found → Bool
at_by_rows extent at format header = unwrap_or (option_map (λ f. is_by_rows extent format
    f.precision (orientation_by at.upright header.said.metadata.exif)) header.said.frame) false

abbrev pub frame_by_rows : Extent → Request → PictureFormat → ℕ → Frame → Bool
frame_by_rows extent request format orientation f =
    let settings = settings_for (luma_for request) in
    let full = info_by settings f in
    is_sized_by_rows extent format (info_by settings (scaled (scale_of_request request full
    orientation) f)) f.precision orientation (size_for request full orientation)

abbrev pub request_by_rows : Extent → Request → PictureFormat → Found → Bool
request_by_rows extent request format header = unwrap_or (option_map (frame_by_rows extent request
    format (orientation_for request header.said.metadata.exif)) header.said.frame) false

-- ---- which fault an error names

-- What the rest of a stream gives after its header, where its lines come by rows, or not: by rows
-- it has one fault more, a segment after the first scan that asks for other colours.
abbrev pub read_rest : Bool → Extent → Settings → Found → List ℕ → Result Shown Fault
read_rest true extent settings found bytes =
    rows_rest settings found bytes >>= (λ m. Ok (without_fault m.0))
read_rest false extent settings found bytes = given_rest extent settings found bytes

abbrev pub read_within : Bool → Extent → Bool → Limits → Found → List ℕ → Result Shown Fault
read_within by_rows extent luma limits found bytes =
    read_rest by_rows extent (settings_within luma limits found) found bytes

-- what a stream gives at a scale, within the limits, or its first fault
abbrev pub read_at_scale : Extent → Limits → AtScale → PictureFormat → List ℕ
    → Result Shown Fault
read_at_scale extent limits at format bytes = header_at bytes >>= (λ header.
    read_within (at_by_rows extent at format header.0) extent at.luma limits
    (with_said (scaled_to at.scale) header.0) header.1)

-- and for a request
abbrev pub read_for : Extent → Limits → Request → PictureFormat → List ℕ → Result Shown Fault
read_for extent limits request format bytes = header_at bytes >>= (λ header.
    read_within (request_by_rows extent request format header.0) extent (luma_for request) limits
    (with_said (scaled_to (scale_in request header.0)) header.0) header.1)

-- the same for the bytes of its picture, which come by rows where it isn't turned
abbrev pub raw_rest : Bool → Settings → Found → List ℕ → Outcome (Told × List ℕ)
raw_rest true settings found bytes = rows_rest settings found bytes
raw_rest false settings found bytes = rest_by settings found bytes

abbrev pub read_raw : Bool → Upright → Limits → List ℕ → Outcome (Told × List ℕ)
read_raw luma turning limits bytes = header_at bytes >>= (λ header.
    raw_rest (orientation_by turning header.0.said.metadata.exif == 1)
    (settings_within luma limits header.0) header.0 header.1)
