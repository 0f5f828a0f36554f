-- What is given of a stream: the whole of its picture, or what it has brought up to its first
-- fault.
use Rattle.std.specs.Prelude.{◌≡◌, ℕ, List, Result, Ok, Err, Option, None, option_map, IsSomeAnd}
use Rattle.std.specs.Prelude.{Bool, IsOkAnd, false, is_some, not, unwrap_or}
use Rattle.std.specs.Io.KnownBytes.{Appends}
use Rattle.jpeg_bits.specs.Reading.{Fault, ◌>>=◌}
use Rattle.jpeg_bits.specs.declared.error.Error.{Error}
use Rattle.jpeg_meaning.specs.Found.{Found, with_said}
use Rattle.jpeg_meaning.specs.Limits.{IsWithinLimit, work_of_rest}
use Rattle.jpeg_meaning.specs.Shown.{Shown, shown_rest_within, whole_rows_rest}
use Rattle.jpeg_meaning.specs.Stream.{Told, header_at, rest_by, scaled_to}
use Rattle.jpeg_meaning.specs.Work.{picture_blocks}
use Rattle.jpeg_bits.specs.declared.beyond.Beyond.TheVariants.{Zeros}
use Rattle.jpeg_meaning.specs.declared.settings.Settings.{Settings}
use Rattle.jpeg_decoder.specs.Reaching.{NamesFault}
use Rattle.zaxbriar_files.specs.Limits.{most_blocks}
use Rattle.zaxbriar_files.specs.declared.limits.Limits.{Limits}
use Rattle.zaxbriar_samples.specs.DecodedPictures.{Decoded}
use Rattle.zaxbriar_samples.specs.Files.{file_as}
use Rattle.zaxbriar_samples.specs.Parts.{shown_part}
use Rattle.zaxbriar_samples.specs.Sizes.{orientation_for}
use Rattle.zaxbriar_samples.specs.declared.files.PictureFormat.{PictureFormat}
use Rattle.zaxbriar_samples.specs.declared.requests.AtScale.{AtScale}
use Rattle.zaxbriar_samples.specs.declared.requests.Request.TheVariants.{At}
use Rattle.zaxbriar_pictures.specs.ScaledPictures.{decoded_of, header_exif, settings_for}
use Rattle.zaxbriar_pictures.specs.declared.extents.Completeness.{Completeness}
use Rattle.zaxbriar_pictures.specs.declared.extents.Extent.{Extent}
use Rattle.zaxbriar_pictures.specs.declared.extents.Extent.TheVariants.{Whole, Partial}
use Rattle.jpeg_segments.specs.declared.scale.Scale.{Scale}
use Rattle.jpeg_segments.specs.declared.scale.Scale.TheVariants.{Full}

-- a picture, and the first fault of its stream, if it has one
pub record Given : Type 0 where
  pub picture : Decoded
  pub fault : Option Fault

abbrev pub given : Decoded → Option Fault → Given
given picture fault = record { picture = picture; fault = fault }

-- a picture without fault
abbrev pub without_fault : Told × List ℕ → Shown
without_fault m = record { told = m.0; picture = m.1; fault = None }

-- How many blocks the scans of a stream may code after its header, if there is a limit: so many
-- times those of the picture as the limits say.
abbrev pub most_after : Limits → Found → Option ℕ
most_after limits header =
    most_blocks limits (unwrap_or (option_map picture_blocks header.said.frame) 0)

-- the settings of a new decoder, for the picture or the luma alone, with that limit
abbrev pub settings_within : Bool → Limits → Found → Settings
settings_within luma limits header =
    record (settings_for luma) { max_blocks = most_after limits header }

-- What the rest of a stream gives after its header, by some settings: its meaning, where the whole
-- is wanted, or else what it shows.
abbrev pub given_rest : Extent → Settings → Found → List ℕ → Result Shown Fault
given_rest Whole settings found bytes =
    rest_by settings found bytes >>= (λ m. Ok (without_fault m.0))
given_rest Partial settings found bytes =
    shown_rest_within settings.max_blocks settings found bytes

abbrev pub given_within : Extent → Bool → Limits → Found → List ℕ → Result Shown Fault
given_within extent luma limits found bytes =
    given_rest extent (settings_within luma limits found) found bytes

-- the picture of what is given, where there is a frame
abbrev pub given_of : Bool → Shown → Option Given
given_of luma s =
    option_map (λ f. given (decoded_of luma f s.picture) s.fault) s.told.frame

-- What a stream shows at a scale, within the limits, or its first fault; and what it gives.
abbrev pub shown_at_scale : Extent → Bool → Limits → Scale → List ℕ → Result Shown Fault
shown_at_scale extent luma limits scale bytes = header_at bytes >>= (λ header.
    given_within extent luma limits (with_said (scaled_to scale) header.0) header.1)

unfoldable pub given_at_scale : Extent → Bool → Limits → Scale → List ℕ → Option Given
given_at_scale extent luma limits scale bytes =
    elim (shown_at_scale extent luma limits scale bytes) [
      | Ok s ↦ given_of luma s
      | Err fault ↦ None
    ]

-- How many rows of such a picture, from its top, are complete in each scan that the stream has
-- begun; all of a whole picture, which has this height.
abbrev pub complete_rest : Extent → Option ℕ → Found → List ℕ → ℕ → ℕ
complete_rest Whole limit found bytes height = height
complete_rest Partial limit found bytes height = whole_rows_rest limit found bytes

abbrev pub complete_within : Extent → Limits → Found → List ℕ → ℕ → ℕ
complete_within extent limits found bytes height =
    complete_rest extent (most_after limits found) found bytes height

-- How many rows of the picture that a stream gives at a scale, within the limits, are complete.
unfoldable pub complete_rows : Extent → Limits → Scale → List ℕ → ℕ → ℕ
complete_rows extent limits scale bytes height = elim (header_at bytes) [
  | Ok header ↦
      complete_within extent limits (with_said (scaled_to scale) header.0) header.1 height
  | Err fault ↦ 0
]

-- A stream gives a picture at a scale, within the limits, of which this many rows are complete, and
-- the fault that an error names, or none.
abbrev pub IsGiven : Extent → Bool → Limits → Scale → List ℕ → Decoded → ℕ → Option Error
    → Type 0
IsGiven extent luma limits scale bytes picture rows fault =
    IsSomeAnd (given_at_scale extent luma limits scale bytes)
    (λ g. (picture ≡ g.picture) × NamesFault fault g.fault
    × (rows ≡ complete_rows extent limits scale bytes g.picture.info.height))

-- A caller is told how much of the picture that a stream gives at a scale is complete: what is said
-- of it, how many of its rows are complete, and the name of the fault.
abbrev pub TellsGiven : Extent → Limits → Scale → List ℕ → Given → Completeness → Type 0
TellsGiven extent limits scale bytes g told = (told.info ≡ g.picture.info)
    × (told.whole_rows ≡ complete_rows extent limits scale bytes told.info.height)
    × NamesFault told.fault g.fault

-- A writer is given the file, in a format that has one, of the picture of a stream at a scale, or
-- of its luma, within the limits, turned upright by the orientation for the request: the one that
-- the Exif data of the header say, or 1; or of the part of that which is asked for. Its caller is
-- told how much of the whole picture is complete, before it is turned.
abbrev pub WritesGiven : Extent → Limits → AtScale → PictureFormat → List ℕ → Option (List ℕ)
    → Option (List ℕ) → Completeness → Type 0
WritesGiven extent limits at format bytes before after told =
    IsSomeAnd (given_at_scale extent at.luma limits at.scale bytes) (λ g. IsSomeAnd
    (file_as format (shown_part at.crop (orientation_for (At at) (header_exif bytes)) g.picture))
    (Appends before after)
    × TellsGiven extent limits at.scale bytes g told)

-- A caller is told how much of the picture that a stream shows is complete, at full size and within
-- the limits.
abbrev pub TellsOfStream : Limits → List ℕ → Completeness → Type 0
TellsOfStream limits bytes told = IsSomeAnd (given_at_scale Partial false limits Full bytes)
    (λ g. TellsGiven Partial limits Full bytes g told)

-- ---- a whole stream

-- Whether a stream shows a picture without fault, at full size and within the limits.
unfoldable pub is_whole : Limits → List ℕ → Bool
is_whole limits bytes = unwrap_or (option_map (λ g. not (is_some g.fault))
    (given_at_scale Partial false limits Full bytes)) false

-- The scans of a stream code no more blocks than the limits allow.
abbrev pub CodesWithin : Limits → List ℕ → Type 0
CodesWithin limits bytes = IsOkAnd (header_at bytes)
    (λ header. IsWithinLimit (most_after limits header.0) (work_of_rest Zeros header.0 header.1))
