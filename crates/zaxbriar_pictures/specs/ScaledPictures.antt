-- The pictures of a stream at its scales.
use Rattle.std.specs.Prelude.{ℕ, Bool, List, Ok, Err, Option, None, option_map}
use Rattle.jpeg_meaning.specs.Output.{default_settings}
use Rattle.jpeg_meaning.specs.Pixels.{info_by}
use Rattle.jpeg_meaning.specs.Stream.{header_at, scaled_meaning}
use Rattle.jpeg_meaning.specs.declared.images.ImageInfo.{ImageInfo}
use Rattle.jpeg_meaning.specs.declared.settings.Settings.{Settings}
use Rattle.jpeg_segments.specs.Frame.{Frame}
use Rattle.jpeg_segments.specs.declared.scale.Scale.{Scale}
use Rattle.zaxbriar_samples.specs.DecodedPictures.{Decoded, decoded}

-- the settings of a new decoder, which makes the luma alone of pictures in colour, or doesn't
abbrev pub settings_for : Bool → Settings
settings_for luma = record default_settings { luma = luma }

-- what a stream's header says of its picture, or of its luma, at full size
unfoldable pub header_info : Bool → List ℕ → Option ImageInfo
header_info luma bytes = elim (header_at bytes) [
  | Ok header ↦ option_map (info_by (settings_for luma)) header.0.said.frame
  | Err fault ↦ None
]

-- the Exif data up to the end of a stream's header
unfoldable pub header_exif : List ℕ → Option (List ℕ)
header_exif bytes = elim (header_at bytes) [
  | Ok header ↦ header.0.said.metadata.exif
  | Err fault ↦ None
]

-- the picture of a frame's pixels, or of its luma
abbrev pub decoded_of : Bool → Frame → List ℕ → Decoded
decoded_of luma f pixels = decoded (info_by (settings_for luma) f) f.precision pixels

-- the picture of a stream, or its luma, at a scale
unfoldable pub picture_at_scale : Bool → Scale → List ℕ → Option Decoded
picture_at_scale luma scale bytes = elim (scaled_meaning scale (settings_for luma) bytes) [
  | Ok stream ↦ option_map (λ f. decoded_of luma f stream.0.1) stream.0.0.frame
  | Err fault ↦ None
]
