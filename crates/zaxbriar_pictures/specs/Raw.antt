-- The bytes of a stream's picture, as `raw` writes them.
use Rattle.std.specs.Prelude.{ℕ, Bool, false, List, Ok, Err, Option, None, option_map}
use Rattle.jpeg_meaning.specs.Output.{output_of}
use Rattle.jpeg_meaning.specs.Stream.{meaning}
use Rattle.jpeg_orientation.specs.declared.areas.Area.{Area}
use Rattle.zaxbriar_pictures.specs.ScaledPictures.{decoded_of, header_exif, settings_for}
use Rattle.zaxbriar_samples.specs.LineTakers.{raw_bytes}
use Rattle.zaxbriar_samples.specs.Sizes.{orientation_by}
use Rattle.zaxbriar_samples.specs.Parts.{shown_part}
use Rattle.zaxbriar_samples.specs.declared.requests.Upright.{Upright}
use Rattle.zaxbriar_samples.specs.declared.requests.Upright.TheVariants.{AsStored}

-- What is written for a stream that has a meaning: in its colours and as it is stored, what
-- `jpegraw` writes; or its picture, or its luma, turned upright by the orientation that the Exif
-- data of its header say, or 1; or the part of that which is asked for.
unfoldable pub raw_of : Bool → Upright → Option Area → List ℕ → Option (List ℕ)
raw_of false AsStored None bytes = output_of bytes
raw_of luma turning crop bytes = elim (meaning (settings_for luma) bytes) [
  | Ok stream ↦ option_map (λ f. raw_bytes (shown_part crop
      (orientation_by turning (header_exif bytes)) (decoded_of luma f stream.0.1)))
      stream.0.0.frame
  | Err fault ↦ None
]
