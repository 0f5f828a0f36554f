-- Whether the part of a stream's picture that is asked for fits into it, by the header.
use Rattle.std.specs.Prelude.{ℕ, Bool, false, List, Ok, Err, Option, option_map, unwrap_or}
use Rattle.jpeg_segments.specs.Frame.{Frame}
use Rattle.jpeg_segments.specs.Scales.{scaled}
use Rattle.jpeg_meaning.specs.Pixels.{info_by}
use Rattle.jpeg_meaning.specs.Stream.{header_at}
use Rattle.jpeg_orientation.specs.declared.areas.Area.{Area}
use Rattle.zaxbriar_samples.specs.Parts.{has_part}
use Rattle.zaxbriar_samples.specs.Sizes.{orientation_by}
use Rattle.zaxbriar_samples.specs.declared.requests.AtScale.{AtScale}
use Rattle.zaxbriar_samples.specs.declared.requests.Upright.{Upright}
use Rattle.zaxbriar_pictures.specs.ScaledPictures.{settings_for}

-- whether a part lies in the picture of a frame, or in its luma, turned upright by an orientation
abbrev pub fits_frame : Option Area → Bool → ℕ → Frame → Bool
fits_frame crop luma orientation f = has_part crop orientation (info_by (settings_for luma) f)

-- whether the part that is asked for lies in the picture of a stream at its scale
unfoldable pub fits : AtScale → List ℕ → Bool
fits at bytes = elim (header_at bytes) [
  | Ok header ↦ unwrap_or (option_map (λ f. fits_frame at.crop at.luma
      (orientation_by at.upright header.0.said.metadata.exif) (scaled at.scale f))
      header.0.said.frame) false
  | Err fault ↦ false
]

-- and in the picture of a stream at full size
unfoldable pub fits_raw : Bool → Upright → Option Area → List ℕ → Bool
fits_raw luma turning crop bytes = elim (header_at bytes) [
  | Ok header ↦ unwrap_or (option_map (fits_frame crop luma
      (orientation_by turning header.0.said.metadata.exif)) header.0.said.frame) false
  | Err fault ↦ false
]
