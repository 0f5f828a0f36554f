-- Why nothing is made of a stream.
use Rattle.std.specs.Prelude.{◌≡◌, ◌⊎◌, Bool, false, List, ℕ, Result, IsSomeAnd}
use Rattle.std.specs.Prelude.{option_map, unwrap_or}
use Rattle.jpeg_bits.specs.Reading.{Fault, Names}
use Rattle.jpeg_bits.specs.declared.error.Error.{Error}
use Rattle.jpeg_meaning.specs.Found.{Found}
use Rattle.jpeg_meaning.specs.Output.{IsOutsideOrMemory}
use Rattle.jpeg_meaning.specs.Pixels.{info_by}
use Rattle.jpeg_segments.specs.declared.scale.Scale.{Scale}
use Rattle.jpeg_segments.specs.declared.scale.Scale.TheVariants.{Full}
use Rattle.zaxbriar_files.specs.declared.refusal.Refusal.{Refusal}
use Rattle.zaxbriar_files.specs.declared.refusal.Refusal.TheVariants as refusals
use Rattle.zaxbriar_samples.specs.Files.{has_pixels}
use Rattle.zaxbriar_samples.specs.Sizes.{orientation_by, scale_of_request}
use Rattle.zaxbriar_samples.specs.declared.files.PictureFormat.{PictureFormat}
use Rattle.zaxbriar_samples.specs.declared.requests.Request.{Request}
use Rattle.zaxbriar_samples.specs.declared.requests.Request.TheVariants.{At, Within}
use Rattle.zaxbriar_pictures.specs.ScaledPictures.{header_info, settings_for}

-- an error names the fault that a reading meets, or is one of the reader or the writer, or out of
-- memory
abbrev pub NamesOrOutside : {Y : Type 0} → Result Y Fault → Error → Type 0
NamesOrOutside outcome e = Names e outcome ⊎ IsOutsideOrMemory e

-- Why nothing is made of a stream, by what reading it gives, by whether the limits allow it, by
-- whether the part that is asked for fits into its picture, and by what it means that a format
-- lacks its colours.
abbrev pub IsReason : {Y : Type 0} → Result Y Fault → Bool → Bool → Type 0 → Refusal → Type 0
IsReason outcome allowed fits lacks (refusals.Decoding e) = NamesOrOutside outcome e
IsReason outcome allowed fits lacks refusals.Cmyk = lacks
IsReason outcome allowed fits lacks (refusals.Crop area width height) = fits ≡ false
IsReason outcome allowed fits lacks (refusals.Pixels pixels most) = allowed ≡ false
IsReason outcome allowed fits lacks (refusals.Memory bytes most is_share) = allowed ≡ false
IsReason outcome allowed fits lacks _ = ⊥

-- a format lacks the colours of a stream's picture, or of its luma, by the header
abbrev pub LacksColours : PictureFormat → Bool → List ℕ → Type 0
LacksColours format luma bytes =
    IsSomeAnd (header_info luma bytes) (λ info. has_pixels format info.pixel_format ≡ false)

-- the scale that the picture of a stream is decoded at for a request, by its header
abbrev pub scale_in : Request → Found → Scale
scale_in (At at) header = at.scale
scale_in (Within most upright) header = unwrap_or (option_map (λ f. scale_of_request
    (Within most upright) (info_by (settings_for false) f)
    (orientation_by upright header.said.metadata.exif)) header.said.frame) Full
