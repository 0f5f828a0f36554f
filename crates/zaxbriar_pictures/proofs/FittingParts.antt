-- Whether the part that is asked for fits is what the header says.
use Rattle.std.proofs.Common.{◌≡◌, ◌∙◌, ℕ, List, Ok, Option, Some, None, option_map, ap, subst, sym, Bool, false}
use Rattle.std.specs.Prelude.{unwrap_or}
use Rattle.jpeg_segments.specs.Frame.{Frame}
use Rattle.jpeg_segments.specs.Scales.{scaled}
use Rattle.jpeg_meaning.specs.Found.{Found}
use Rattle.jpeg_meaning.specs.Pixels.{info_by}
use Rattle.jpeg_meaning.specs.Stream.{header_at}
use Rattle.jpeg_meaning.specs.declared.images.ImageInfo.{ImageInfo}
use Rattle.jpeg_meaning.specs.declared.settings.Settings.{Settings}
use Rattle.jpeg_orientation.specs.declared.areas.Area.{Area}
use Rattle.zaxbriar_files.specs.declared.refusal.Refusal.{Refusal}
use Rattle.zaxbriar_files.specs.declared.refusal.Refusal.TheVariants as refusals
use Rattle.zaxbriar_samples.specs.Parts.{has_part}
use Rattle.zaxbriar_samples.specs.Sizes.{orientation_by, orientation_for}
use Rattle.zaxbriar_samples.specs.declared.requests.Request.TheVariants.{At}
use Rattle.jpeg_meaning.specs.Found.{with_said}
use Rattle.jpeg_meaning.specs.Stream.{scaled_to}
use Rattle.jpeg_meaning.specs.States.{Decoding}
use Rattle.jpeg_segments.specs.declared.scale.Scale.{Scale}
use Rattle.zaxbriar_files.specs.declared.limits.Limits.{Limits}
use Rattle.zaxbriar_pictures.specs.Given.{settings_within}
use Rattle.zaxbriar_samples.specs.declared.requests.AtScale.{AtScale}
use Rattle.zaxbriar_samples.specs.declared.requests.Upright.{Upright}
use Rattle.zaxbriar_pictures.specs.Crops.{fits, fits_frame, fits_raw}
use Rattle.zaxbriar_pictures.specs.PartLines.{IsOutside}
use Rattle.zaxbriar_pictures.specs.Reasons.{IsReason}
use Rattle.zaxbriar_pictures.specs.ScaledPictures.{settings_for}
use Rattle.std.proofs.Common.{Result}
use Rattle.jpeg_bits.specs.Reading.{Fault}

some-same : {A : Type 0} (x y : A) → ◌≡◌ {A = Option A} (Some x) (Some y) → x ≡ y
some-same x y e = cc

pub fits-there : (at : AtScale) (bytes rest : List ℕ) (header : Found) (info : ImageInfo) (orientation : ℕ) (fitted : Bool)
    → header_at bytes ≡ Ok (header, rest)
    → option_map (info_by (settings_for at.luma)) (option_map (scaled at.scale) header.said.frame) ≡ Some info
    → orientation ≡ orientation_by at.upright header.said.metadata.exif
    → has_part at.crop orientation info ≡ fitted → fits at bytes ≡ fitted
unfolding fits
fits-there at bytes rest header info orientation fitted e i o h = rw (e, fits) (go header.said.frame i)
  where
    go : (frame : Option Frame) → option_map (info_by (settings_for at.luma)) (option_map (scaled at.scale) frame) ≡ Some info
        → unwrap_or (option_map (λ f. fits_frame at.crop at.luma
        (orientation_by at.upright header.said.metadata.exif) (scaled at.scale f)) frame) false ≡ fitted
    go None i = absurd (let n : ⊥ = cc in n)
    go (Some f) i =
        ap (has_part at.crop (orientation_by at.upright header.said.metadata.exif))
        (some-same (info_by (settings_for at.luma) (scaled at.scale f)) info i)
        ∙ ap (λ (n : ℕ). has_part at.crop n info) (sym o) ∙ h

pub fits-raw-there : (luma : Bool) (turning : Upright) (crop : Option Area) (bytes rest : List ℕ) (header : Found)
    (info : ImageInfo) (orientation : ℕ) (fitted : Bool) → header_at bytes ≡ Ok (header, rest)
    → option_map (info_by (settings_for luma)) header.said.frame ≡ Some info
    → orientation ≡ orientation_by turning header.said.metadata.exif
    → has_part crop orientation info ≡ fitted → fits_raw luma turning crop bytes ≡ fitted
unfolding fits_raw
fits-raw-there luma turning crop bytes rest header info orientation fitted e i o h = rw (e, fits_raw) (go header.said.frame i)
  where
    go : (frame : Option Frame) → option_map (info_by (settings_for luma)) frame ≡ Some info
        → unwrap_or (option_map (fits_frame crop luma (orientation_by turning header.said.metadata.exif)) frame) false
        ≡ fitted
    go None i = absurd (let n : ⊥ = cc in n)
    go (Some f) i =
        ap (has_part crop (orientation_by turning header.said.metadata.exif))
        (some-same (info_by (settings_for luma) f) info i)
        ∙ ap (λ (n : ℕ). has_part crop n info) (sym o) ∙ h

-- A refusal of a part that isn't inside is a reason.
pub outside-reason : {Y : Type 0} (fitting : Bool) (outcome : Result Y Fault) (allowed fitted : Bool) (lacks : Type 0)
    (r : Refusal) → IsOutside fitting r → (fitting ≡ false → fitted ≡ false) → IsReason outcome allowed fitted lacks r
outside-reason fitting outcome allowed fitted lacks (refusals.Crop area width height) h f = f h
outside-reason fitting outcome allowed fitted lacks (refusals.Decoding e) h f = absurd h
outside-reason fitting outcome allowed fitted lacks (refusals.Format format) h f = absurd h
outside-reason fitting outcome allowed fitted lacks refusals.Name h f = absurd h
outside-reason fitting outcome allowed fitted lacks refusals.Cmyk h f = absurd h
outside-reason fitting outcome allowed fitted lacks (refusals.Pixels pixels most) h f = absurd h
outside-reason fitting outcome allowed fitted lacks (refusals.Memory bytes most is_share) h f = absurd h

-- What a header says is said of a frame that stays.
pub said-there : {A : Type 0} (said : Frame → A) (old new : Option Frame) (x : A) → new ≡ old
    → option_map said old ≡ Some x → option_map said new ≡ Some x
said-there {A} said old new x same h = subst (λ (f : Option Frame). option_map said f ≡ Some x) (sym same) h

-- What is said at a scale by the settings of a decoder.
pub said-at-scale : (luma : Bool) (limits : Limits) (scale : Scale) (header : Found) (d : Decoding) (info : ImageInfo)
    → d.found ≡ with_said (scaled_to scale) header → d.settings ≡ settings_within luma limits d.found
    → option_map (info_by d.settings) d.found.said.frame ≡ Some info
    → option_map (info_by (settings_for luma)) (option_map (scaled scale) header.said.frame) ≡ Some info
said-at-scale luma limits scale header d info is within h =
    subst (λ (f : Found). option_map (info_by (settings_for luma)) f.said.frame ≡ Some info) is
    (subst (λ (s : Settings). option_map (info_by s) d.found.said.frame ≡ Some info) within h)

pub orientation-at : (at : AtScale) (header : Found) (orientation : ℕ)
    → orientation ≡ orientation_for (At at) header.said.metadata.exif
    → orientation ≡ orientation_by at.upright header.said.metadata.exif
unfolding orientation_for
orientation-at at header orientation h = h
