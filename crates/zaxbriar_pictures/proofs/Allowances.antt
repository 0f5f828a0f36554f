-- What a header and the steps after it have allowed is what the stream is allowed.
use Rattle.std.proofs.Common.{◌≡◌, ◌∙◌, ◌<◌, ◌*◌, ℕ, List, Ok, Option, Some, None, IfSome, option_map, ap, refl, subst, sym}
use Rattle.std.proofs.Common.{Bool, true, false, Result, ◌&&◌, nat_le}
use Rattle.std.proofs.lemmas.Bool.{lt-leb}
use Rattle.std.specs.Prelude.{unwrap_or}
use Rattle.jpeg_bits.specs.Reading.{Fault}
use Rattle.jpeg_segments.specs.Frame.{Frame}
use Rattle.jpeg_segments.specs.Scales.{scaled}
use Rattle.jpeg_segments.specs.declared.frame.Dimensions.{Dimensions}
use Rattle.jpeg_segments.specs.declared.scale.Scale.{Scale}
use Rattle.jpeg_meaning.specs.Found.{Found}
use Rattle.jpeg_meaning.specs.Pixels.{info_by}
use Rattle.jpeg_meaning.specs.Stream.{header_at}
use Rattle.jpeg_meaning.specs.declared.images.ImageInfo.{ImageInfo}
use Rattle.jpeg_decoder.specs.Bytes.{decoding_bytes}
use Rattle.zaxbriar_files.specs.Limits.{IsAbove, is_allowed, is_at_most}
use Rattle.zaxbriar_files.specs.declared.refusal.Refusal.{Refusal}
use Rattle.zaxbriar_files.specs.declared.refusal.Refusal.TheVariants as refusals
use Rattle.zaxbriar_files.specs.declared.limits.Limits.{Limits}
use Rattle.zaxbriar_samples.specs.Sizes.{luma_for, orientation_by, orientation_for, scale_of_request, size_for}
use Rattle.zaxbriar_samples.specs.declared.files.PictureFormat.{PictureFormat}
use Rattle.zaxbriar_samples.specs.declared.requests.Request.{Request}
use Rattle.zaxbriar_samples.specs.declared.requests.Upright.{Upright}
use Rattle.zaxbriar_pictures.specs.Allowed.{allows, allows_bytes, allows_frame, allows_raw, taken_for, taken_raw}
use Rattle.zaxbriar_pictures.specs.Reasons.{IsReason}
use Rattle.zaxbriar_pictures.specs.ScaledPictures.{settings_for}

some-same : {A : Type 0} (x y : A) → ◌≡◌ {A = Option A} (Some x) (Some y) → x ≡ y
some-same x y e = cc

pub allowed-there : (request : Request) (format : PictureFormat) (limits : Limits) (bytes rest : List ℕ) (header : Found)
    (full : ImageInfo) (orientation : ℕ) (scale : Scale) (size : Dimensions) (taken : ℕ) (allowed : Bool)
    → header_at bytes ≡ Ok (header, rest)
    → option_map (info_by (settings_for (luma_for request))) header.said.frame ≡ Some full
    → orientation ≡ orientation_for request header.said.metadata.exif
    → scale ≡ scale_of_request request full orientation → size ≡ size_for request full orientation
    → IfSome (option_map (scaled scale) header.said.frame) (λ f. taken ≡ taken_for request format full f size orientation)
    → is_allowed limits full.width full.height taken ≡ allowed → allows request format limits bytes ≡ allowed
unfolding allows
allowed-there request format limits bytes rest header full orientation scale size taken allowed e i o s z t a =
    rw (e, allows) (go header.said.frame i t)
  where
    go : (frame : Option Frame) → option_map (info_by (settings_for (luma_for request))) frame ≡ Some full
        → IfSome (option_map (scaled scale) frame) (λ f. taken ≡ taken_for request format full f size orientation)
        → unwrap_or (option_map (allows_frame request format limits header) frame) false ≡ allowed
    go None i t = absurd (let n : ⊥ = cc in n)
    go (Some f) i t =
        let turn = orientation_for request header.said.metadata.exif in
        subst (λ (k : ImageInfo). is_allowed limits k.width k.height (taken_for request format k
        (scaled (scale_of_request request k turn) f) (size_for request k turn) turn) ≡ allowed)
        (sym (some-same (info_by (settings_for (luma_for request)) f) full i))
        (rw (sym o) (rw (sym s, sym z, sym t) a))

pub bytes-allowed : (luma : Bool) (turning : Upright) (limits : Limits) (bytes rest : List ℕ) (header : Found)
    (full : ImageInfo) (orientation taken : ℕ) (allowed : Bool)
    → header_at bytes ≡ Ok (header, rest)
    → option_map (info_by (settings_for luma)) header.said.frame ≡ Some full
    → orientation ≡ orientation_by turning header.said.metadata.exif
    → IfSome header.said.frame (λ f. taken ≡ taken_raw orientation (decoding_bytes (settings_for luma) f))
    → is_allowed limits full.width full.height taken ≡ allowed → allows_raw luma turning limits bytes ≡ allowed
unfolding allows_raw
bytes-allowed luma turning limits bytes rest header full orientation taken allowed e i o t a =
    rw (e, allows_raw) (go header.said.frame i t)
  where
    go : (frame : Option Frame) → option_map (info_by (settings_for luma)) frame ≡ Some full
        → IfSome frame (λ f. taken ≡ taken_raw orientation (decoding_bytes (settings_for luma) f))
        → unwrap_or (option_map (allows_bytes luma turning limits header) frame) false ≡ allowed
    go None i t = absurd (let n : ⊥ = cc in n)
    go (Some f) i t =
        let turn = orientation_by turning header.said.metadata.exif in
        let same = t ∙ ap (λ (n : ℕ). taken_raw n (decoding_bytes (settings_for luma) f)) o in
        subst (λ (k : ImageInfo). is_allowed limits k.width k.height (taken_raw turn
        (decoding_bytes (settings_for luma) f)) ≡ allowed) (sym (some-same (info_by (settings_for luma) f) full i))
        (subst (λ (n : ℕ). is_allowed limits full.width full.height n ≡ allowed) same a)

-- ---- what is above a limit

above-most : (limit : Option ℕ) (most n : ℕ) → limit ≡ Some most → most < n → is_at_most limit n ≡ false
above-most None most n e h = absurd (let n : ⊥ = cc in n)
above-most (Some m) most n e h =
    subst (λ (k : ℕ). nat_le n k ≡ false) (sym (some-same m most e)) (lt-leb n most h)

and-false-left : (a b : Bool) → a ≡ false → (a && b) ≡ false
and-false-left a b h = rw h refl

and-false-right : (a b : Bool) → b ≡ false → (a && b) ≡ false
and-false-right true b h = h
and-false-right false b h = refl

-- A refusal of a picture that is above a limit is a reason where that is what the limits don't allow.
pub above-reason : {Y : Type 0} (limits : Limits) (width height taken : ℕ) (outcome : Result Y Fault)
    (allowed fits : Bool) (lacks : Type 0) (r : Refusal) → IsAbove limits width height taken r
    → (is_allowed limits width height taken ≡ false → allowed ≡ false)
    → IsReason outcome allowed fits lacks r
above-reason limits width height taken outcome allowed fits lacks (refusals.Pixels pixels most) h f =
    f (and-false-left _ _ (above-most limits.pixels most (width * height) h.1 (subst (λ (n : ℕ). most < n) h.0 h.2)))
above-reason limits width height taken outcome allowed fits lacks (refusals.Memory bytes most is_share) h f =
    f (and-false-right _ _ (above-most limits.memory most taken h.1 (subst (λ (n : ℕ). most < n) h.0 h.2)))
above-reason limits width height taken outcome allowed fits lacks (refusals.Crop area w l) h f = absurd h
above-reason limits width height taken outcome allowed fits lacks (refusals.Decoding e) h f = absurd h
above-reason limits width height taken outcome allowed fits lacks (refusals.Format format) h f = absurd h
above-reason limits width height taken outcome allowed fits lacks refusals.Name h f = absurd h
above-reason limits width height taken outcome allowed fits lacks refusals.Cmyk h f = absurd h
