-- The file of the upright picture is what the program writes.
use Rattle.std.proofs.Common.{◌≡◌, ℕ, List, Option, None, Some, IsSomeAnd, ap, refl, ◌∙◌, Bool, true, false, if◌then◌else◌}
use Rattle.std.specs.Io.KnownBytes.{Appends}
use Rattle.jpeg_segments.specs.declared.frame.Dimensions.{Dimensions}
use Rattle.zaxbriar_samples.specs.Boxes.{boxed, is_smaller}
use Rattle.jpeg_meaning.specs.declared.images.ImageInfo.{ImageInfo}
use Rattle.zaxbriar_files.specs.declared.limits.Limits.{Limits}
use Rattle.zaxbriar_pictures.specs.Given.{Given, IsGiven, complete_rows, given_at_scale}
use Rattle.zaxbriar_samples.specs.DecodedPictures.{Decoded}
use Rattle.zaxbriar_pictures.specs.ScaledPictures.{header_exif, header_info}
use Rattle.zaxbriar_samples.specs.Sizes.{luma_for, orientation_for, scale_of_request, size_for}
use Rattle.zaxbriar_pictures.specs.Thumbnails.{TellsOfFile, WritesThumbnail, file_rows}
use Rattle.zaxbriar_samples.specs.Turns.{upright}
use Rattle.zaxbriar_pictures.specs.declared.extents.Completeness.{Completeness}
use Rattle.zaxbriar_pictures.specs.declared.extents.Extent.{Extent}
use Rattle.zaxbriar_samples.specs.declared.files.PictureFormat.{PictureFormat}
use Rattle.zaxbriar_samples.specs.declared.requests.Request.{Request}
use Rattle.zaxbriar_samples.specs.Files.{file_as}
use Rattle.jpeg_segments.specs.declared.scale.Scale.{Scale}

-- what is there, where something holds of it
held : {A : Type 0} (o : Option A) (P : A → Type 0) → IsSomeAnd o P → (x : A) × (o ≡ Some x) × P x
held (Some x) P h = (x, refl, h)
held None P h = absurd h

moved : (format : PictureFormat) (before after : Option (List ℕ)) (made p : Decoded) → made ≡ p
    → IsSomeAnd (file_as format made) (Appends before after)
    → IsSomeAnd (file_as format p) (Appends before after)
moved format before after made p same h = rw (← same) h

pub written : (extent : Extent) (limits : Limits) (request : Request) (format : PictureFormat) (bytes : List ℕ) (before after : Option (List ℕ)) (scale : Scale)
    (size : Dimensions) (orientation rows : ℕ) (p smaller made : Decoded) (told : Completeness)
    → orientation ≡ orientation_for request (header_exif bytes)
    → IsGiven extent (luma_for request) limits scale bytes p rows told.fault
    → told.whole_rows ≡ file_rows scale told.info.height p.info.height rows
    → IsSomeAnd (header_info (luma_for request) bytes)
    (λ full. (told.info ≡ full) × (scale ≡ scale_of_request request full orientation)
    × (size ≡ size_for request full orientation))
    → smaller ≡ boxed size p → made ≡ upright orientation smaller
    → IsSomeAnd (file_as format made) (Appends before after)
    → WritesThumbnail extent limits request format bytes before after told
written extent limits request format bytes before after scale size orientation rows p smaller made told turn is counted chosen less same appended =
    let header = held (header_info (luma_for request) bytes) _ chosen in
    let full = header.0 in
    let gives = held (given_at_scale extent (luma_for request) limits scale bytes) _ is in
    let g : Given = gives.0 in
    let at_scale : given_at_scale extent (luma_for request) limits (scale_of_request request full orientation) bytes ≡ Some g
    = rw (← header.2.1) gives.1 in
    let known : made ≡ upright orientation (boxed (size_for request full orientation) g.picture)
    = same ∙ ap (upright orientation) (less ∙ ap (λ (s : Dimensions). boxed s p) header.2.2
    ∙ ap (boxed (size_for request full orientation)) gives.2.0) in
    let rows_are : told.whole_rows ≡ file_rows scale full.height g.picture.info.height
    (complete_rows extent limits scale bytes g.picture.info.height)
    = counted ∙ ap (λ (i : ImageInfo). file_rows scale i.height p.info.height rows) header.2.0
    ∙ ap (λ (d : Decoded). file_rows scale full.height d.info.height rows) gives.2.0
    ∙ ap (file_rows scale full.height g.picture.info.height) gives.2.2 in
    let tells : TellsOfFile full extent limits (scale_of_request request full orientation) bytes g told
    = rw (← header.2.1) (header.2.0, rows_are, gives.2.1) in
    rw (← turn) (full, g, header.1, at_scale, moved format before after made _ known appended, tells)

-- a picture that isn't greater stays as it is
pub as-it-is : (size : Dimensions) (p : Decoded) → is_smaller size p.info ≡ false → boxed size p ≡ p
as-it-is size p h = chosen (is_smaller size p.info) _ p h
  where
    chosen : (test : Bool) (a b : Decoded) → test ≡ false → (if test then a else b) ≡ b
    chosen false a b h = refl
    chosen true a b h = absurd (let n : ⊥ = cc in n)
