use Rattle.std.proofs.Common.{◌≡◌, ℕ, List, Option, None, Some, IsSomeAnd, refl, sym, subst}
use Rattle.std.proofs.lemmas.Result.{IfOk-weaker}
use Rattle.std.specs.Io.KnownBytes.{Appends}
use Rattle.jpeg_decoder.specs.Reaching.{NamesFault}
use Rattle.zaxbriar_files.specs.declared.limits.Limits.{Limits}
use Rattle.zaxbriar_samples.specs.DecodedPictures.{Decoded}
use Rattle.zaxbriar_samples.specs.Files.{file_as}
use Rattle.zaxbriar_samples.specs.Parts.{shown_part}
use Rattle.zaxbriar_samples.specs.Sizes.{orientation_for}
use Rattle.zaxbriar_samples.specs.declared.files.PictureFormat.{PictureFormat}
use Rattle.zaxbriar_samples.specs.declared.requests.AtScale.{AtScale}
use Rattle.zaxbriar_samples.specs.declared.requests.Request.TheVariants.{At}
use Rattle.zaxbriar_pictures.specs.Given.{Given, IsGiven, WritesGiven, complete_rows, given_at_scale}
use Rattle.zaxbriar_pictures.specs.ScaledPictures.{header_exif, picture_at_scale}
use Rattle.zaxbriar_pictures.specs.declared.extents.Completeness.{Completeness}
use Rattle.zaxbriar_pictures.specs.declared.extents.Extent.TheVariants.{Whole}
use Rattle.zaxbriar_pictures.proofs.ScaledStreams.{whole-given}
use Rattle.test_zaxbriar_callers.proofs.pictures.whole_picture.Goals as goal

there : {A : Type 0} (o : Option A) (P : A → Type 0) → IsSomeAnd o P → (x : A) × (o ≡ Some x) × P x
there (Some x) P h = (x, refl, h)
there None P h = absurd h

whole-written : (limits : Limits) (asked : AtScale) (format : PictureFormat) (bytes : List ℕ)
    (before after : Option (List ℕ)) (told : Completeness)
    → WritesGiven Whole limits asked format bytes before after told
    → IsSomeAnd (picture_at_scale asked.luma asked.scale bytes) (λ p. IsSomeAnd (file_as format
    (shown_part asked.crop (orientation_for (At asked) (header_exif bytes)) p)) (Appends before after))
whole-written limits asked format bytes before after told h =
    let given = there (given_at_scale Whole asked.luma limits asked.scale bytes) _ h in
    let g : Given = given.0 in
    let rows : ℕ = complete_rows Whole limits asked.scale bytes g.picture.info.height in
    let is : IsGiven Whole asked.luma limits asked.scale bytes g.picture rows told.fault =
    subst (λ (o : Option Given). IsSomeAnd o (λ x. (g.picture ≡ x.picture) × NamesFault told.fault x.fault
    × (rows ≡ complete_rows Whole limits asked.scale bytes x.picture.info.height))) (sym given.1)
    (refl, given.2.1.2, refl) in
    subst (λ (o : Option Decoded). IsSomeAnd o (λ p. IsSomeAnd (file_as format
    (shown_part asked.crop (orientation_for (At asked) (header_exif bytes)) p)) (Appends before after)))
    (sym (whole-given asked.luma limits asked.scale bytes g.picture rows told.fault is)) given.2.0

pub returns : goal.returns
returns g c bytes tells =
    IfOk-weaker c.write_at.result _ _
    (λ told h. whole-written c.args.limits c.args.at c.args.format bytes _ _ told h)
    (c.write_at.ensures.written bytes tells)
