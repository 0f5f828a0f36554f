-- What is written of a picture for a size as its lines are read is its file.
use Rattle.std.proofs.Common.{◌≡◌, ◌∙◌, ℕ, List, Option, None, Ok, Bool, true, false, IsSomeAnd, ap, refl}
use Rattle.std.proofs.Common.{subst, sym}
use Rattle.std.proofs.lemmas.Bool.{and_parts, eqb-true}
use Rattle.std.specs.Prelude.{◌==◌}
use Rattle.std.specs.Io.KnownBytes.{Appends}
use Rattle.jpeg_segments.specs.declared.frame.Dimensions.{Dimensions}
use Rattle.jpeg_meaning.specs.States.{Decoding}
use Rattle.jpeg_meaning.specs.declared.images.ImageInfo.{ImageInfo}
use Rattle.jpeg_meaning.specs.declared.progress.Progress.TheVariants.{HeaderRead}
use Rattle.jpeg_decoder.specs.DecodesRows.{DecodesRows}
use Rattle.zaxbriar_samples.specs.Boxes.{boxed, is_smaller}
use Rattle.zaxbriar_samples.specs.DecodedPictures.{Decoded, decoded}
use Rattle.zaxbriar_samples.specs.Files.{file_as, has_pixels}
use Rattle.zaxbriar_samples.specs.LineTakers.{CanBegin, IsWrittenAs, form_for, said_of}
use Rattle.zaxbriar_samples.specs.Turns.{upright}
use Rattle.zaxbriar_samples.specs.declared.files.PictureFormat.{PictureFormat}
use Rattle.zaxbriar_samples.specs.declared.files.PictureFormat.TheVariants.{Netpbm, Png}
use Rattle.zaxbriar_samples.specs.declared.line_takers.Stored.{Stored}
use Rattle.zaxbriar_pictures.specs.Allowed.{is_by_lines}
use Rattle.zaxbriar_pictures.specs.ByRows.{is_sized_by_rows}
use Rattle.zaxbriar_pictures.specs.Steps.{IsSaid}
use Rattle.zaxbriar_pictures.specs.Thumbnails.{WritesSized}
use Rattle.zaxbriar_pictures.specs.declared.extents.Completeness.{Completeness}
use Rattle.zaxbriar_pictures.specs.declared.extents.Extent.{Extent}
use Rattle.zaxbriar_pictures.specs.declared.extents.Extent.TheVariants.{Partial, Whole}
use Rattle.zaxbriar_pictures.proofs.FileRows.{gives-whole, upright-by-lines}
use Rattle.zaxbriar_pictures.proofs.WrittenThumbnails.{as-it-is}

sized-with : (smaller : Bool) (format : PictureFormat) (stored : Stored) (size : Dimensions)
    → is_smaller size stored.info ≡ smaller
    → is_sized_by_rows Whole format stored.info stored.precision stored.orientation size ≡ true
    → has_pixels format stored.info.pixel_format ≡ true
    → CanBegin (form_for stored.info size format) (said_of stored None)
sized-with true format stored size is h has = rw is (is, has)
sized-with false Netpbm stored size is h has =
    let by_lines : is_by_lines Netpbm stored.precision stored.orientation ≡ true = rw is at h in
    rw is (eqb-true stored.precision 8 (and_parts (stored.orientation == 1) _ by_lines).1)
sized-with false Png stored size is h has = rw is has

pub can-write-sized : (format : PictureFormat) (stored : Stored) (size : Dimensions)
    → is_sized_by_rows Whole format stored.info stored.precision stored.orientation size ≡ true
    → has_pixels format stored.info.pixel_format ≡ true
    → CanBegin (form_for stored.info size format) (said_of stored None)
can-write-sized format stored size h has = sized-with (is_smaller size stored.info) format stored size refl h has

boxed-with : (smaller : Bool) (format : PictureFormat) (stored : Stored) (size : Dimensions) (pixels : List ℕ)
    (before after : Option (List ℕ)) → is_smaller size stored.info ≡ smaller
    → is_sized_by_rows Whole format stored.info stored.precision stored.orientation size ≡ true
    → IsWrittenAs (form_for stored.info size format) stored.orientation
    (decoded stored.info stored.precision pixels) before after
    → IsSomeAnd (file_as format (upright stored.orientation (boxed size (decoded stored.info stored.precision pixels))))
    (Appends before after)
boxed-with true format stored size pixels before after is h written = rw is at written
boxed-with false format stored size pixels before after is h written =
    let p : Decoded = decoded stored.info stored.precision pixels in
    let by_lines : is_by_lines format stored.precision stored.orientation ≡ true = rw is at h in
    let one : stored.orientation ≡ 1 = upright-by-lines format stored.precision stored.orientation by_lines in
    let plain : IsSomeAnd (file_as format p) (Appends before after) = rw is at written in
    subst (λ (d : Decoded). IsSomeAnd (file_as format d) (Appends before after))
    (sym (as-it-is size p is) ∙ ap (λ (o : ℕ). upright o (boxed size p)) (sym one)) plain

-- A writer has got the file of such a picture.
pub sized-written : (format : PictureFormat) (stored : Stored) (size : Dimensions) (old new : Decoding) (bytes : List ℕ)
    (before after : Option (List ℕ)) (told : Completeness) → old.stage ≡ HeaderRead → IsSaid stored old
    → is_sized_by_rows Whole format stored.info stored.precision stored.orientation size ≡ true
    → told ≡ record { info = stored.info; whole_rows = stored.info.height; fault = None }
    → DecodesRows old (Ok tt) new bytes
    → IsWrittenAs (form_for stored.info size format) stored.orientation
    (decoded stored.info stored.precision bytes) before after
    → WritesSized Whole stored.orientation size format old before after told
sized-written format stored size old new bytes before after told at is h told_is d written =
    subst (λ (t : Completeness). WritesSized Whole stored.orientation size format old before after t) (sym told_is)
    (record {
      picture = decoded stored.info stored.precision bytes;
      new = new;
      gives = gives-whole stored old new bytes at is d;
      written = boxed-with (is_smaller size stored.info) format stored size bytes before after refl h written;
    })

-- They are taken so where the whole is wanted.
pub sized-extent : (extent : Extent) (format : PictureFormat) (info : ImageInfo) (precision orientation : ℕ)
    (size : Dimensions) → is_sized_by_rows extent format info precision orientation size ≡ true → extent ≡ Whole
sized-extent Whole format info precision orientation size h = refl
sized-extent Partial format info precision orientation size h = absurd (let n : ⊥ = cc in n)
