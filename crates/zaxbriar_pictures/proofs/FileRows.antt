-- What is written of a picture as its lines are read is its file.
use Rattle.std.proofs.Common.{◌≡◌, ℕ, List, Option, Some, None, Ok, true, IsSomeAnd, refl, subst, sym}
use Rattle.std.proofs.lemmas.Bool.{and_parts, eqb-true}
use Rattle.std.specs.Io.KnownBytes.{Appends}
use Rattle.std.specs.Prelude.{◌==◌}
use Rattle.jpeg_meaning.specs.Pixels.{info_by}
use Rattle.jpeg_meaning.specs.States.{Decoding}
use Rattle.jpeg_meaning.specs.declared.progress.Progress.TheVariants.{HeaderRead}
use Rattle.jpeg_decoder.specs.DecodesRows.{DecodesRows}
use Rattle.jpeg_orientation.specs.declared.areas.Area.{Area}
use Rattle.zaxbriar_samples.specs.DecodedPictures.{Decoded, decoded}
use Rattle.zaxbriar_samples.specs.Files.{file_as, has_pixels}
use Rattle.zaxbriar_samples.specs.LineTakers.{CanBegin, part_within, said_of}
use Rattle.zaxbriar_samples.specs.declared.files.PictureFormat.{PictureFormat}
use Rattle.zaxbriar_samples.specs.declared.files.PictureFormat.TheVariants.{Netpbm, Png}
use Rattle.zaxbriar_samples.specs.declared.line_takers.Form.TheVariants as forms
use Rattle.zaxbriar_samples.specs.declared.line_takers.Stored.{Stored}
use Rattle.zaxbriar_pictures.specs.Allowed.{is_by_lines}
use Rattle.zaxbriar_pictures.specs.ByRows.{is_by_rows}
use Rattle.zaxbriar_pictures.specs.PartLines.{area_for}
use Rattle.zaxbriar_pictures.specs.Steps.{GivesPicture, IsSaid, WritesFile}
use Rattle.zaxbriar_pictures.specs.declared.extents.Completeness.{Completeness}
use Rattle.zaxbriar_pictures.specs.declared.extents.Extent.{Extent}
use Rattle.zaxbriar_pictures.specs.declared.extents.Extent.TheVariants.{Partial, Whole}
use Rattle.zaxbriar_pictures.proofs.FittingParts.{said-there}
use Rattle.zaxbriar_pictures.proofs.PartPictures.{part-shown}
use Rattle.zaxbriar_pictures.proofs.ReadRows.{rows-give}

-- A picture whose lines are written one by one isn't turned.
pub upright-by-lines : (format : PictureFormat) (precision orientation : ℕ) → is_by_lines format precision orientation ≡ true
    → orientation ≡ 1
upright-by-lines Netpbm precision orientation h = eqb-true orientation 1 (and_parts (orientation == 1) _ h).0
upright-by-lines Png precision orientation h = eqb-true orientation 1 h

pub can-write : (format : PictureFormat) (stored : Stored) (area : Option Area)
    → is_by_lines format stored.precision stored.orientation ≡ true
    → has_pixels format stored.info.pixel_format ≡ true → CanBegin (forms.File format) (said_of stored area)
can-write Netpbm stored None h has = eqb-true stored.precision 8 (and_parts (stored.orientation == 1) _ h).1
can-write Netpbm stored (Some area) h has = eqb-true stored.precision 8 (and_parts (stored.orientation == 1) _ h).1
can-write Png stored None h has = has
can-write Png stored (Some area) h has = has

-- They are written as they are read where the whole is wanted.
pub rows-extent : (extent : Extent) (format : PictureFormat) (precision orientation : ℕ)
    → is_by_rows extent format precision orientation ≡ true → extent ≡ Whole
rows-extent Whole format precision orientation h = refl
rows-extent Partial format precision orientation h = absurd (let n : ⊥ = cc in n)

-- All lines are the whole picture.
pub gives-whole : (stored : Stored) (old new : Decoding) (bytes : List ℕ) → old.stage ≡ HeaderRead → IsSaid stored old
    → DecodesRows old (Ok tt) new bytes → GivesPicture Whole old new (decoded stored.info stored.precision bytes)
    (record { info = stored.info; whole_rows = stored.info.height; fault = None })
gives-whole stored old new bytes at is d = record {
  rest = rows-give old new bytes at d;
  info_is = said-there (info_by old.settings) _ _ _ (d.stays at) is.info_is;
  precision_is = said-there (λ f. f.precision) _ _ _ (d.stays at) is.precision_is;
  told_is = refl;
  rows = λ known. refl;
}

-- A writer has got the file of a picture, or that of a part, whose lines it was given as they were read.
pub rows-written : (crop area : Option Area) (format : PictureFormat) (stored : Stored) (old new : Decoding)
    (bytes : List ℕ) (before after : Option (List ℕ)) (told : Completeness) → old.stage ≡ HeaderRead
    → IsSaid stored old → is_by_lines format stored.precision stored.orientation ≡ true → area ≡ area_for crop stored
    → told ≡ record { info = stored.info; whole_rows = stored.info.height; fault = None }
    → DecodesRows old (Ok tt) new bytes
    → IsSomeAnd (file_as format (part_within area (decoded stored.info stored.precision bytes))) (Appends before after)
    → WritesFile Whole crop stored.orientation format old before after told
rows-written crop area format stored old new bytes before after told at is lines area_is told_is d written =
    subst (λ (t : Completeness). WritesFile Whole crop stored.orientation format old before after t) (sym told_is)
    (record {
      picture = decoded stored.info stored.precision bytes;
      new = new;
      gives = gives-whole stored old new bytes at is d;
      written = subst (λ (p : Decoded). IsSomeAnd (file_as format p) (Appends before after))
          (part-shown crop stored area bytes area_is (upright-by-lines format stored.precision stored.orientation lines))
          written;
    })
