use Rattle.std.proofs.Common.{◌≡◌, inr, refl, subst, sym, true}
use Rattle.std.proofs.lemmas.Result.{err_from_is_err_and}
use Rattle.std.specs.List.{concat}
use Rattle.jpeg_meaning.specs.Pixels.{info_by}
use Rattle.jpeg_meaning.specs.declared.images.PixelFormat.{PixelFormat}
use Rattle.zaxbriar_samples.specs.DecodedPictures.{decoded}
use Rattle.zaxbriar_samples.specs.Files.{has_pixels}
use Rattle.zaxbriar_pictures.proofs.FittingParts.{said-there}
use Rattle.zaxbriar_pictures.proofs.PartPictures.{written-part}
use Rattle.zaxbriar_pictures.proofs.WrittenRows.{lines-said}
use Rattle.zaxbriar_pictures.proofs.scaled.write_lines.Goals as goal

pub part_for-requires-clause-height : goal.part_for-requires-clause-height
part_for-requires-clause-height g c =
    (lines-said c.args.decoder c.decode_wanted_lines.new.decoder c.args.stored c.in_ok-decoded.decoded.lines
    c.requires.said c.in_ok-decoded.ensures.stays c.in_ok-decoded.ensures.settings c.in_ok-decoded.ensures.lines
    c.in_ok-decoded.ensures.counted).height

pub part_for-requires-clause-bytes : goal.part_for-requires-clause-bytes
part_for-requires-clause-bytes g c =
    (lines-said c.args.decoder c.decode_wanted_lines.new.decoder c.args.stored c.in_ok-decoded.decoded.lines
    c.requires.said c.in_ok-decoded.ensures.stays c.in_ok-decoded.ensures.settings c.in_ok-decoded.ensures.lines
    c.in_ok-decoded.ensures.counted).bytes

pub returns-clause-written : goal.returns-clause-written
returns-clause-written g c =
    let info = said-there (info_by c.args.decoder.settings) _ _ _ c.in_ok-decoded.ensures.stays c.requires.said.info_is in
    record {
      picture = decoded c.args.stored.info c.args.stored.precision (concat c.in_ok-decoded.decoded.lines);
      new = c.decode_wanted_lines.new.decoder;
      gives = record {
        rest = c.in_ok-decoded.ensures.gives;
        info_is = info;
        precision_is = said-there (λ f. f.precision) _ _ _ c.in_ok-decoded.ensures.stays c.requires.said.precision_is;
        told_is = refl;
        rows = c.in_ok-decoded.ensures.rows c.args.stored.info info;
      };
      written = written-part c.args.format c.args.crop c.args.stored.orientation
          (decoded c.args.stored.info c.args.stored.precision (concat c.in_ok-decoded.decoded.lines)) _ _
          c.in_ok-part.part c.in_ok-part.ensures c.in_ok-write_file.ensures.written refl;
    }

pub write_file-requires-clause-pixels : goal.write_file-requires-clause-pixels
write_file-requires-clause-pixels g c =
    subst (λ (p : PixelFormat). has_pixels c.args.format p ≡ true) (sym c.in_ok-part.ensures.format_is)
    c.requires.pixels

pub write_file-requires-clause-height : goal.write_file-requires-clause-height
write_file-requires-clause-height g c = c.in_ok-part.ensures.height

pub write_file-requires-clause-bytes : goal.write_file-requires-clause-bytes
write_file-requires-clause-bytes g c = c.in_ok-part.ensures.bytes

-- ---- refusals

pub returns-in_err-decoded-clause-refused : goal.returns-in_err-decoded-clause-refused
returns-in_err-decoded-clause-refused g c known =
    let p = err_from_is_err_and c.from_residual.result c.from_residual.ensures.1 in
    rw (p.1, p.2) (c.in_err-decoded.ensures.refused known)

pub returns-in_err-part-clause-refused : goal.returns-in_err-part-clause-refused
returns-in_err-part-clause-refused g c known =
    let p = err_from_is_err_and c.from_residual-in_err-part.result c.from_residual-in_err-part.ensures.1 in
    rw (p.1, p.2, c.in_err-part.ensures) (inr tt)

pub returns-in_err-write_file-clause-refused : goal.returns-in_err-write_file-clause-refused
returns-in_err-write_file-clause-refused g c known =
    let p = err_from_is_err_and c.from_residual-in_err-write_file.result
    c.from_residual-in_err-write_file.ensures.1 in
    rw (p.1, p.2) (inr c.in_err-write_file.ensures.refused)
