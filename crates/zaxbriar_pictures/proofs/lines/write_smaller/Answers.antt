use Rattle.std.proofs.Common.{◌≡◌, ◌∙◌, ap, subst, sym, true}
use Rattle.std.proofs.lemmas.Result.{err_from_is_err_and}
use Rattle.std.specs.List.{concat}
use Rattle.std.specs.Prelude.{IsSomeAnd, OnOk}
use Rattle.std.specs.Io.KnownBytes.{Appends}
use Rattle.jpeg_meaning.specs.declared.images.PixelFormat.{PixelFormat}
use Rattle.zaxbriar_samples.specs.DecodedPictures.{Decoded, decoded}
use Rattle.zaxbriar_samples.specs.Files.{file_as, has_pixels}
use Rattle.zaxbriar_samples.specs.Turns.{upright}
use Rattle.zaxbriar_samples.proofs.TakenLines.{same-colours}
use Rattle.zaxbriar_pictures.proofs.WriterErrors.{refused-of-writer}
use Rattle.zaxbriar_pictures.proofs.lines.write_smaller.Goals as goal

pub write_file-requires : goal.write_file-requires
write_file-requires g c =
    let p : Decoded = decoded c.args.stored.info c.args.stored.precision (concat c.args.lines) in
    let made = c.in_ok-picture.ensures ∙ ap (upright c.args.stored.orientation) c.in_ok-smaller.ensures in
    let same = ap (λ (d : Decoded). d.info.pixel_format) made
    ∙ same-colours c.args.stored.orientation c.args.size p in
    subst (λ (k : PixelFormat). has_pixels c.args.format k ≡ true) (sym same) c.requires.pixels

pub returns-clause-written : goal.returns-clause-written
returns-clause-written g c =
    let made = c.in_ok-picture.ensures ∙ ap (upright c.args.stored.orientation) c.in_ok-smaller.ensures in
    subst (λ (d : Decoded). OnOk c.write_file.result (IsSomeAnd (file_as c.args.format d)
    (Appends (g.W.Write.contents c.args.writer.now) (g.W.Write.contents c.write_file.new.writer)))) made
    c.write_file.ensures.file

-- ---- refusals

pub returns-in_err-smaller-clause-refused : goal.returns-in_err-smaller-clause-refused
returns-in_err-smaller-clause-refused g c =
    let p = err_from_is_err_and c.from_residual.result c.from_residual.ensures.1 in
    rw (p.1, p.2, c.in_err-smaller.ensures) tt

pub returns-in_err-picture-clause-refused : goal.returns-in_err-picture-clause-refused
returns-in_err-picture-clause-refused g c =
    let p = err_from_is_err_and c.from_residual-in_err-picture.result c.from_residual-in_err-picture.ensures.1 in
    rw (p.1, p.2, c.in_err-picture.ensures) tt

pub returns-clause-refused : goal.returns-clause-refused
returns-clause-refused g c = refused-of-writer c.write_file.result c.write_file.ensures.refused
