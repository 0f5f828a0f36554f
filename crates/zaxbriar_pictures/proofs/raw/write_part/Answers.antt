use Rattle.std.proofs.Common.{◌∙◌, ℕ, ap, subst}
use Rattle.std.proofs.lemmas.Result.{err_from_is_err_and}
use Rattle.std.specs.Prelude.{OnOk}
use Rattle.std.specs.Io.KnownBytes.{Appends}
use Rattle.zaxbriar_samples.specs.DecodedPictures.{Decoded}
use Rattle.zaxbriar_samples.specs.Turns.{upright}
use Rattle.zaxbriar_pictures.specs.PartLines.{picture_of}
use Rattle.zaxbriar_samples.specs.LineTakers.{raw_bytes}
use Rattle.zaxbriar_pictures.proofs.raw.write_part.Goals as goal

pub returns-clause-written : goal.returns-clause-written
returns-clause-written g c =
    let h = c.in_ok-part.ensures in
    let p = c.in_ok-part.part in
    subst (λ (d : Decoded). OnOk c.write_turned.result (Appends (g.W.Write.contents c.args.writer.now)
    (g.W.Write.contents c.write_turned.new.writer) (raw_bytes d)))
    (ap (λ (o : ℕ). upright o (picture_of p.stored p.lines)) h.orientation_is
    ∙ ap (upright c.args.stored.orientation) h.picture_is) c.write_turned.ensures.written

pub returns-in_err-part-clause-refused : goal.returns-in_err-part-clause-refused
returns-in_err-part-clause-refused g c =
    let p = err_from_is_err_and c.from_residual.result c.from_residual.ensures.1 in
    rw (p.1, p.2, c.in_err-part.ensures) tt
