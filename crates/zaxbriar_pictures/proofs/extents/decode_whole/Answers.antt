use Rattle.std.proofs.lemmas.Result.{err_from_is_err_and}
use Rattle.std.specs.List.{concat}
use Rattle.zaxbriar_pictures.proofs.GivenLines.{whole-gives, whole-refuses}
use Rattle.zaxbriar_pictures.proofs.extents.decode_whole.Goals as goal

pub returns-clause-gives : goal.returns-clause-gives
returns-clause-gives g c =
    whole-gives (λ l. concat l) c.args.decoder.now c.decode_lines.new.self c.in_ok-lines.lines
    c.requires.header c.in_ok-lines.ensures.decodes

pub returns-in_err-lines-clause-refused : goal.returns-in_err-lines-clause-refused
returns-in_err-lines-clause-refused g c known =
    let p = err_from_is_err_and c.from_residual.result c.from_residual.ensures.1 in
    rw (p.1, p.2) (whole-refuses (λ l. concat l) c.args.decoder.now c.decode_lines.new.self _ c.requires.header
    c.in_err-lines.ensures.decodes known)
