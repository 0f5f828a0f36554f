use Rattle.std.proofs.Common.{inr}
use Rattle.std.proofs.lemmas.Result.{IfErr-weaker, err_from_is_err_and}
use Rattle.std.specs.List.{concat}
use Rattle.zaxbriar_pictures.proofs.WrittenRows.{lines-said, whole-named, written-whole}
use Rattle.zaxbriar_pictures.proofs.raw.write_lines.Goals as goal

pub write_part-requires-clause-height : goal.write_part-requires-clause-height
write_part-requires-clause-height g c =
    (lines-said c.args.decoder c.decode_lines.new.self c.args.stored c.in_ok-lines.lines c.requires.said
    (c.in_ok-lines.ensures.stays c.requires.header) c.in_ok-lines.ensures.settings c.in_ok-lines.ensures.lines
    c.in_ok-lines.ensures.counted).height

pub write_part-requires-clause-bytes : goal.write_part-requires-clause-bytes
write_part-requires-clause-bytes g c =
    (lines-said c.args.decoder c.decode_lines.new.self c.args.stored c.in_ok-lines.lines c.requires.said
    (c.in_ok-lines.ensures.stays c.requires.header) c.in_ok-lines.ensures.settings c.in_ok-lines.ensures.lines
    c.in_ok-lines.ensures.counted).bytes

pub returns-clause-written : goal.returns-clause-written
returns-clause-written g c known =
    written-whole c.args.crop c.args.stored c.args.decoder c.decode_lines.new.self c.in_ok-lines.lines _ _
    c.write_part.result c.requires.header known c.in_ok-lines.ensures.decodes
    (c.in_ok-lines.ensures.stays c.requires.header) c.write_part.ensures.written

pub returns-clause-refused : goal.returns-clause-refused
returns-clause-refused g c known =
    IfErr-weaker c.write_part.result _ _ (λ e h. inr h) c.write_part.ensures.refused

pub returns-in_err-lines-clause-refused : goal.returns-in_err-lines-clause-refused
returns-in_err-lines-clause-refused g c known =
    let p = err_from_is_err_and c.from_residual.result c.from_residual.ensures.1 in
    rw (p.1, p.2) (whole-named concat c.args.decoder c.decode_lines.new.self _ c.requires.header
    c.in_err-lines.ensures.decodes known)
