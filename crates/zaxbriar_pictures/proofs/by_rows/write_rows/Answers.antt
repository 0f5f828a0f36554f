use Rattle.std.proofs.Common.{ap}
use Rattle.jpeg_decoder.specs.Rows.{RowsState}
use Rattle.zaxbriar_pictures.proofs.ReadRows.{all-refuse, rows-write}
use Rattle.zaxbriar_pictures.proofs.by_rows.write_rows.Goals as goal

pub returns-clause-written : goal.returns-clause-written
returns-clause-written g c =
    rows-write c.write_lines.result c.args.decoder c.write_lines.new.rows.decoder c.new-rows.result c.args.plan _ _
    c.new-rows.ensures c.write_lines.ensures.written

pub returns-clause-refused : goal.returns-clause-refused
returns-clause-refused g c known =
    all-refuse c.write_lines.result c.args.decoder c.new-rows.result c.new-rows.ensures c.requires.header known
    c.write_lines.ensures.refused

pub write_lines-requires-clause-start : goal.write_lines-requires-clause-start
write_lines-requires-clause-start g c = ap (λ (r : RowsState). r.ahead) c.new-rows.ensures
