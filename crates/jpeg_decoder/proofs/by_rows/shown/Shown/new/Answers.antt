use Rattle.jpeg_decoder.proofs.ByRows.LinesLeft.{all-left}
use Rattle.jpeg_decoder.proofs.by_rows.shown.Shown.new.Goals as goal

pub returns-clause-ok : goal.returns-clause-ok
returns-clause-ok c = all-left c.args.lines c.in_ok-line.line.items
