use Rattle.jpeg_decoder.proofs.ByRows.FedLines.{lines-size}
use Rattle.jpeg_decoder.proofs.fed_rows.FedRows.lines.Goals as goal

pub returns-clause-whole : goal.returns-clause-whole
returns-clause-whole c =
    lines-size c.args.self.now _ c.lines_of.result.now c.self.view_is c.self.invariant c.lines_of.ensures
