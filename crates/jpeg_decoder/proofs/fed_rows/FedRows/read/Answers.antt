use Rattle.jpeg_decoder.specs.declared.fed_rows.Ahead.TheVariants as ahead
use Rattle.jpeg_decoder.proofs.ByRows.FedLines.{is-ahead}
use Rattle.jpeg_decoder.proofs.fed_rows.FedRows.read.Goals as goal

pub returns-in-Scan-clause-gives : goal.returns-in-Scan-clause-gives
returns-in-Scan-clause-gives c fed given h =
    c.read_scan.ensures.gives fed given (is-ahead c.args.self.now _ fed given (ahead.Scan c.in-Scan.rows) c.self.view_is
    c.in-Scan.ensures.value h)
