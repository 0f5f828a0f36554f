use Rattle.zaxbriar_calls.proofs.FedLines.{none-fits}
use Rattle.zaxbriar_calls.proofs.fed_rows.FedRowReader.has_line.Goals as goal

pub returns-then-self-bytes-clause-none : goal.returns-then-self-bytes-clause-none
returns-then-self-bytes-clause-none c short fed bytes t =
    let lines = c.lines-bytes in
    none-fits fed bytes c.args.self.now c.line_bytes-size.result lines.result.now c.line_bytes-size.ensures
    lines.ensures.lines lines.ensures.whole c.if-self-bytes.true short t
