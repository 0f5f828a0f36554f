use Rattle.zaxbriar_calls.proofs.FedLines.{begins-fed}
use Rattle.zaxbriar_calls.proofs.fed_rows.FedRowReader.new.Goals as goal

pub returns-clause-taken : goal.returns-clause-taken
returns-clause-taken c =
    let begun = c.with_settings-rows.ensures in
    let lines = c.lines-taken in
    begins-fed c.args.jpeg.now lines.result.now c.with_settings-rows.result c.feed.new.self _ _
    (c.in_ok-feed.ensures.fed begun.open) begun.fed lines.ensures.lines lines.ensures.whole
