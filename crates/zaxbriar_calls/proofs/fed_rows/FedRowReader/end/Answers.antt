use Rattle.zaxbriar_calls.proofs.FedLines.{ends-bytes}
use Rattle.zaxbriar_calls.proofs.fed_rows.FedRowReader.end.Goals as goal

pub returns : goal.returns
returns c =
    let done = c.end.ensures in
    ends-bytes c.args.self.now c.end.new.self done.fed done.ended done.settings done.found done.ahead
