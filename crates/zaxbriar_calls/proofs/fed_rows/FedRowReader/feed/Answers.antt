use Rattle.zaxbriar_calls.proofs.FedLines.{fed-taken}
use Rattle.zaxbriar_calls.proofs.fed_rows.FedRowReader.feed.Goals as goal

pub returns-clause-fed : goal.returns-clause-fed
returns-clause-fed c =
    let done = c.feed.ensures in
    fed-taken c.feed.result c.args.piece.now c.args.self.now c.feed.new.self (done.fed c.requires.open) done.settings
    done.found done.ahead
