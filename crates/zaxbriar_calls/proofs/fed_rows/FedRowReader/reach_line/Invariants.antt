use Rattle.jpeg_decoder.specs.FedRows.{calls_left}
use Rattle.zaxbriar_calls.proofs.FedLines.{ReadsOn}
use Rattle.zaxbriar_calls.proofs.fed_rows.FedRowReader.reach_line.Given as goal

abbrev pub invariant-loop-self : goal.invariant-loop-self
invariant-loop-self l = ReadsOn l.fn.self l.self

abbrev pub decreases-loop-self : goal.decreases-loop-self
decreases-loop-self l = calls_left l.self.rows
