use Rattle.jpeg_decoder.specs.Rows.{calls_left}
use Rattle.zaxbriar_calls.proofs.TakenSteps.{KeepsTaken}
use Rattle.zaxbriar_calls.proofs.rows.RowReader.reach_line.Given as goal

abbrev pub invariant-loop-self : goal.invariant-loop-self
invariant-loop-self l = KeepsTaken l.fn.self l.self

abbrev pub decreases-loop-self : goal.decreases-loop-self
decreases-loop-self l = calls_left l.self.rows.ahead
