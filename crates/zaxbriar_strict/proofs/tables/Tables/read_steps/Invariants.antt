use Rattle.std.proofs.Common.{length}
use Rattle.zaxbriar_strict.proofs.Segments.{StepsRead}
use Rattle.zaxbriar_strict.proofs.tables.Tables.read_steps.Given as goal

abbrev pub invariant-loop-rest : goal.invariant-loop-rest
invariant-loop-rest l = StepsRead l.initial.rest.rest.now l.rest.rest.now l.initial.self l.self

abbrev pub decreases-loop-rest : goal.decreases-loop-rest
decreases-loop-rest l = length l.rest.rest.now
