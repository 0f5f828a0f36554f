use Rattle.std.proofs.Common.{length}
use Rattle.zaxbriar_strict.specs.Heads.{number_of}
use Rattle.zaxbriar_strict.proofs.Frames.{TakesComponents}
use Rattle.zaxbriar_strict.proofs.frame.take_components.Given as goal

abbrev pub invariant-loop-rest : goal.invariant-loop-rest
invariant-loop-rest l =
    TakesComponents (number_of l.process) l.components.items l.initial.rest.rest.now l.rest.rest.now

abbrev pub decreases-loop-rest : goal.decreases-loop-rest
decreases-loop-rest l = length l.rest.rest.now
