use Rattle.zaxbriar_strict.proofs.WalkStates.{Walked}
use Rattle.zaxbriar_strict.proofs.walk.read_stream.Given as goal

abbrev pub invariant-loop : goal.invariant-loop
invariant-loop l = Walked l.stream l.cursor.rest.now l.walk
