use Rattle.zaxbriar_strict.proofs.Markers.{IsFilled}
use Rattle.zaxbriar_strict.proofs.cursor.Cursor.marker.Given as goal

abbrev pub invariant-loop : goal.invariant-loop
invariant-loop l = IsFilled l.initial.self.rest.now l.self.rest.now
