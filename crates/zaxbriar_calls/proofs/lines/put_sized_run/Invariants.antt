use Rattle.zaxbriar_calls.proofs.TurnedRuns.{IsRunTo}
use Rattle.zaxbriar_calls.proofs.lines.put_sized_run.Given as goal

abbrev pub invariant-loop-place : goal.invariant-loop-place
invariant-loop-place l = IsRunTo l.source l.step l.count l.is_flipped l.pixel_bytes l.place l.run
