use Rattle.std.proofs.Common.{List, Option, ℕ, length}
use Rattle.zaxbriar_samples.specs.LineTakers.{IsTaking}
use Rattle.zaxbriar_samples.specs.declared.line_takers.Plan.{Plan}
use Rattle.zaxbriar_samples.proofs.TakenLines.{TakenSome}
use Rattle.zaxbriar_samples.proofs.line_takers.LineTaker.take_lines.Given as goal

abbrev pub invariant-loop-rest : goal.invariant-loop-rest
invariant-loop-rest g l = (plan : Plan) (lines : List (List ℕ)) (before : Option (List ℕ))
    → IsTaking plan lines l.fn.self before (g.W.Write.contents l.fn.writer)
    → TakenSome plan lines l.fn.bytes l.rest l.self before (g.W.Write.contents l.writer)

abbrev pub decreases-loop-rest : goal.decreases-loop-rest
decreases-loop-rest g l = length l.rest
