use Rattle.std.proofs.Common.{[], refl, subst}
use Rattle.zaxbriar_samples.proofs.TakenLines.{none-taken-yet}
use Rattle.zaxbriar_samples.specs.LineTakers.{HasTakenLines}
use Rattle.zaxbriar_samples.specs.declared.line_takers.Stored.{Stored}
use Rattle.zaxbriar_samples.proofs.line_takers.Taker.begin.Goals as goal

pub returns-clause-begun : goal.returns-clause-begun
returns-clause-begun g c = (
  [],
  refl,
  none-taken-yet c.args.plan _ (g.W.Write.contents c.args.writer.now) (g.W.Write.contents c.begin_target.new.writer)
      c.window_of.ensures c.line_bytes.ensures refl refl c.requires.within
      (subst (λ (s : Stored). HasTakenLines c.args.plan.form s [] c.in_ok-target.target
      (g.W.Write.contents c.args.writer.now) (g.W.Write.contents c.begin_target.new.writer)) c.said_of.ensures
      c.in_ok-target.ensures.begun),
)
