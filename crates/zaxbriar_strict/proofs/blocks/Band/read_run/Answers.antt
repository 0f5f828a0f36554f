use Rattle.zaxbriar_strict.proofs.Bands.{run-one}
use Rattle.zaxbriar_strict.proofs.Taken.{takes-none}
use Rattle.zaxbriar_strict.proofs.blocks.Band.read_run.Goals as goal

pub returns-then-order-eq0-clause-sent : goal.returns-then-order-eq0-clause-sent
returns-then-order-eq0-clause-sent c = run-one c.args.order _ c.if-order-eq0.true (takes-none _)
