use Rattle.std.proofs.Common.{sym}
use Rattle.zaxbriar_strict.proofs.transform.check_steps.Goals as goal

pub returns-clause-installed : goal.returns-clause-installed
returns-clause-installed c = record { table = c.in-Some.steps.now.steps; is = sym c.in-Some.ensures }
