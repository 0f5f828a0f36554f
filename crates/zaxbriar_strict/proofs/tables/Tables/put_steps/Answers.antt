use Rattle.zaxbriar_strict.proofs.Installs.{step-put}
use Rattle.zaxbriar_strict.proofs.tables.Tables.put_steps.Goals as goal

pub returns-clause-steps : goal.returns-clause-steps
returns-clause-steps c =
    step-put c.args.self.now.steps c.args.destination c.from.result c.args.table c.from.ensures
