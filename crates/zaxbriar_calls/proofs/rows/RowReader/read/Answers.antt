use Rattle.zaxbriar_calls.proofs.TakenSteps.{all-taken, next-read}
use Rattle.zaxbriar_calls.proofs.rows.RowReader.read.Goals as goal

pub returns-clause-reaches : goal.returns-clause-reaches
returns-clause-reaches c start bytes t =
    next-read start bytes c.read.result c.args.self.now c.read.new.self t
    (c.read.ensures.gives start bytes (all-taken start bytes c.args.self.now c.requires.none t)) c.read.ensures.whole
