use Rattle.std.proofs.Common.{◌∙◌}
use Rattle.zaxbriar_calls.proofs.Laid.{stored-line}
use Rattle.zaxbriar_calls.proofs.layouts.put_row.Goals as goal

pub returns-in-Stored : goal.returns-in-Stored
returns-in-Stored c =
    rw c.in-Stored.is (c.copy_from_slice.ensures.after
    ∙ stored-line c.args.stored c.args.width c.args.row.now c.requires.whole)
