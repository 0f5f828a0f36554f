use Rattle.std.proofs.Common.{rules, append_assoc}
use Rattle.zaxbriar_samples.proofs.netpbm.plain_header.Goals as goal

pub returns : goal.returns
returns c =
    let made = c.format.ensures.ok in
    search (rules, append_assoc)
