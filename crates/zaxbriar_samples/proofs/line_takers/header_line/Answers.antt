use Rattle.std.proofs.Common.{rules, append_assoc}
use Rattle.zaxbriar_samples.proofs.line_takers.header_line.Goals as goal

pub returns : goal.returns
returns c = let made = rw c.format_name-format.ensures at c.format.ensures.ok in search (rules, append_assoc)
