use Rattle.std.proofs.Common.{rules}
use Rattle.zaxbriar_metadata.proofs.Extensions.{all-named}
use Rattle.zaxbriar_metadata.proofs.xmp.all_name.Goals as goal

pub returns : goal.returns
returns c = rw (all-named c.args.guid.now c.args.size c.args.parts.now) (search rules)
