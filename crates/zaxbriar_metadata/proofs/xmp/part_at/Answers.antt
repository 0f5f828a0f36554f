use Rattle.std.proofs.Common.{rules}
use Rattle.zaxbriar_metadata.proofs.Extensions.{part-found}
use Rattle.zaxbriar_metadata.proofs.xmp.part_at.Goals as goal

pub returns-in-Some : goal.returns-in-Some
returns-in-Some c = rw (part-found c.args.guid.now c.args.offset c.args.parts.now) (search rules)

pub returns-in-None : goal.returns-in-None
returns-in-None c = rw (part-found c.args.guid.now c.args.offset c.args.parts.now) (search rules)
