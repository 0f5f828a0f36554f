use Rattle.std.proofs.Common.{rules}
use Rattle.jpeg_meaning.proofs.ProfileLemmas.{part_find}
use Rattle.jpeg_decoder.proofs.stream.profile.part.Goals as goal

pub returns-in-Some : goal.returns-in-Some
returns-in-Some c = rw (part_find c.args.number c.args.chunks.now) (search rules)

pub returns-in-None : goal.returns-in-None
returns-in-None c = rw (part_find c.args.number c.args.chunks.now) (search rules)
