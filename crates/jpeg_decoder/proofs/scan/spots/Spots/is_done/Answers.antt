use Rattle.std.proofs.Common.{arith}
use Rattle.std.proofs.lemmas.Grind.{common_steps}
use Rattle.jpeg_decoder.proofs.Orders.Walks.{spots-more}
use Rattle.jpeg_decoder.proofs.scan.spots.Spots.is_done.Goals as goal

pub returns-then-self-clause-more : goal.returns-then-self-clause-more
returns-then-self-clause-more c = grind (arith, common_steps, spots-more)
