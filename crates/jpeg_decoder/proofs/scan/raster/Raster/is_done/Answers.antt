use Rattle.std.proofs.Common.{arith}
use Rattle.std.proofs.lemmas.Grind.{common_steps}
use Rattle.jpeg_decoder.proofs.Orders.Walks.{raster-more, wide-none}
use Rattle.jpeg_decoder.proofs.scan.raster.Raster.is_done.Goals as goal

pub returns-else-self-eq0-2-clause-done : goal.returns-else-self-eq0-2-clause-done
returns-else-self-eq0-2-clause-done c = grind (arith, common_steps, wide-none)

pub returns-else-self-eq0-2-clause-more : goal.returns-else-self-eq0-2-clause-more
returns-else-self-eq0-2-clause-more c = grind (arith, common_steps, raster-more)
