use Rattle.std.proofs.Common.{arith}
use Rattle.std.proofs.lemmas.Grind.{common_steps}
use Rattle.std.proofs.lemmas.Simd.{get_or-put_chunk_above, get_or-put_chunk_at}
use Rattle.jpeg_pixels.proofs.arch.ycbcr.store.Goals as goal

pub returns-clause-inside : goal.returns-clause-inside
returns-clause-inside g c = grind (arith, common_steps, get_or-put_chunk_at)

pub returns-clause-others : goal.returns-clause-others
returns-clause-others g c = grind (arith, common_steps, get_or-put_chunk_above)
