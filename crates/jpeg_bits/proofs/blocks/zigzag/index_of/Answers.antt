use Rattle.jpeg_bits.proofs.ZigzagIndices.{zigzag_lt}
use Rattle.jpeg_bits.proofs.blocks.zigzag.index_of.Goals as goal

pub returns-clause-within : goal.returns-clause-within
returns-clause-within c = rw c.from.ensures (zigzag_lt c.args.zigzag_index c.requires)
