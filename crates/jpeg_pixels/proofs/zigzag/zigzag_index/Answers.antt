use Rattle.jpeg_bits.proofs.ZigzagIndices.{indices_lt}
use Rattle.jpeg_bits.specs.Zigzag.{zigzag_indices}
use Rattle.jpeg_pixels.proofs.zigzag.zigzag_index.Goals as goal

pub returns-clause-within : goal.returns-clause-within
unfolding zigzag_indices
returns-clause-within c = indices_lt c.args.index c.requires
