use Rattle.std.proofs.Common.{slice_index, arith}
use Rattle.jpeg_bits.specs.Zigzag.{values_in_block_order}
use Rattle.jpeg_pixels.proofs.Sums.{filled_by_indices}
use Rattle.jpeg_pixels.proofs.zigzag.values_in_order.Goals as goal

pub returns : goal.returns
unfolding values_in_block_order
returns c = filled_by_indices (λ index. slice_index c.args.values.now index) c.loop-index.ordered 0
    c.loop-index.invariant.0
    (λ j h. c.loop-index.invariant.1 j (omega arith))
