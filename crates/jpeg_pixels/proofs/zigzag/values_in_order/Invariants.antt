use Rattle.std.proofs.Common.{◌≡◌, ℕ, ◌<◌, slice_index, length}
use Rattle.jpeg_bits.specs.Zigzag.{zigzag_indices}
use Rattle.jpeg_pixels.proofs.zigzag.values_in_order.Given as goal

abbrev pub invariant-loop-index : goal.invariant-loop-index
invariant-loop-index l = (length l.ordered ≡ 64) × ((j : ℕ) → j < l.index
    → slice_index l.ordered j ≡ slice_index l.values (slice_index zigzag_indices j))
