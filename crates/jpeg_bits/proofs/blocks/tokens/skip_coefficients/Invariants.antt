use Rattle.std.proofs.Common.{◌≤◌}
use Rattle.jpeg_bits.specs.Skips.{run_of}
use Rattle.jpeg_bits.proofs.BandLoop.{Leaves}
use Rattle.jpeg_bits.proofs.blocks.tokens.skip_coefficients.Given as goal

abbrev pub invariant-loop-left : goal.invariant-loop-left
invariant-loop-left g l = record {
  most : l.left ≤ 63;
  text : Leaves (run_of l.fn.table l.fn.room) l.fn.buffered l.fn.source (run_of l.fn.table l.left)
      l.buffered l.source;
}

abbrev pub decreases-loop-left : goal.decreases-loop-left
decreases-loop-left g l = l.left
