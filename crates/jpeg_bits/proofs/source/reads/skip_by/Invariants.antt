use Rattle.std.proofs.Common.{◌≡◌, length}
use Rattle.jpeg_bits.specs.Reading.{skip_at}
use Rattle.jpeg_bits.proofs.Loops.{Continues}
use Rattle.jpeg_bits.proofs.source.reads.skip_by.Given as goal

abbrev pub invariant-loop-left : goal.invariant-loop-left
invariant-loop-left g l = record {
  long : length l.buffer ≡ length l.fn.buffer;
  read : Continues (skip_at l.fn.count) l.fn.source (skip_at l.left) l.source;
}

abbrev pub decreases-loop-left : goal.decreases-loop-left
decreases-loop-left g l = l.left
