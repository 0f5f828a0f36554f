use Rattle.std.proofs.Common.{◌≡◌, ◌-◌, ◌≤◌, length, take}
use Rattle.jpeg_bits.proofs.Filled.{HasFilled}
use Rattle.jpeg_bits.proofs.source.reads.read_exact.Given as goal

abbrev pub invariant-loop-filled : goal.invariant-loop-filled
invariant-loop-filled g l = record {
  long : length l.buffer ≡ length l.fn.buffer;
  within : l.filled ≤ length l.buffer;
  read : HasFilled l.fn.source (take l.filled l.buffer) l.source;
}

abbrev pub decreases-loop-filled : goal.decreases-loop-filled
decreases-loop-filled g l = length l.buffer - l.filled
