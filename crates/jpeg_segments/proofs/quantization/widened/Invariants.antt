use Rattle.std.proofs.Common.{◌≡◌, length, take}
use Rattle.jpeg_segments.proofs.quantization.widened.Given as goal

abbrev pub invariant-loop-i : goal.invariant-loop-i
invariant-loop-i l = record {
  len : length l.values ≡ 64;
  same : take l.i l.values ≡ take l.i l.bytes;
}
