use Rattle.std.proofs.Common.{◌≡◌, length, take}
use Rattle.jpeg_bits.specs.Reading.{next_u16}
use Rattle.jpeg_bits.proofs.Loops.{HasRead}
use Rattle.jpeg_segments.proofs.quantization.read_wide_values.Given as goal

abbrev pub invariant-loop-i : goal.invariant-loop-i
invariant-loop-i g l = record {
  len : length l.values ≡ 64;
  read : HasRead 64 next_u16 l.fn.source (take l.i l.values) l.i l.source;
}
