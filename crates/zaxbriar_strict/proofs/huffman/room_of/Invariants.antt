use Rattle.std.proofs.Common.{◌≡◌, ◌+◌, ◌^◌, ◌≤◌}
use Rattle.jpeg_bits.specs.ShortCodes.{value_after}
use Rattle.zaxbriar_strict.proofs.huffman.room_of.Given as goal

abbrev pub invariant-loop-place : goal.invariant-loop-place
invariant-loop-place l = record {
  room : l.room ≡ value_after l.counts l.place;
  short : l.room + 256 ≤ 2 ^ (l.place + 8);
}
