use Rattle.std.proofs.Common.{◌≡◌, ◌+◌, ◌*◌, ◌^◌, ◌≤◌, sum, take}
use Rattle.jpeg_bits.specs.ShortCodes.{value_after}
use Rattle.zaxbriar_strict.proofs.huffman.HuffmanTable.find.Given as goal

abbrev pub invariant-loop-place : goal.invariant-loop-place
invariant-loop-place l = record {
  end : l.end ≡ value_after l.self.counts l.place;
  index : l.index ≡ sum (take l.place l.self.counts);
  short : l.end + 256 ≤ 2 ^ (l.place + 8);
  few : l.index ≤ 255 * l.place;
}
