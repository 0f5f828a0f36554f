use Rattle.std.proofs.Common.{◌*◌, ◌≤◌, false}
use Rattle.jpeg_bits.specs.Written.{low_bits}
use Rattle.jpeg_bits.specs.Skips.{PassesOver}
use Rattle.jpeg_bits.proofs.huffman.codes.HuffmanTable.skip_in.Given as goal

abbrev pub invariant-loop : goal.invariant-loop
invariant-loop l = record {
  within : l.used ≤ 12;
  small : l.passed ≤ 16 * l.counter;
  over : PassesOver l.self (low_bits 12 l.bits) (l.used, l.passed, false);
}
