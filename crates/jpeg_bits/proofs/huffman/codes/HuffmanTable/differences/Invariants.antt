use Rattle.std.proofs.Common.{◌≡◌, ℕ, ◌<◌, length, slice_index_or}
use Rattle.jpeg_bits.specs.Written.{low_bits}
use Rattle.jpeg_bits.specs.ShortDifferences.{IsShortDifference, no_difference}
use Rattle.jpeg_bits.proofs.huffman.codes.HuffmanTable.differences.Given as goal

abbrev pub invariant-loop-bits : goal.invariant-loop-bits
invariant-loop-bits l = record {
  whole : length l.differences.items ≡ 4096;
  filled : (b : ℕ) → b < l.bits → IsShortDifference l.self (low_bits 12 b) (slice_index_or l.differences.items b no_difference);
}
