use Rattle.std.proofs.Common.{◌≡◌, ℕ, ◌<◌, length, slice_index_or}
use Rattle.jpeg_bits.specs.Written.{low_bits}
use Rattle.jpeg_bits.specs.Skips.{IsSkip, no_skip}
use Rattle.jpeg_bits.proofs.huffman.codes.HuffmanTable.skips.Given as goal

abbrev pub invariant-loop-bits : goal.invariant-loop-bits
invariant-loop-bits l = record {
  whole : length l.skips.items ≡ 4096;
  filled : (b : ℕ) → b < l.bits → IsSkip l.self (low_bits 12 b) (slice_index_or l.skips.items b no_skip);
}
