use Rattle.std.proofs.Common.{◌≡◌, ℕ, ◌<◌, length, slice_index_or}
use Rattle.jpeg_bits.specs.Codes.{Table}
use Rattle.jpeg_bits.specs.ShortCodes.{HoldsCodes, HoldsWideValues}
use Rattle.jpeg_bits.specs.Written.{low_bits}
use Rattle.jpeg_bits.specs.Pairs.{no_pair, IsPairOf}
use Rattle.jpeg_bits.proofs.huffman.pairs.pairs_of.Given as goal

abbrev pub invariant-loop-bits : goal.invariant-loop-bits
invariant-loop-bits l = record {
  whole : length l.pairs.items ≡ 2048;
  filled : (table : Table) → length table.counts ≡ 16 → HoldsCodes table.counts table.symbols l.codes
      → HoldsWideValues table l.values → (b : ℕ) → b < l.bits
      → IsPairOf table (low_bits 11 b) (slice_index_or l.pairs.items b no_pair);
}
