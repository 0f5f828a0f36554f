use Rattle.std.proofs.Common.{◌≡◌, ℕ, ◌<◌, ◌≤◌, ◌*◌, ◌-◌, slice_index_or, length}
use Rattle.jpeg_bits.specs.Written.{low_bits}
use Rattle.jpeg_bits.specs.ShortCodes.{ArePassed, short_code, unpacked_code}
use Rattle.jpeg_bits.proofs.huffman.codes.fill_short.Given as goal

abbrev pub decreases-loop-byte : goal.decreases-loop-byte
decreases-loop-byte l = 256 - l.byte

abbrev pub invariant-loop-byte : goal.invariant-loop-byte
invariant-loop-byte l = record {
  whole : length l.short ≡ 256;
  filled : (b : ℕ) → b < l.byte → unpacked_code (slice_index_or l.short b 0)
      ≡ short_code l.codes.counts.now l.codes.values.now (low_bits 8 b);
  within : l.row ≤ 16;
  passed : ArePassed l.codes.rows.now l.row (l.byte * 256);
  few : l.byte ≤ 256;
}
