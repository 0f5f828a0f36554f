use Rattle.std.proofs.Common.{◌≡◌, ℕ, ◌<◌, slice_index_or, length, None}
use Rattle.jpeg_bits.specs.Written.{low_bits}
use Rattle.jpeg_bits.specs.ShortCodes.{short_value_by, unpacked_code}
use Rattle.jpeg_bits.specs.declared.huffman.codes.HuffmanTableClass.TheVariants.{AC}
use Rattle.jpeg_bits.proofs.huffman.codes.short_values.Given as goal

abbrev pub invariant-loop-byte : goal.invariant-loop-byte
invariant-loop-byte l = (length l.tokens.items ≡ 256) × ((b : ℕ) → b < l.byte
    → slice_index_or l.tokens.items b None ≡ short_value_by 8 AC (low_bits 8 b) (unpacked_code (slice_index_or l.codes b 0)))
