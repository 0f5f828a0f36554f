use Rattle.std.proofs.Common.{◌≡◌, ℕ, ◌<◌, ◌≤◌, ◌*◌, ◌-◌, slice_index_or, length, None}
use Rattle.jpeg_bits.specs.Written.{low_bits}
use Rattle.jpeg_bits.specs.ShortCodes.{ArePassed, packed, short_value_of}
use Rattle.jpeg_bits.specs.declared.huffman.codes.HuffmanTableClass.TheVariants.{AC}
use Rattle.jpeg_bits.proofs.huffman.codes.wide_values.Given as goal

abbrev pub decreases-loop-index : goal.decreases-loop-index
decreases-loop-index l = 2048 - l.index

abbrev pub invariant-loop-index : goal.invariant-loop-index
invariant-loop-index l = record {
  whole : length l.tokens.items ≡ 2048;
  filled : (b : ℕ) → b < l.index → slice_index_or l.tokens.items b (packed None) ≡ packed
      (short_value_of 11
      (record { class = AC; counts = l.codes.counts.now; symbols = l.codes.values.now }) (low_bits 11 b));
  small : (b : ℕ) → b < l.index → ((slice_index_or l.tokens.items b (packed None)).1 ≤ 15)
      × ((slice_index_or l.tokens.items b (packed None)).2 ≤ 11);
  within : l.row ≤ 16;
  passed : ArePassed l.codes.rows.now l.row (l.index * 32);
  few : l.index ≤ 2048;
}

abbrev pub invariant-loop-at : goal.invariant-loop-at
invariant-loop-at l = record {
  whole : length l.tokens.items ≡ 2048;
  filled : (b : ℕ) → b < l.at → slice_index_or l.tokens.items b (packed None) ≡ packed
      (short_value_of 11
      (record { class = AC; counts = l.codes.counts.now; symbols = l.codes.values.now }) (low_bits 11 b));
  small : (b : ℕ) → b < l.at → ((slice_index_or l.tokens.items b (packed None)).1 ≤ 15)
      × ((slice_index_or l.tokens.items b (packed None)).2 ≤ 11);
}
