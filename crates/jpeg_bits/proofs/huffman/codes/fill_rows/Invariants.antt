use Rattle.std.proofs.Common.{◌≡◌, ℕ, ◌+◌, ◌*◌, ◌^◌, ◌<◌, ◌≤◌, length, take, sum, slice_index_or}
use Rattle.jpeg_bits.specs.ShortCodes.{value_after, row_at, no_row}
use Rattle.jpeg_bits.proofs.huffman.codes.fill_rows.Given as goal

abbrev pub invariant-loop-i : goal.invariant-loop-i
invariant-loop-i l = record {
  size : length l.rows ≡ 16;
  end : l.end ≡ value_after l.counts l.i;
  index : l.index ≡ sum (take l.i l.counts);
  short : l.end + 256 ≤ 2 ^ (l.i + 8);
  few : l.index ≤ 255 * l.i;
  rows : (k : ℕ) → k < l.i → slice_index_or l.rows k no_row ≡ row_at l.counts k;
}
