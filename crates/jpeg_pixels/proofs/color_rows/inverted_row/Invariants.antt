use Rattle.std.proofs.Common.{◌≡◌, ℕ, ◌<◌, ◌+◌, ◌-◌, slice_index, length}
use Rattle.jpeg_pixels.proofs.color_rows.inverted_row.Given as goal

abbrev pub invariant-loop-x : goal.invariant-loop-x
invariant-loop-x l = record {
  long : length l.row ≡ 64;
  done : (k : ℕ) → k < l.x → slice_index l.row k ≡ 255 - slice_index l.lines (l.start + k);
}
