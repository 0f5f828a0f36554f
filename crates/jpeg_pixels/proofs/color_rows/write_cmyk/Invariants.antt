use Rattle.std.proofs.Common.{◌≡◌, ℕ, ◌<◌, ◌+◌, ◌-◌, ◌*◌, slice_index}
use Rattle.jpeg_pixels.proofs.color_rows.write_cmyk.Given as goal

abbrev pub invariant-loop-piece : goal.invariant-loop-piece
invariant-loop-piece l = record {
  cyan : (x : ℕ) → x < 64 * l.piece → slice_index l.output (4 * x) ≡ 255 - slice_index l.lines x;
  magenta : (x : ℕ) → x < 64 * l.piece → slice_index l.output (4 * x + 1) ≡ 255 - slice_index l.lines (l.width + x);
  yellow : (x : ℕ) → x < 64 * l.piece → slice_index l.output (4 * x + 2) ≡ 255 - slice_index l.lines (2 * l.width + x);
  black : (x : ℕ) → x < 64 * l.piece → slice_index l.output (4 * x + 3) ≡ 255 - slice_index l.lines (3 * l.width + x);
}
