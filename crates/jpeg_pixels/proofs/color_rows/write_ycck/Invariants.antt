use Rattle.std.proofs.Common.{◌≡◌, ℕ, ◌<◌, ◌+◌, ◌-◌, ◌*◌, slice_index}
use Rattle.jpeg_pixels.specs.Colour.{red_of, green_of, blue_of}
use Rattle.jpeg_pixels.proofs.color_rows.write_ycck.Given as goal

abbrev pub invariant-loop-piece : goal.invariant-loop-piece
invariant-loop-piece l = record {
  red : (x : ℕ) → x < 64 * l.piece → slice_index l.output (4 * x) ≡ red_of (slice_index l.lines x)
      (slice_index l.lines (2 * l.width + x));
  green : (x : ℕ) → x < 64 * l.piece → slice_index l.output (4 * x + 1) ≡ green_of (slice_index l.lines x)
      (slice_index l.lines (l.width + x)) (slice_index l.lines (2 * l.width + x));
  blue : (x : ℕ) → x < 64 * l.piece → slice_index l.output (4 * x + 2) ≡ blue_of (slice_index l.lines x)
      (slice_index l.lines (l.width + x));
  black : (x : ℕ) → x < 64 * l.piece → slice_index l.output (4 * x + 3) ≡ 255 - slice_index l.lines (3 * l.width + x);
}
