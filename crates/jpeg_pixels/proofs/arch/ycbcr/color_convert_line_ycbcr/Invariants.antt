use Rattle.std.proofs.Common.{◌≡◌, ℕ, ◌<◌, ◌≤◌, ◌+◌, ◌*◌, slice_index}
use Rattle.jpeg_pixels.specs.Colour.{red_of, green_of, blue_of}
use Rattle.jpeg_pixels.proofs.arch.ycbcr.color_convert_line_ycbcr.Given as goal

abbrev pub invariant-loop-piece : goal.invariant-loop-piece
invariant-loop-piece l = record {
  red : (x : ℕ) → x < 64 * l.piece → slice_index l.output (3 * x) ≡ red_of (slice_index l.y x) (slice_index l.cr x);
  green : (x : ℕ) → x < 64 * l.piece → slice_index l.output (3 * x + 1) ≡ green_of (slice_index l.y x)
      (slice_index l.cb x) (slice_index l.cr x);
  blue : (x : ℕ) → x < 64 * l.piece → slice_index l.output (3 * x + 2) ≡ blue_of (slice_index l.y x)
      (slice_index l.cb x);
  rest : (i : ℕ) → 3 * (64 * l.piece) ≤ i → slice_index l.output i ≡ slice_index l.fn.output i;
}
