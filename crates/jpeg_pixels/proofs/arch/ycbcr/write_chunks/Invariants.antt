use Rattle.std.proofs.Common.{◌≡◌, ℕ, ◌<◌, ◌+◌, ◌*◌, slice_index, length}
use Rattle.jpeg_pixels.specs.Colour.{red_of, green_of, blue_of}
use Rattle.jpeg_pixels.proofs.arch.ycbcr.write_chunks.Given as goal

abbrev pub invariant-loop-chunk : goal.invariant-loop-chunk
invariant-loop-chunk l = record {
  red : (k : ℕ) → k < 8 * l.chunk → slice_index l.rows.red k ≡ red_of (slice_index l.y (l.start + k))
      (slice_index l.cr (l.start + k));
  green : (k : ℕ) → k < 8 * l.chunk → slice_index l.rows.green k ≡ green_of (slice_index l.y (l.start + k))
      (slice_index l.cb (l.start + k)) (slice_index l.cr (l.start + k));
  blue : (k : ℕ) → k < 8 * l.chunk → slice_index l.rows.blue k ≡ blue_of (slice_index l.y (l.start + k))
      (slice_index l.cb (l.start + k));
  red_long : length l.rows.red ≡ 64;
  green_long : length l.rows.green ≡ 64;
  blue_long : length l.rows.blue ≡ 64;
}

abbrev pub invariant-loop-x : goal.invariant-loop-x
invariant-loop-x l = record {
  red : (k : ℕ) → k < l.x → slice_index l.rows.red k ≡ red_of (slice_index l.y (l.start + k))
      (slice_index l.cr (l.start + k));
  green : (k : ℕ) → k < l.x → slice_index l.rows.green k ≡ green_of (slice_index l.y (l.start + k))
      (slice_index l.cb (l.start + k)) (slice_index l.cr (l.start + k));
  blue : (k : ℕ) → k < l.x → slice_index l.rows.blue k ≡ blue_of (slice_index l.y (l.start + k))
      (slice_index l.cb (l.start + k));
  red_long : length l.rows.red ≡ 64;
  green_long : length l.rows.green ≡ 64;
  blue_long : length l.rows.blue ≡ 64;
}
