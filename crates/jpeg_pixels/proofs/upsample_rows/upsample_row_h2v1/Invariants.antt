use Rattle.std.proofs.Common.{◌≡◌, ℕ, ◌+◌, ◌*◌, ◌/◌, ◌<◌, length, slice_index}
use Rattle.jpeg_pixels.specs.Upsampling.{blended, far_index}
use Rattle.jpeg_pixels.proofs.upsample_rows.upsample_row_h2v1.Given as goal

abbrev pub invariant-loop-i : goal.invariant-loop-i
invariant-loop-i l = (x : ℕ) → x + 1 < 2 * l.i → slice_index l.output x ≡ blended (slice_index l.line (x / 2))
    (slice_index l.line (far_index (length l.line) x))
