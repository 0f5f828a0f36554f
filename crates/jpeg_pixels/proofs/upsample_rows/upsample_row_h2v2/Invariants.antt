use Rattle.std.proofs.Common.{◌≡◌, ℕ, ◌+◌, ◌*◌, ◌/◌, ◌<◌, length, slice_index}
use Rattle.jpeg_pixels.specs.Upsampling.{far_index}
use Rattle.jpeg_pixels.proofs.upsample_rows.upsample_row_h2v2.Given as goal

abbrev pub invariant-loop-i : goal.invariant-loop-i
invariant-loop-i l = (x : ℕ) → x + 1 < 2 * l.i → slice_index l.output x ≡
    (3 * (3 * slice_index l.near (x / 2) + slice_index l.far (x / 2))
    + (3 * slice_index l.near (far_index (length l.near) x) + slice_index l.far (far_index (length
    l.near) x)) + 8) / 16
