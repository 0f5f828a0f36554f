use Rattle.std.proofs.Common.{◌≡◌, ℕ, ◌<◌, slice_index}
use Rattle.jpeg_pixels.specs.Upsampling.{blended}
use Rattle.jpeg_pixels.proofs.upsample_rows.upsample_row_h1v2.Given as goal

abbrev pub invariant-loop-x : goal.invariant-loop-x
invariant-loop-x l = (k : ℕ) → k < l.x → slice_index l.output k ≡ blended (slice_index l.near k) (slice_index l.far k)
