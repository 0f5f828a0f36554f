use Rattle.std.proofs.Common.{◌≡◌, ℕ, ◌+◌, ◌*◌, ◌/◌, ◌<◌, slice_index}
use Rattle.jpeg_pixels.proofs.upsample_rows.write_runs.Given as goal

abbrev pub invariant-loop-i : goal.invariant-loop-i
invariant-loop-i l = (x : ℕ) → x < l.i * l.times → slice_index l.output x ≡ slice_index l.line (x / l.times)

abbrev pub invariant-loop-k : goal.invariant-loop-k
invariant-loop-k l = (x : ℕ) → x < l.i * l.times + l.k → slice_index l.output x ≡ slice_index l.line (x / l.times)

abbrev pub invariant-loop-x : goal.invariant-loop-x
invariant-loop-x l = (k : ℕ) → k < l.x → slice_index l.output k ≡ slice_index l.line (k / l.times)
