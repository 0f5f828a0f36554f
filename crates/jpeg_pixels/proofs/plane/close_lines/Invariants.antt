use Rattle.std.proofs.Common.{◌≡◌, ℕ, ◌<◌, ◌≤◌, ◌+◌, ◌*◌, slice_index}
use Rattle.jpeg_pixels.proofs.plane.close_lines.Given as goal

abbrev pub invariant-loop-y : goal.invariant-loop-y
invariant-loop-y l =
    ((r x : ℕ) → r < l.y → x < l.width → slice_index l.lines (r * l.width + x) ≡ slice_index l.fn.lines
    (r * l.stride + x))
    × ((i : ℕ) → l.y * l.width ≤ i → slice_index l.lines i ≡ slice_index l.fn.lines i)
