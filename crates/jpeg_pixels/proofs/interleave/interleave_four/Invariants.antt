use Rattle.std.proofs.Common.{◌≡◌, ℕ, ◌<◌, ◌+◌, ◌*◌, slice_index}
use Rattle.jpeg_pixels.proofs.interleave.interleave_four.Given as goal

abbrev pub invariant-loop-x : goal.invariant-loop-x
invariant-loop-x l = record {
  first : (k : ℕ) → k < l.x → slice_index l.output (4 * (l.start + k)) ≡ slice_index l.rows.first.now k;
  second : (k : ℕ) → k < l.x → slice_index l.output (4 * (l.start + k) + 1) ≡ slice_index l.rows.second.now k;
  third : (k : ℕ) → k < l.x → slice_index l.output (4 * (l.start + k) + 2) ≡ slice_index l.rows.third.now k;
  fourth : (k : ℕ) → k < l.x → slice_index l.output (4 * (l.start + k) + 3) ≡ slice_index l.rows.fourth.now k;
  before : (i : ℕ) → i < 4 * l.start → slice_index l.output i ≡ slice_index l.fn.output i;
}
