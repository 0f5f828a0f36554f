use Rattle.std.proofs.Common.{◌≡◌, ℕ, ◌<◌, ◌≤◌, ◌+◌, ◌*◌, slice_index}
use Rattle.jpeg_pixels.proofs.interleave.interleave_three.Given as goal

abbrev pub invariant-loop-x : goal.invariant-loop-x
invariant-loop-x l = record {
  first : (k : ℕ) → k < l.x → slice_index l.output (3 * (l.start + k)) ≡ slice_index l.first k;
  second : (k : ℕ) → k < l.x → slice_index l.output (3 * (l.start + k) + 1) ≡ slice_index l.second k;
  third : (k : ℕ) → k < l.x → slice_index l.output (3 * (l.start + k) + 2) ≡ slice_index l.third k;
  before : (i : ℕ) → i < 3 * l.start → slice_index l.output i ≡ slice_index l.fn.output i;
  after : (i : ℕ) → 3 * (l.start + l.x) ≤ i → slice_index l.output i ≡ slice_index l.fn.output i;
}
