use Rattle.std.proofs.Common.{ℕ, ◌<◌, ◌≤◌, pos, get_or, unsigned_abs}
use Rattle.zaxbriar_strict.proofs.quantization.has_bits.Given as goal

abbrev pub invariant-loop-place : goal.invariant-loop-place
invariant-loop-place l = (k : ℕ) → k < l.place → 1 ≤ k → unsigned_abs (get_or l.block k (pos 0)) ≤ l.most
