use Rattle.std.proofs.Common.{◌≡◌}
use Rattle.zaxbriar_samples.specs.Samples.{greatest_below, pair_at}
use Rattle.zaxbriar_samples.proofs.samples.greatest_pair.Given as goal

abbrev pub invariant-loop-index : goal.invariant-loop-index
invariant-loop-index l = l.greatest ≡ greatest_below l.index (pair_at l.pixels)
