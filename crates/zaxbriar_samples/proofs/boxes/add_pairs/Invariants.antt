use Rattle.zaxbriar_samples.specs.Samples.{pair_at}
use Rattle.zaxbriar_samples.proofs.BoxSums.{AreAdded}
use Rattle.zaxbriar_samples.proofs.boxes.add_pairs.Given as goal

abbrev pub invariant-loop-index : goal.invariant-loop-index
invariant-loop-index l = AreAdded (pair_at l.line) l.fn.sums l.sums l.index
