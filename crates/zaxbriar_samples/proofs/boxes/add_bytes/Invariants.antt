use Rattle.zaxbriar_samples.specs.Samples.{byte_at}
use Rattle.zaxbriar_samples.proofs.BoxSums.{AreAdded}
use Rattle.zaxbriar_samples.proofs.boxes.add_bytes.Given as goal

abbrev pub invariant-loop-index : goal.invariant-loop-index
invariant-loop-index l = AreAdded (byte_at l.line) l.fn.sums l.sums l.index
