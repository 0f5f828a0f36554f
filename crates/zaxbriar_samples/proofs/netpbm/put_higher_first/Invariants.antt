use Rattle.std.proofs.Common.{◌≡◌, length}
use Rattle.zaxbriar_samples.specs.Netpbm.{first_turned}
use Rattle.zaxbriar_samples.proofs.netpbm.put_higher_first.Given as goal

abbrev pub invariant-loop-index : goal.invariant-loop-index
invariant-loop-index l = (l.samples ≡ first_turned l.index l.initial.samples)
    × (length l.samples ≡ length l.initial.samples)
