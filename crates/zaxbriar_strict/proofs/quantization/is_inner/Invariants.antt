use Rattle.std.proofs.Common.{IsTrue, take}
use Rattle.zaxbriar_strict.specs.Sent.{AllInner}
use Rattle.zaxbriar_strict.proofs.quantization.is_inner.Given as goal

abbrev pub invariant-loop-coefficient : goal.invariant-loop-coefficient
invariant-loop-coefficient l = IsTrue l.is_inner → AllInner (take l.coefficient-index l.block)
