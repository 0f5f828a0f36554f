use Rattle.zaxbriar_strict.proofs.Taken.{takes-none}
use Rattle.zaxbriar_strict.proofs.bits.Bits.load_for.Goals as goal

pub returns-then-self-count-clause-bits : goal.returns-then-self-count-clause-bits
returns-then-self-count-clause-bits c = takes-none _
