use Rattle.zaxbriar_strict.proofs.Taken.{takes-none}
use Rattle.zaxbriar_strict.proofs.bits.Bits.load_sixteen.Goals as goal

pub returns-else-self-lt16 : goal.returns-else-self-lt16
returns-else-self-lt16 c = takes-none _
