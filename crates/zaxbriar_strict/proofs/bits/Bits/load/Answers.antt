use Rattle.zaxbriar_strict.proofs.Taken.{takes-none, takes-then}
use Rattle.zaxbriar_strict.proofs.bits.Bits.load.Goals as goal

pub loop-init : goal.loop-init
loop-init c = takes-none _

pub returns-then-not-load_byte : goal.returns-then-not-load_byte
returns-then-not-load_byte c = takes-then c.loop.invariant c.load_byte.ensures

pub loop-preserved : goal.loop-preserved
loop-preserved c = takes-then c.loop.invariant c.load_byte.ensures
