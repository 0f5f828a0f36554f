use Rattle.std.proofs.Common.{Bool, List, subst}
use Rattle.zaxbriar_strict.specs.Data.{Takes}
use Rattle.zaxbriar_strict.specs.Loaded.{data_of}
use Rattle.zaxbriar_strict.proofs.SentNumbers.{one-low}
use Rattle.zaxbriar_strict.proofs.bits.Bits.take_bit.Goals as goal

pub returns : goal.returns
returns c =
    subst (λ (l : List Bool). Takes l (data_of c.args.self.now) (data_of c.take.new.self))
    (one-low c.in_ok-bit.bit c.in_ok-bit.ensures.below) c.in_ok-bit.ensures.bits
