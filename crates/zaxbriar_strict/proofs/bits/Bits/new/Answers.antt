use Rattle.std.proofs.Common.{refl}
use Rattle.jpeg_bits.specs.Written.{low_bits}
use Rattle.zaxbriar_strict.proofs.bits.Bits.new.Goals as goal

pub returns : goal.returns
unfolding low_bits
returns c = refl
