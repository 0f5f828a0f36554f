use Rattle.std.proofs.Common.{◌≡◌}
use Rattle.zaxbriar_samples.specs.Png.{crc_bits}
use Rattle.zaxbriar_samples.proofs.crc.crc_bits.Given as goal

abbrev pub invariant-loop-bit : goal.invariant-loop-bit
invariant-loop-bit l = l.register ≡ crc_bits l._bit l.fn.before
