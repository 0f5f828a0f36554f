use Rattle.std.proofs.Common.{◌≡◌}
use Rattle.zaxbriar_samples.specs.Png.{crc_bits}
use Rattle.zaxbriar_samples.specs.Samples.{tabulate}
use Rattle.zaxbriar_samples.proofs.crc.CrcTable.new.Given as goal

abbrev pub invariant-loop-byte : goal.invariant-loop-byte
invariant-loop-byte l = l.entries.items ≡ tabulate l.byte (crc_bits 8)
