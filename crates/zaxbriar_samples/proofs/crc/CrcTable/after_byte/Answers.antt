use Rattle.std.proofs.Common.{rules}
use Rattle.zaxbriar_samples.specs.Png.{crc_byte}
use Rattle.zaxbriar_samples.proofs.CrcSteps.{by-table}
use Rattle.zaxbriar_samples.proofs.crc.CrcTable.after_byte.Goals as goal

pub returns : goal.returns
unfolding crc_byte
returns c = search (rules, by-table)
