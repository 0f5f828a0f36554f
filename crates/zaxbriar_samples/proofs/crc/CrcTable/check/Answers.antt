use Rattle.std.proofs.Common.{rules}
use Rattle.zaxbriar_samples.specs.Png.{crc}
use Rattle.zaxbriar_samples.proofs.CrcSteps.{crc-joined}
use Rattle.zaxbriar_samples.proofs.crc.CrcTable.check.Goals as goal

pub returns : goal.returns
unfolding crc
returns c = search (rules, crc-joined)
