use Rattle.std.proofs.Common.{rules}
use Rattle.zaxbriar_samples.proofs.CrcSteps.{crc-end, crc-next}
use Rattle.zaxbriar_samples.proofs.crc.CrcTable.after_bytes.Goals as goal

pub loop-byte-preserved : goal.loop-byte-preserved
loop-byte-preserved c = search (rules, crc-next)

pub returns : goal.returns
returns c = search (rules, crc-end)
