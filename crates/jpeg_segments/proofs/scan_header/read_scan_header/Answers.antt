use Rattle.std.proofs.Common.{arith}
use Rattle.std.proofs.lemmas.Grind.{common_steps}
use Rattle.jpeg_segments.specs.ScanHeader.{sos_at}
use Rattle.jpeg_segments.proofs.Rules.{mcus}
use Rattle.jpeg_segments.proofs.scan_header.read_scan_header.Goals as goal

pub returns-then-not-is_mcu-clause-answers : goal.returns-then-not-is_mcu-clause-answers
unfolding sos_at
returns-then-not-is_mcu-clause-answers g c = grind (arith, common_steps, mcus)

pub returns-clause-answers : goal.returns-clause-answers
unfolding sos_at
returns-clause-answers g c = grind (arith, common_steps, mcus)
