use Rattle.std.proofs.Common.{arith}
use Rattle.std.proofs.lemmas.Grind.{common_steps}
use Rattle.jpeg_decoder.proofs.Kept.KeptBlocks.{via-is}
use Rattle.jpeg_decoder.proofs.scan.coded.Scan.coding.Goals as goal

pub returns-clause-tables : goal.returns-clause-tables
returns-clause-tables c = grind (arith, common_steps, via-is)
