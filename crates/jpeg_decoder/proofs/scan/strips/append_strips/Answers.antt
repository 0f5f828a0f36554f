use Rattle.std.proofs.Common.{arith}
use Rattle.std.proofs.lemmas.Grind.{common_steps}
use Rattle.std.proofs.lemmas.Result.{on_ok_weaker}
use Rattle.jpeg_decoder.proofs.Strips.JointStrips.{room-grown, room-kept, some-planes}
use Rattle.jpeg_decoder.proofs.Strips.StripSteps.{row-count}
use Rattle.jpeg_decoder.proofs.scan.strips.append_strips.Goals as goal

pub append_to_room-requires-clause-tables : goal.append_to_room-requires-clause-tables
append_to_room-requires-clause-tables c = grind (arith, common_steps, some-planes)

pub returns-in-Joint-clause-strips : goal.returns-in-Joint-clause-strips
returns-in-Joint-clause-strips c = grind (arith, common_steps, on_ok_weaker, room-grown, row-count)

pub returns-in-Joint-clause-growing : goal.returns-in-Joint-clause-growing
returns-in-Joint-clause-growing c = grind (arith, common_steps, on_ok_weaker, room-kept, row-count)
