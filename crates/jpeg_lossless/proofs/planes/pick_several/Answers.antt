use Rattle.std.proofs.Common.{rules}
use Rattle.jpeg_lossless.proofs.RowLoops.{several_step}
use Rattle.jpeg_lossless.proofs.planes.pick_several.Goals as goal

pub loop-left-preserved : goal.loop-left-preserved
loop-left-preserved c = search (rules, several_step)
