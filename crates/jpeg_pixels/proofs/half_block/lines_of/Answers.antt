use Rattle.std.proofs.Common.{lit<}
use Rattle.jpeg_pixels.proofs.HalfLanes.{across_at}
use Rattle.jpeg_pixels.proofs.half_block.lines_of.Goals as goal

pub returns-clause-first : goal.returns-clause-first
returns-clause-first c f left right = across_at f c.args.left c.args.right left right 0 (lit< tt)

pub returns-clause-second : goal.returns-clause-second
returns-clause-second c f left right = across_at f c.args.left c.args.right left right 1 (lit< tt)

pub returns-clause-third : goal.returns-clause-third
returns-clause-third c f left right = across_at f c.args.left c.args.right left right 2 (lit< tt)

pub returns-clause-fourth : goal.returns-clause-fourth
returns-clause-fourth c f left right = across_at f c.args.left c.args.right left right 3 (lit< tt)
