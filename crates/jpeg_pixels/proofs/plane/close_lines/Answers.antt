use Rattle.jpeg_pixels.proofs.PlaneRows.{next_line}
use Rattle.std.proofs.Common.{refl, ◌+◌, ◌*◌}
use Rattle.jpeg_pixels.proofs.plane.close_lines.Goals as goal

pub loop-y-preserved : goal.loop-y-preserved
loop-y-preserved c = next_line c.args.stride c.args.width c.loop-y.y (c.loop-y.y * c.args.stride + c.args.width)
    c.args.lines.now c.loop-y.lines c.copy_within.new.self
    c.requires.width refl c.copy_within.ensures.by_index c.loop-y.invariant
