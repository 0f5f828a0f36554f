use Rattle.std.proofs.Common.{arith}
use Rattle.jpeg_pixels.proofs.PlaneRows.{HoldsSamples-all, HoldsSamples-block}
use Rattle.jpeg_pixels.proofs.plane.write_strip.Goals as goal

pub loop-column-preserved : goal.loop-column-preserved
loop-column-preserved c =
    HoldsSamples-block c.args.scale c.args.table.now c.args.blocks.now c.loop-column.column _
    c.loop-column.strip _ (omega (arith, c.requires.scale)) c.loop-column-test.true (omega arith) (omega arith)
    c.write_block.ensures c.loop-column.invariant

pub returns : goal.returns
returns c =
    HoldsSamples-all c.args.scale c.args.table.now c.args.blocks.now c.loop-column.strip c.loop-column.column
    (omega arith) (omega arith) c.loop-column.invariant
