use Rattle.std.proofs.Common.{◌∙◌}
use Rattle.jpeg_lossless.proofs.ByteLines.{pixel_step}
use Rattle.jpeg_lossless.proofs.pixels.write_bytes_of_three.Goals as goal

pub loop-x-preserved : goal.loop-x-preserved
loop-x-preserved c =
    pixel_step c.args.precision c.args.from c.args.width c.loop-x.x c.args.first.now c.args.second.now
    c.args.third.now c.loop-x.line c.requires.small c.loop-x-test.true (c.loop-x.auto.line ∙ c.requires.room)
    c.loop-x.invariant
