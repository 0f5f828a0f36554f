use Rattle.std.proofs.Common.{length, arith}
use Rattle.jpeg_lossless.proofs.ByteLines.{byte_step}
use Rattle.jpeg_lossless.proofs.pixels.write_bytes.Goals as goal

pub loop-x-preserved : goal.loop-x-preserved
loop-x-preserved c =
    byte_step c.args.precision c.args.from (length c.args.line.now) c.loop-x.x c.args.plane.now c.loop-x.line
    c.requires.small c.loop-x-test.true (omega (arith, c.loop-x.auto.line, c.loop-x-test.true)) c.loop-x.invariant
