use Rattle.std.proofs.Common.{arith}
use Rattle.std.specs.List.{concat}
use Rattle.jpeg_pixels.specs.JointPlanes.{gathered, strip_lines}
use Rattle.jpeg_pixels.proofs.JointPictures.{joined-put}
use Rattle.jpeg_pixels.proofs.lines.joint.JointPicture.gather_row.Goals as goal

pub loop-line-preserved : goal.loop-line-preserved
unfolding gathered
loop-line-preserved c =
    let strips = strip_lines c.args.self.now.shape c.args.self.now.width c.args.strips.now in
    joined-put (λ line. concat (strips line))
    c.loop-line.line _ c.line_size-size.result _ _ c.loop-line.lines c.gather_line.new.lines
    c.loop-line-test.true c.line_size-size.ensures (omega arith) (omega arith)
    c.gather_line.ensures c.loop-line.invariant
