use Rattle.std.proofs.Common.{arith}
use Rattle.jpeg_pixels.specs.Colour.{line_bytes}
use Rattle.jpeg_pixels.specs.JointPlanes.{converted, strip_lines}
use Rattle.jpeg_pixels.proofs.JointPictures.{gathered-line, joined-put, strip_lines-count, strip_lines-long}
use Rattle.jpeg_pixels.proofs.lines.joint.JointPicture.convert_row.Goals as goal

pub loop-line-preserved : goal.loop-line-preserved
unfolding converted
loop-line-preserved c = λ strips long is.
    let shape = c.args.self.now.shape in
    let width = c.args.self.now.width in
    let wide = c.args.self.now.wide in
    let line = c.loop-line.line in
    let size = c.line_size-size.result in
    let convert = c.args.self.now.color_convert in
    joined-put (λ k. line_bytes convert width (strip_lines shape width strips k)) line _ size _ _
    c.loop-line.output c.convert_line.new.output c.loop-line-test.true
    c.line_size-size.ensures (omega arith) (omega arith)
    (c.convert_line.ensures (strip_lines shape width strips line)
    (strip_lines-count shape width strips line)
    (strip_lines-long shape width strips line (omega arith) wide long)
    (gathered-line shape width strips c.args.lines.now c.args.count line size
    c.loop-line-test.true c.requires.count wide long c.line_size-size.ensures is))
    (c.loop-line.invariant strips long is)
