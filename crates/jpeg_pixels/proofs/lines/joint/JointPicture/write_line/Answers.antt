use Rattle.jpeg_pixels.specs.JointPlanes.{strip_lines}
use Rattle.jpeg_pixels.proofs.JointPictures.{strip_lines-count, strip_lines-long}
use Rattle.jpeg_pixels.proofs.lines.joint.JointPicture.write_line.Goals as goal

pub returns : goal.returns
returns c =
    let shape = c.args.self.now.shape in
    let width = c.args.self.now.width in
    let strips = c.args.strips.now in
    c.convert_line.ensures (strip_lines shape width strips c.args.line)
    (strip_lines-count shape width strips c.args.line)
    (strip_lines-long shape width strips c.args.line c.requires.line c.args.self.now.wide c.requires.strips)
    c.gather_line.ensures
