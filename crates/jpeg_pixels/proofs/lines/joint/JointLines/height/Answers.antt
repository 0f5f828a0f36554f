use Rattle.jpeg_pixels.proofs.PictureLines.{made-count}
use Rattle.jpeg_pixels.proofs.lines.joint.JointLines.height.Goals as goal

pub returns : goal.returns
returns c = made-count _ c.self.inside.height c.args.self.now c.self.view_is
