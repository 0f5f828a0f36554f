use Rattle.jpeg_pixels.proofs.PictureLines.{made-count}
use Rattle.jpeg_pixels.proofs.lines.cropped.CroppedLines.height.Goals as goal

pub returns : goal.returns
returns c = made-count _ c.self.inside.height c.args.self.now c.self.view_is
