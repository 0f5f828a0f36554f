use Rattle.std.proofs.Common.{ap, sym, ◌∙◌}
use Rattle.std.specs.List.{concat}
use Rattle.jpeg_pixels.proofs.PictureLines.{cropped-joined}
use Rattle.jpeg_pixels.proofs.lines.cropped.CroppedLines.into_picture.Goals as goal

pub returns : goal.returns
returns c =
    let l = c.self.inside in
    c.crop.ensures
    ∙ sym (cropped-joined l.stride l.width l.height l.plane.items c.self.invariant.0 c.self.invariant.1)
    ∙ ap concat c.self.view_is
