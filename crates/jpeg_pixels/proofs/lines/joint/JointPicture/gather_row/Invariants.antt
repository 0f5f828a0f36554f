use Rattle.std.proofs.Common.{◌≡◌, ◌*◌, take}
use Rattle.jpeg_pixels.specs.JointPlanes.{gathered}
use Rattle.jpeg_pixels.proofs.lines.joint.JointPicture.gather_row.Given as goal

abbrev pub invariant-loop-line : goal.invariant-loop-line
invariant-loop-line l = take (l.line * l.size) l.lines
    ≡ gathered l.self.shape l.self.width l.strips l.line
