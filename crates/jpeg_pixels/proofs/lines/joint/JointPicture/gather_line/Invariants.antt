use Rattle.std.proofs.Common.{◌≡◌, ◌*◌, take}
use Rattle.jpeg_pixels.proofs.JointPictures.{joined, strip_line}
use Rattle.jpeg_pixels.proofs.lines.joint.JointPicture.gather_line.Given as goal

abbrev pub invariant-loop-slot : goal.invariant-loop-slot
invariant-loop-slot l = take (l.slot * l.self.width) l.lines
    ≡ joined (strip_line l.self.shape l.self.width l.strips l.line) l.slot
