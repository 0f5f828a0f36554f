use Rattle.std.proofs.Common.{◌≡◌, ◌*◌, ℕ, List, length, take}
use Rattle.jpeg_pixels.specs.JointPlanes.{converted, gathered, joint_row_size}
use Rattle.jpeg_pixels.proofs.lines.joint.JointPicture.convert_row.Given as goal

abbrev pub invariant-loop-line : goal.invariant-loop-line
invariant-loop-line l = (strips : List ℕ) → length strips ≡ joint_row_size l.self.shape
    → l.lines ≡ gathered l.self.shape l.self.width strips l.count
    → take (l.line * l.size) l.output
    ≡ converted l.self.color_convert l.self.shape l.self.width strips l.line
