use Rattle.std.proofs.Common.{◌≡◌, ◌*◌}
use Rattle.jpeg_pixels.proofs.JointPictures.{first_samples}
use Rattle.jpeg_pixels.proofs.joint_planes.JointPlanes.plane.Given as goal

abbrev pub invariant-loop-row : goal.invariant-loop-row
invariant-loop-row l = l.plane.items
    ≡ first_samples l.self.shape l.self.samples.items l.slot (l.row * l.size)
