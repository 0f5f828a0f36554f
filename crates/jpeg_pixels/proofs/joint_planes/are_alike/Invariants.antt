use Rattle.std.proofs.Common.{All, take}
use Rattle.jpeg_pixels.specs.JointPlanes.{IsLike}
use Rattle.jpeg_pixels.proofs.joint_planes.are_alike.Given as goal

abbrev pub invariant-loop-component : goal.invariant-loop-component
invariant-loop-component l = All (IsLike l.first) (take l.component-index l.components)
