-- What a caller sees of the planes that are decided, of which those of like components share
-- one buffer.
use Rattle.std.specs.Prelude.{◌≡◌, ℕ, ◌*◌, List, [], ◌∷◌, length, map, option_map, Option, Some}
use Rattle.std.specs.Prelude.{IfSome, None}
use Rattle.std.specs.declared.alloc.Global.{Global}
use Rattle.std.specs.declared.vec.Vec.{Vec}
use Rattle.jpeg_pixels.specs.JointPlanes.{HasFrameSizes, joint_planes, joint_row_size}
use Rattle.jpeg_pixels.specs.declared.joint_planes.JointPlanes.{JointPlanes}
use Rattle.jpeg_decoder.specs.declared.scan.planes.Planes.TheInside.{Inside}

abbrev pub planes_in : List (Option (Vec ℕ Global)) → List (Option (List ℕ))
planes_in planes = map (λ p. option_map (λ v. v.items) p) planes

-- All rows of MCUs have come.
pub record IsFullJoint (joint : JointPlanes) : Type 0 where
  pub small : HasFrameSizes joint.shape
  pub full : length joint.samples.items ≡ joint.shape.rows * joint_row_size joint.shape

-- What always holds of planes that are decided.
pub record HasFullJoint (p : Inside) : Type 0 where
  pub four : length p.own ≡ 4
  pub joint : IfSome p.joint IsFullJoint

-- the planes of their own, or else those in one buffer
unfoldable pub or_joint : List (Option (List ℕ)) → List (List ℕ) → List (Option (List ℕ))
or_joint (Some plane ∷ own) (other ∷ joint) = Some plane ∷ or_joint own joint
or_joint (None ∷ own) (other ∷ joint) = Some other ∷ or_joint own joint
or_joint own [] = own
or_joint [] (other ∷ joint) = []

abbrev pub joint_in : Option JointPlanes → List (List ℕ)
joint_in None = []
joint_in (Some joint) = joint_planes joint.shape joint.samples.items

abbrev pub decided_in : Inside → List (Option (List ℕ))
decided_in p = or_joint (planes_in p.own) (joint_in p.joint)
