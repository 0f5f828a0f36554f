-- What a caller sees of planes that grow by rows of MCUs, each on its own or all in one buffer.
use Rattle.std.specs.Prelude.{◌≡◌, ◌≤◌, ℕ, ◌*◌, ◌/◌, Bool, false, true, List, length}
use Rattle.std.specs.List.{AllByRecursion}
use Rattle.jpeg_pixels.specs.JointPlanes.{HasFrameSizes, joint_planes, joint_row_size}
use Rattle.jpeg_pixels.specs.declared.joint_planes.JointPlanes.{JointPlanes}
use Rattle.jpeg_pixels.specs.declared.joint_planes.JointShape.{JointShape}
use Rattle.jpeg_meaning.specs.ScanSegments.{Coding}
use Rattle.jpeg_decoder.specs.Strips.{plane_lists}
use Rattle.jpeg_decoder.specs.declared.scan.strips.GrowingPlanes.{GrowingPlanes}
use Rattle.jpeg_decoder.specs.declared.scan.strips.GrowingPlanes.TheVariants as growing

abbrev pub growing_in : GrowingPlanes → List (List ℕ)
growing_in (growing.Own planes) = plane_lists planes.items
growing_in (growing.Joint joint) = joint_planes joint.shape joint.samples.items

abbrev pub is_joint : GrowingPlanes → Bool
is_joint (growing.Own planes) = false
is_joint (growing.Joint joint) = true

-- a component of a scan has strips of this shape
pub record IsOfShape (shape : JointShape) (c : Coding) : Type 0 where
  pub lines : c.component.factors.vertical * c.component.scale ≡ shape.lines
  pub stride : c.component.blocks_wide * c.component.scale ≡ shape.stride
  pub high : c.component.blocks_high ≡ shape.rows * c.component.factors.vertical

-- Planes in one buffer grow by whole rows of MCUs of these components.
pub record IsJointOf (codings : List Coding) (joint : JointPlanes) : Type 0 where
  pub small : HasFrameSizes joint.shape
  pub count : joint.shape.count ≡ length codings
  pub some : 1 ≤ joint.shape.count
  pub each : AllByRecursion (IsOfShape joint.shape) codings
  pub whole : length joint.samples.items
      ≡ length joint.samples.items / joint_row_size joint.shape * joint_row_size joint.shape

-- planes of a scan's first components; in one buffer those of all
abbrev pub GrowsFor : List Coding → GrowingPlanes → Type 0
GrowsFor codings (growing.Own planes) = length planes.items ≤ length codings
GrowsFor codings (growing.Joint joint) = IsJointOf codings joint
