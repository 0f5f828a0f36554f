-- The picture of planes that lie in one room, at the end of an image.
use Rattle.std.proofs.lemmas.Grind.{common_steps}
use Rattle.std.proofs.Common.{◌≡◌, ◌≢◌, ◌∙◌, ◌<◌, ◌≤◌, ◌+◌, ℕ, suc, List, [], ◌∷◌, Option, Some}
use Rattle.std.proofs.Common.{None, Ok, arith, get_or, length, refl, replicate}
use Rattle.std.proofs.lemmas.List.{get_or-map, get_or-replicate}
use Rattle.jpeg_pixels.specs.JointPlanes.{IsShapeOf, joint_planes}
use Rattle.jpeg_pixels.specs.declared.joint_planes.JointPlanes.{JointPlanes}
use Rattle.jpeg_pixels.specs.declared.joint_planes.JointShape.{JointShape}
use Rattle.std.specs.List.{enumerate_from}
use Rattle.jpeg_segments.specs.Checks.{gathered}
use Rattle.jpeg_segments.specs.Frame.{Component, Frame}
use Rattle.jpeg_meaning.proofs.Written.ReadTurns.{then-ok}
use Rattle.jpeg_decoder.proofs.Pictures.PicturesOfPlanes.{decoded-few}
use Rattle.jpeg_meaning.specs.Found.{Found}
use Rattle.jpeg_meaning.specs.FoundPictures.{blocks_picture, picture_by, plane_at_end}
use Rattle.jpeg_meaning.specs.Sound.{IsSound}
use Rattle.jpeg_meaning.specs.declared.settings.Settings.{Settings}
use Rattle.jpeg_decoder.specs.PlanesView.{or_joint}
use Rattle.jpeg_decoder.proofs.Strips.JointDecided.{joint-count, or-at}

-- Components whose planes lie in one room are several.
pub not-one : (cs : List Component) (width height : ℕ) (shape : JointShape)
    → IsShapeOf cs width height shape → length cs ≢ 1
not-one cs width height shape p e = absurd (omega arith)

-- Each of some planes is decided, from an index on.
abbrev AreThere : ℕ → List (Option (List ℕ)) → List (List ℕ) → Type 0
AreThere from planes joint =
    (k index : ℕ) → k < length joint → index ≡ from + k
    → get_or planes index None ≡ Some (get_or joint k [])

-- A plane that is decided is that of its component at the end.
plane-there : (found : Found) (frame : Frame) (index : ℕ) (c : Component) (plane : List ℕ)
    → get_or found.planes index None ≡ Some plane → plane_at_end found frame (index, c) ≡ Ok plane
unfolding plane_at_end
plane-there found frame index c plane e = grind (arith, common_steps)

-- The planes of components are those that are decided.
all-there : (found : Found) (frame : Frame) (from : ℕ) (cs : List Component) (joint : List (List ℕ))
    → length joint ≡ length cs → AreThere from found.planes joint
    → gathered (plane_at_end found frame) (enumerate_from from cs) ≡ Ok joint
unfolding gathered
all-there found frame from [] [] e there = refl
all-there found frame from (c ∷ cs) (plane ∷ joint) e there =
    let first = plane-there found frame from c plane (there 0 from (omega arith) (omega arith)) in
    then-ok _ _ _ _ first (then-ok _ _ _ _ (all-there found frame (from + 1) cs joint (omega arith)
    (λ k index h i. there (suc k) index (omega arith) (omega arith))) refl)
all-there found frame from _ _ e there = absurd (omega arith)

-- Planes in one room, where there is none of its own.
joint-there : (joint : List (List ℕ)) → length joint ≤ 4
    → AreThere 0 (or_joint (replicate 4 None) joint) joint
joint-there joint few k index h i = grind (arith, common_steps, or-at, get_or-replicate, get_or-map)

module _ (found : Found) (frame : Frame) (width height : ℕ) (joint : JointPlanes)
    (sound : IsSound found) (is : found.said.frame ≡ Some frame)
    (shape : IsShapeOf frame.components width height joint.shape) (decided : found.planes
    ≡ or_joint (replicate 4 None) (joint_planes joint.shape joint.samples.items)) where
  abbrev planes : List (List ℕ)
  planes = joint_planes joint.shape joint.samples.items

  -- They are as many as the components.
  joint-length : length planes ≡ length frame.components
  joint-length = joint-count joint.shape joint.samples.items ∙ shape.count

  -- Each of them is decided.
  there : AreThere 0 found.planes planes
  there = rw decided (joint-there planes (omega (arith, decoded-few frame (sound.frames frame is), joint-length)))

  -- The picture is that of the planes in the room.
  pub joint-meant : (settings : Settings)
      → blocks_picture settings found frame
      ≡ picture_by settings found.said.metadata frame frame.components planes
  unfolding blocks_picture
  joint-meant settings = rw (all-there found frame 0 frame.components planes joint-length there) refl
