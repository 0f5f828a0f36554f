-- What holds of a decoder's state between segments, whatever its reader gives: what its next scan
-- and its picture rely on.
use Rattle.std.specs.Prelude.{◌≡◌, ◌*◌, ℕ, true, false, List, [], ◌∷◌, length, replicate, Option}
use Rattle.std.specs.Prelude.{Some, None, Ok}
use Rattle.jpeg_segments.specs.declared.frame.CodingProcess.TheVariants.{Lossless}
use Rattle.jpeg_segments.specs.Frame.{Frame, Component, IsFrame}
use Rattle.jpeg_segments.specs.Scales.{frame_at, is_scale}
use Rattle.jpeg_meaning.specs.InTurn.{AreArrays}
use Rattle.jpeg_meaning.specs.ScanSegments.{arrays_before}
use Rattle.jpeg_meaning.specs.Segments.{accepted}
use Rattle.jpeg_meaning.specs.Found.{Found}

-- A frame that is decoded: one that a header gives and that is accepted, at a scale. A lossless one
-- is at full size.
pub record IsDecodedFrame (frame : Frame) : Type 0 where
  pub full : Frame
  pub scale : ℕ
  pub is_read : IsFrame full
  pub is_accepted : accepted full ≡ Ok full
  pub is_scale : is_scale scale ≡ true
  pub is_full : full.process ≡ Lossless → scale ≡ 8
  pub made : frame ≡ frame_at scale full

-- a plane of all blocks of a component, where there is one
abbrev pub IsPlaneOf : Component → Option (List ℕ) → Type 0
IsPlaneOf c None = Unit {0}
IsPlaneOf c (Some plane) = length plane ≡ (c.blocks_high * c.scale) * (c.blocks_wide * c.scale)

-- those of some components
unfoldable pub ArePlanes : List Component → List (Option (List ℕ)) → Type 0
ArePlanes [] planes = Unit {0}
ArePlanes (c ∷ more) [] = ⊥
ArePlanes (c ∷ more) (plane ∷ planes) = IsPlaneOf c plane × ArePlanes more planes

-- No scan was read yet, and no plane is decided.
abbrev pub IsUnread : Found → Type 0
IsUnread found =
    (found.said.scanned ≡ false) × (found.planes ≡ replicate 4 None)
    × (found.samples ≡ replicate 4 None)

-- the samples of a component, as many as it has
abbrev pub IsSampled : Component → Option (List ℕ) → Type 0
IsSampled c None = Unit {0}
IsSampled c (Some samples) = length samples ≡ c.width * c.height

-- those of some components
unfoldable pub AreSampled : List Component → List (Option (List ℕ)) → Type 0
AreSampled [] samples = Unit {0}
AreSampled (c ∷ more) [] = ⊥
AreSampled (c ∷ more) (s ∷ samples) = IsSampled c s × AreSampled more samples

-- Where a frame was read it is one that is decoded, and the blocks that are kept and the planes
-- that are decided are of its components, and so are the samples. Before the frame no scan was
-- read.
pub record IsSound (found : Found) : Type 0 where
  pub frames : (frame : Frame) → found.said.frame ≡ Some frame → IsDecodedFrame frame
  pub kept : (frame : Frame) → found.said.frame ≡ Some frame
      → AreArrays frame.components (arrays_before found frame)
  pub planes : (frame : Frame) → found.said.frame ≡ Some frame
      → ArePlanes frame.components found.planes
  pub samples : (frame : Frame) → found.said.frame ≡ Some frame
      → AreSampled frame.components found.samples
  pub unread : found.said.frame ≡ None → IsUnread found

-- The frame, where one was read, is one that is decoded.
abbrev pub HasDecodedFrame : Found → Type 0
HasDecodedFrame found = (frame : Frame) → found.said.frame ≡ Some frame → IsDecodedFrame frame
