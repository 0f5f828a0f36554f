-- The samples of the components of a frame: their sizes, and what is outside these.
use Rattle.std.specs.Prelude.{◌≡◌, ℕ, ◌+◌, ◌*◌, ◌^◌, ◌<◌, List, [], ◌∷◌, length, map, slice_get}
use Rattle.std.specs.Prelude.{Some}
use Rattle.std.specs.List.{AllByRecursion}
use Rattle.jpeg_segments.specs.Frame.{Component, Frame}
use Rattle.jpeg_segments.specs.WrittenSegments.{FrameHeader, frame_written}
use Rattle.jpeg_lossless.specs.Differences.{Part, lines_in}
use Rattle.jpeg_lossless.specs.Positions.{at_position}
use Rattle.jpeg_lossless.specs.Scans.{Way, samples_an_mcu}
use Rattle.jpeg_meaning.specs.Found.{Said}
use Rattle.jpeg_meaning.specs.WrittenLossless.{own_lines, Samples, WritesSamples}

-- ---- samples of each size

-- A line of n samples below a bound.
abbrev pub IsLineOf : ℕ → ℕ → List ℕ → Type 0
IsLineOf n bound line = (length line ≡ n) × AllByRecursion (λ x. x < bound) line

-- Lines of samples have the size of a component.
pub record AreLinesOf (bound : ℕ) (c : Component) (lines : List (List ℕ)) : Type 0 where
  pub counted : length lines ≡ c.height
  pub lined : AllByRecursion (IsLineOf c.width bound) lines

-- Each component of a frame has samples of its size, and of the frame's precision.
abbrev pub AreSamplesOf : Frame → Samples → Type 0
AreSamplesOf frame samples =
    (index : ℕ) (c : Component) → slice_get frame.components index ≡ Some c →
    AreLinesOf (2 ^ frame.precision) c (samples index)

-- The parameters of a header fit their fields.
pub record FitsFields (h : FrameHeader) : Type 0 where
  pub width : h.width < 65536
  pub height : h.height < 65536
  pub identified : AllByRecursion (λ c. c.identifier < 256) h.components

abbrev pub AreBytes : List ℕ → Type 0
AreBytes numbers = AllByRecursion (λ b. b < 256) numbers

-- They are a stream for these samples, in a frame with this header, and bytes where it fits.
pub record AreWrittenIn (h : FrameHeader) (samples : Samples) (bytes : List ℕ) : Type 0 where
  pub final : Said
  pub written : WritesSamples samples bytes final
  pub framed : final.frame ≡ Some (frame_written 3 h)
  pub are_bytes : FitsFields h → AreBytes bytes

-- ---- what is outside

-- Samples agree where the components of a frame have them.
abbrev pub AgreeInside : Frame → Samples → Samples → Type 0
AgreeInside frame a b =
    (index x y : ℕ) (c : Component) → slice_get frame.components index ≡ Some c →
    x < c.width → y < c.height → at_position (a index) x y ≡ at_position (b index) x y

-- The rows of differences of an interval agree but for padding. The samples of the first component
-- begin at `from` in an MCU.
unfoldable pub DifferInPadding : Way → ℕ → List Part → List (List ℕ) → List (List ℕ) → Type 0
DifferInPadding w from [] a b = Unit {0}
DifferInPadding w from (p ∷ parts) a b =
    (own_lines p (lines_in p w.wide (samples_an_mcu w) from a)
    ≡ own_lines p (lines_in p w.wide (samples_an_mcu w) from b))
    × DifferInPadding w (from + p.down * p.across) parts a b

-- ---- pictures that are the same

-- the sampling factors of a component, across and down
abbrev pub sampling_of : Component → ℕ × ℕ
sampling_of c = (c.factors.horizontal, c.factors.vertical)

-- What is said shows samples alike: in a frame of the same precision, size and sampling factors.
pub record ShowAlike (a b : Said) : Type 0 where
  pub frame_a : Frame
  pub frame_b : Frame
  pub is_a : a.frame ≡ Some frame_a
  pub is_b : b.frame ≡ Some frame_b
  pub precision : frame_a.precision ≡ frame_b.precision
  pub width : frame_a.width ≡ frame_b.width
  pub height : frame_a.height ≡ frame_b.height
  pub factors : map sampling_of frame_a.components ≡ map sampling_of frame_b.components
