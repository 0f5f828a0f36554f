-- What the first rows of a picture need of its components: the first lines of their planes.
use Rattle.std.specs.Prelude.{◌≡◌, ℕ, ◌+◌, ◌*◌, ◌/◌, List, [], ◌∷◌, ◌++◌, length, min}
use Rattle.std.specs.Prelude.{suc, take, false, Option, Some, None, Ok, Err}
use Rattle.jpeg_bits.specs.Reading.{Fault}
use Rattle.jpeg_bits.specs.declared.beyond.Beyond.TheVariants.{Nothing}
use Rattle.jpeg_bits.specs.declared.marker.Marker.{Marker}
use Rattle.jpeg_segments.specs.Frame.{Component, Frame, ceiling, most_across, most_down}
use Rattle.jpeg_lossless.specs.Pictures.{sample_size}
use Rattle.jpeg_pixels.specs.declared.upsample_rows.UpsampleRule.{UpsampleRule}
use Rattle.jpeg_pixels.specs.declared.upsample_rows.UpsampleRule.TheVariants.{H1V1, H2V1, H1V2}
use Rattle.jpeg_pixels.specs.declared.upsample_rows.UpsampleRule.TheVariants.{H2V2, Generic}
use Rattle.jpeg_pixels.specs.Upsampling.{rule_of}
use Rattle.jpeg_segments.specs.Scales.{IsSizedFrame}
use Rattle.jpeg_meaning.specs.declared.before.Before.{Before}
use Rattle.jpeg_meaning.specs.declared.settings.Settings.{Settings}
use Rattle.jpeg_meaning.specs.Found.{Found}
use Rattle.jpeg_meaning.specs.Pixels.{samples_shown}
use Rattle.jpeg_meaning.specs.Shown.{picture_shown}
use Rattle.jpeg_meaning.specs.Stream.{Walked, all_brought, turn_at, walk}
use Rattle.jpeg_meaning.specs.LongerStreams.{RowScanGoesOn}

-- How many lines of a component, from its top, the first rows of a picture need, this many, by the
-- rule of the component: where lines are blended, one below the nearest line of the last row.
abbrev pub lines_needed : UpsampleRule → ℕ → ℕ
lines_needed H1V1 rows = rows
lines_needed H2V1 rows = rows
lines_needed H1V2 rows = rows / 2 + 1
lines_needed H2V2 rows = rows / 2 + 1
lines_needed (Generic h v) rows = ceiling rows v

-- how many lines of a component the first rows of a picture are, this many, by its factor alone
abbrev pub sample_lines : Frame → ℕ → Component → ℕ
sample_lines frame rows c = ceiling (rows * c.factors.vertical) (most_down frame.components)

-- How many lines of a component of a frame they need, which has no more lines than its height. A
-- component without a rule has no colours, but it can be luma.
abbrev pub lines_for : Frame → ℕ → Component → ℕ
lines_for frame rows c = elim (rule_of c.factors.horizontal c.factors.vertical
    (most_across frame.components) (most_down frame.components) frame.output_width
    frame.output_height) [
      | Some rule ↦ min c.height (lines_needed rule rows)
      | None ↦ min c.height (sample_lines frame rows c)
    ]

-- the samples of the first lines of a component's plane, with those of its padding
abbrev pub first_lines : Component → ℕ → List ℕ → List ℕ
first_lines c lines plane = take (lines * (c.blocks_wide * c.scale)) plane

-- Planes of some components that are the same in the first lines that these rows need.
unfoldable pub BeginAlike : Frame → ℕ → List Component → List (List ℕ) → List (List ℕ) → Type 0
BeginAlike frame rows [] [] [] = Unit {0}
BeginAlike frame rows (c ∷ components) (p ∷ ps) (q ∷ qs) = (length p ≡ length q)
    × (first_lines c (lines_for frame rows c) p ≡ first_lines c (lines_for frame rows c) q)
    × BeginAlike frame rows components ps qs
BeginAlike frame rows _ _ _ = ⊥

-- the samples of the first rows of a frame's picture
abbrev pub first_rows : Settings → Frame → ℕ → List ℕ → List ℕ
first_rows settings frame rows picture =
    take (rows * (frame.output_width * samples_shown settings frame)) picture

-- Samples of some lossless components that are the same in the first lines that these rows need,
-- `sample_lines`.
unfoldable pub SamplesBegin : Frame → ℕ → List Component → List (List ℕ) → List (List ℕ) → Type 0
SamplesBegin frame rows [] [] [] = Unit {0}
SamplesBegin frame rows (c ∷ components) (p ∷ ps) (q ∷ qs) =
    (take (sample_lines frame rows c * c.width) p ≡ take (sample_lines frame rows c * c.width) q)
    × SamplesBegin frame rows components ps qs
SamplesBegin frame rows _ _ _ = ⊥

-- the bytes of the first rows of a lossless picture
abbrev pub first_sample_rows : Frame → ℕ → List ℕ → List ℕ
first_sample_rows frame rows picture =
    take (rows * (frame.width * (length frame.components * sample_size frame.precision))) picture

-- The frame that was found, if there is one, is as a header gives it, at one of the scales.
abbrev pub HasSizedFrame : Found → Type 0
HasSizedFrame found = (frame : Frame) → found.said.frame ≡ Some frame → IsSizedFrame frame

-- The first rows, this many, of the picture that is shown of what a shorter stream has brought are
-- those of the picture of what a longer one has.
abbrev pub HasFirstRows : Settings → ℕ → Found → Found → Type 0
HasFirstRows settings rows brought longer =
    (frame : Frame) (x y : List ℕ) → brought.said.frame ≡ Some frame
    → picture_shown settings brought ≡ Ok x → picture_shown settings longer ≡ Ok y
    → first_rows settings frame rows x ≡ first_rows settings frame rows y

-- How a longer stream goes on from the complete rows of a shorter one, which has brought `brought`
-- up to its first fault, and `left` are the bytes of it that are read again. The fault is in a
-- segment, or in front of one, and the longer stream comes by what was brought. Or it is in the
-- data of a scan: then the longer stream reads this scan again, and has the complete rows in the
-- picture of all that it finds up to the end of this scan, or to a fault in it; and with a fault in
-- it that is all that it finds. Or it is in the data of a lossless scan.
pub data KeepsRows (settings : Settings) (rows : ℕ) (more : List ℕ) (brought : Found)
    (longer : Walked) : Type 0 where
  in_front : (turns : ℕ) (before : Before) (met : Option Marker) (left : List ℕ)
      → longer ≡ walk None Nothing turns false before brought met (left ++ more)
      → KeepsRows settings rows more brought longer
  in_scan : (turns : ℕ) (before : Before) (last : Found) (met : Option Marker) (left : List ℕ)
      → longer ≡ walk None Nothing (suc turns) false before last met (left ++ more)
      → HasFirstRows settings rows brought (turn_at Nothing before last met (left ++ more)).found
      → ((fault : Fault) → (turn_at Nothing before last met (left ++ more)).turn ≡ Err fault
      → longer.found ≡ (turn_at Nothing before last met (left ++ more)).found)
      → KeepsRows settings rows more brought longer
  in_rows : (turns : ℕ) (before : Before) (last : Found) (met : Option Marker) (left : List ℕ)
      → longer ≡ walk None Nothing (suc turns) false before last met (left ++ more)
      → RowScanGoesOn last brought (turn_at Nothing before last met (left ++ more)).found
      → KeepsRows settings rows more brought longer

-- A stream has its first fault in the segment or the scan that comes next after `last` was found,
-- where `left` are the bytes that are left.
pub record HasFaultAt (found : Found) (bytes : List ℕ) (before : Before) (last : Found)
    (met : Option Marker) (left : List ℕ) : Type 0 where
  pub turns : ℕ
  pub fault : Fault
  pub comes : all_brought None found bytes
      ≡ walk None Nothing (suc turns) false before last met left
  pub stops : (turn_at Nothing before last met left).turn ≡ Err fault
