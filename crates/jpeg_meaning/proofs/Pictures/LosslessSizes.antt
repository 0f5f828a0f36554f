-- The sizes of the components of a lossless frame, and the MCUs of its scans.
use Rattle.std.proofs.Common.{rules, ◌≡◌, ℕ, ◌*◌, ◌<◌, ◌≤◌, List, [], ◌∷◌, map, slice_get, Some, ap}
use Rattle.std.proofs.Common.{arith, ◌++◌, length, Ok}
use Rattle.std.specs.List.{AllByRecursion}
use Rattle.std.proofs.lemmas.List.Elements.{recursion_from_All}
use Rattle.std.proofs.Math.Nat.{mul-le-mul_right, mul_comm}
use Rattle.jpeg_segments.specs.declared.frame.CodingProcess.TheVariants.{Lossless}
use Rattle.jpeg_segments.specs.Frame.{Component, Factors, Frame, IsInRange, ceiling, component_of}
use Rattle.jpeg_segments.specs.Frame.{frame_of, greatest, most_across, most_down}
use Rattle.jpeg_segments.specs.Scales.{frame_at}
use Rattle.jpeg_segments.proofs.ScaleLemmas.{full_frames, factors-back}
use Rattle.jpeg_lossless.specs.Codings.{IsCovered}
use Rattle.jpeg_lossless.specs.Pictures.{Reaches}
use Rattle.jpeg_meaning.specs.LosslessScans.{LosslessCoding, mcus_across, mcus_down, part_of, parts_of}
use Rattle.jpeg_meaning.specs.Sound.{IsDecodedFrame}
use Rattle.jpeg_meaning.proofs.Order.Apart.{at-all, get-at}
use Rattle.jpeg_meaning.proofs.Order.FrameShapes.{below-ceiling, ceiling-covers, ceiling-least, accepted-few}
use Rattle.jpeg_segments.proofs.FrameLemmas.{greatest-some}
use Rattle.jpeg_meaning.proofs.Order.CountedScans.{some-product}
use Rattle.std.proofs.lemmas.Bool.{le-leb, and_from as both-true}
use Rattle.std.proofs.lemmas.Bool.Decides.{nat_tests}
use Rattle.jpeg_segments.specs.WrittenSegments.{AreComponents, FrameHeader, IsFrameHeader, frame_written}
use Rattle.jpeg_meaning.specs.Segments.{accepted}
use Rattle.jpeg_meaning.specs.AcceptedFrames.{HasSamples}
use Rattle.jpeg_meaning.proofs.Pictures.PicturedFrames.{accepted-by}

pub all-at : {A : Type 0} (P : A → Type 0) (n : ℕ) (xs : List A) (x : A) → AllByRecursion P xs
    → slice_get xs n ≡ Some x → P x
all-at P n xs x all e = at-all P n xs x all (get-at n xs x e)

-- ---- a component by its factors

-- A component has the size that its factors give (A.1.1).
pub record IsMade (frame : Frame) (c : Component) : Type 0 where
  pub width : c.width ≡ ceiling (frame.width * c.factors.horizontal) (most_across frame.components)
  pub height : c.height ≡ ceiling (frame.height * c.factors.vertical) (most_down frame.components)
  pub horizontal : 1 ≤ c.factors.horizontal
  pub vertical : 1 ≤ c.factors.vertical

pub some-across : (frame : Frame) → 0 < most_across frame.components
some-across frame = greatest-some (λ f. f.horizontal) (map (λ c. c.factors) frame.components)

pub some-down : (frame : Frame) → 0 < most_down frame.components
some-down frame = greatest-some (λ f. f.vertical) (map (λ c. c.factors) frame.components)

all-made : (frame : Frame) (mh mv : ℕ) (cs : List Factors) → most_across frame.components ≡ mh
    → most_down frame.components ≡ mv → AllByRecursion IsInRange cs
    → AllByRecursion (IsMade frame) (map (component_of frame.width frame.height mh mv) cs)
unfolding component_of
all-made frame mh mv [] a d h = tt
all-made frame mh mv (c ∷ cs) a d h = search (rules, all-made frame mh mv cs a d h.1)

-- the components of a frame that a header gives
pub frames-made : (number precision width height : ℕ) (cs : List Factors) → AllByRecursion IsInRange cs
    → AllByRecursion (IsMade (frame_of number precision width height cs))
    (frame_of number precision width height cs).components
unfolding frame_of
frames-made number precision width height cs h =
    let mh = greatest (λ c. c.horizontal) cs in
    let mv = greatest (λ c. c.vertical) cs in
    all-made (frame_of number precision width height cs) mh mv cs
    (ap (greatest (λ c. c.horizontal)) (factors-back width height mh mv cs))
    (ap (greatest (λ c. c.vertical)) (factors-back width height mh mv cs)) h

-- those of a lossless frame that is decoded
pub decoded-made : (frame : Frame) → IsDecodedFrame frame → frame.process ≡ Lossless
    → AllByRecursion (IsMade frame) frame.components
unfolding frame_at
decoded-made frame p e = search (rules, full_frames, frames-made, recursion_from_All)

-- ---- sizes

pub ceiling-some : (a b : ℕ) → 0 < a → 0 < b → 0 < ceiling a b
ceiling-some a b h m = search (rules, below-ceiling)

pub made-reaches : (frame : Frame) (c : Component) → IsMade frame c → Reaches frame c
made-reaches frame c is = search (rules, ceiling-covers, some-across, some-down)

pub all-reach : (frame : Frame) (cs : List Component) → AllByRecursion (IsMade frame) cs
    → AllByRecursion (Reaches frame) cs
all-reach frame [] h = tt
all-reach frame (c ∷ cs) h = (made-reaches frame c h.0, all-reach frame cs h.1)

-- ---- MCUs cover components

covered : (size factor most : ℕ) → 0 < most → ceiling (size * factor) most ≤ ceiling size most * factor
covered size factor most h = grind (arith, mul-le-mul_right, mul_comm, ceiling-least)

all-among : (frame : Frame) (codings : List LosslessCoding) → AllByRecursion (λ k. IsMade frame k.component) codings
    → AllByRecursion (IsCovered (ceiling frame.width (most_across frame.components))
    (ceiling frame.height (most_down frame.components)))
    (map (λ k. part_of k.component.factors.horizontal k.component.factors.vertical k) codings)
all-among frame [] h = tt
all-among frame (k ∷ codings) h = search (rules, covered, some-across, some-down, all-among frame codings h.1)

pub all-covered : (frame : Frame) (codings : List LosslessCoding) → AllByRecursion (λ k. IsMade frame k.component)
    codings
    → AllByRecursion (IsCovered (mcus_across frame codings) (mcus_down frame codings)) (parts_of codings)
unfolding mcus_across mcus_down parts_of
all-covered frame codings h = search (rules, all-among)

pub across-some : (frame : Frame) (codings : List LosslessCoding) → 0 < frame.width
    → AllByRecursion (λ k. IsMade frame k.component) codings → 0 < mcus_across frame codings
unfolding mcus_across
across-some frame codings w all = search (rules, ceiling-some, some-product, some-across)

pub down-some : (frame : Frame) (codings : List LosslessCoding) → 0 < frame.height
    → AllByRecursion (λ k. IsMade frame k.component) codings → 0 < mcus_down frame codings
unfolding mcus_down
down-some frame codings h all = search (rules, ceiling-some, some-product, some-down)

-- ---- frames

pub lossless-accepted : (h : FrameHeader) → HasSamples 3 h → accepted (frame_written 3 h) ≡ Ok (frame_written 3 h)
unfolding frame_of
lossless-accepted h p = search (rules, accepted-by, both-true, le-leb)

-- A frame with lines and columns, whose components have their sizes, and whose picture is as large.
pub record IsShaped (frame : Frame) : Type 0 where
  pub across : frame.output_width ≡ frame.width
  pub down : frame.output_height ≡ frame.height
  pub wide : 0 < frame.width
  pub high : 0 < frame.height
  pub few : length frame.components ≤ 4
  pub made : AllByRecursion (IsMade frame) frame.components

pub all-ranged : (number : ℕ) (front cs : List Factors) → AreComponents number front cs → AllByRecursion IsInRange cs
unfolding AreComponents
all-ranged number front [] h = tt
all-ranged number front (c ∷ cs) h = search (rules, nat_tests, all-ranged number (front ++ c ∷ []) cs h.1)

pub header-shaped : (number : ℕ) (h : FrameHeader) → IsFrameHeader number h
    → accepted (frame_written number h) ≡ Ok (frame_written number h) → IsShaped (frame_written number h)
unfolding frame_of
header-shaped number h is ok = search (rules, accepted-few, frames-made, all-ranged)
