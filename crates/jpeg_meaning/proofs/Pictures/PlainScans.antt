-- Where all components have the same factors, they have the size of the frame.
use Rattle.std.proofs.Common.{rules, ◌≡◌, inl, inr, ℕ, List, [], ◌∷◌, map, refl, ap, ap₂, ◌∙◌, subst, arith}
use Rattle.std.specs.List.{AllByRecursion}
use Rattle.std.proofs.lemmas.Nat.{div-mul-add}
use Rattle.jpeg_bits.specs.Codes.{Table}
use Rattle.jpeg_bits.specs.declared.scan.Predictor.{Predictor}
use Rattle.jpeg_segments.specs.Frame.{ceiling, Component, Frame, most_across, most_down}
use Rattle.jpeg_segments.specs.WrittenSegments.{FrameHeader, IsFrameHeader, frame_written}
use Rattle.jpeg_lossless.specs.Differences.{Part}
use Rattle.jpeg_lossless.specs.Prediction.{start_of}
use Rattle.jpeg_lossless.specs.Scans.{Way}
use Rattle.jpeg_meaning.specs.InTurn.{IsIn}
use Rattle.jpeg_meaning.specs.LosslessScans.{LosslessCoding, mcus_across, mcus_down, part_of, parts_of, way_of}
use Rattle.jpeg_meaning.specs.PlainSamples.{HasEqualFactors, plain_way}
use Rattle.jpeg_meaning.proofs.Pictures.LosslessSizes.{IsMade, some-across, some-down}
use Rattle.jpeg_meaning.proofs.Pictures.PaddingUnseen.{header-made}

ceiling-one : (n most : ℕ) → most ≡ 1 → ceiling n most ≡ n
ceiling-one n most e = ap (ceiling n) e ∙ omega arith

-- a component with a sample of each pixel
record IsFull (frame : Frame) (c : Component) : Type 0 where
  width : c.width ≡ frame.width
  height : c.height ≡ frame.height
  across : c.factors.horizontal ≡ most_across frame.components
  down : c.factors.vertical ≡ most_down frame.components

all-full : (frame : Frame) (cs : List Component) → AllByRecursion (IsMade frame) cs
    → AllByRecursion (λ c. (c.factors.horizontal ≡ most_across frame.components)
    × (c.factors.vertical ≡ most_down frame.components)) cs → AllByRecursion (IsFull frame) cs
all-full frame [] made same = tt
all-full frame (c ∷ cs) made same =
    search (rules, div-mul-add, some-across, some-down, all-full frame cs made.1 same.1)

full-in : (frame : Frame) (c : Component) (cs : List Component) → AllByRecursion (IsFull frame) cs → IsIn c cs
    → IsFull frame c
full-in frame c [] all is = absurd is
full-in frame c (d ∷ cs) all (inl e) = subst (IsFull frame) e all.0
full-in frame c (d ∷ cs) all (inr is) = full-in frame c cs all.1 is

header-full : (h : FrameHeader) (c : Component) → IsFrameHeader 3 h → HasEqualFactors
    (frame_written 3 h)
    → IsIn c (frame_written 3 h).components → IsFull (frame_written 3 h) c
header-full h c is same in_frame =
    let frame = frame_written 3 h in
    full-in frame c frame.components (all-full frame frame.components (header-made h is) same) in_frame

abbrev part_at : Table → ℕ → ℕ → ℕ → ℕ → Part
part_at table across down width height =
    record { table = table; across = across; down = down; width = width; height = height }

abbrev way_by : Frame → Predictor → ℕ → ℕ → List Part → Way
way_by frame selection point wide parts =
    record { wide = wide; selection = selection; start = start_of frame.precision point; parts = parts }

-- a component alone in a scan
pub way-alone : (h : FrameHeader) (selection : Predictor) (point : ℕ) (k : LosslessCoding) →
    IsFrameHeader 3 h
    → HasEqualFactors (frame_written 3 h) → IsIn k.component (frame_written 3 h).components
    → (way_of (frame_written 3 h) selection point (k ∷ []) ≡ plain_way (frame_written 3 h) selection point (k ∷ []))
    × (mcus_down (frame_written 3 h) (k ∷ []) ≡ (frame_written 3 h).height)
unfolding mcus_across mcus_down parts_of
way-alone h selection point k is same in_frame = search (rules, header-full)

-- components of a scan where the greatest factors are 1
parts-plain : (frame : Frame) (codings : List LosslessCoding) → most_across frame.components ≡ 1
    → most_down frame.components ≡ 1 → AllByRecursion (λ k. IsFull frame k.component) codings
    → map (λ k. part_of k.component.factors.horizontal k.component.factors.vertical k) codings
    ≡ map (λ k. part_at k.table 1 1 frame.width frame.height) codings
parts-plain frame [] a d all = refl
parts-plain frame (k ∷ codings) a d all = search (rules, parts-plain frame codings a d all.1)

codings-full : (h : FrameHeader) (codings : List LosslessCoding) → IsFrameHeader 3 h →
    HasEqualFactors (frame_written 3 h)
    → AllByRecursion (λ k. IsIn k.component (frame_written 3 h).components) codings
    → AllByRecursion (λ k. IsFull (frame_written 3 h) k.component) codings
codings-full h [] is same all = tt
codings-full h (k ∷ codings) is same all = search (rules, header-full, codings-full h codings is same all.1)

pub way-together : (h : FrameHeader) (selection : Predictor) (point : ℕ)
    (codings : List LosslessCoding) → IsFrameHeader 3 h → HasEqualFactors (frame_written 3 h)
    → most_across (frame_written 3 h).components ≡ 1 → most_down (frame_written 3 h).components ≡ 1
    → AllByRecursion (λ k. IsIn k.component (frame_written 3 h).components) codings
    → (way_of (frame_written 3 h) selection point codings ≡ plain_way (frame_written 3 h) selection
    point codings) × (mcus_down (frame_written 3 h) codings ≡ (frame_written 3 h).height)
unfolding mcus_across mcus_down parts_of
way-together h selection point [] is same a d all = search (rules, ceiling-one)
way-together h selection point (k ∷ []) is same a d all = way-alone h selection point k is same all.0
way-together h selection point (k ∷ j ∷ codings) is same a d all =
    let frame = frame_written 3 h in (
      ap₂ (λ (w : ℕ) (parts : List Part). way_by frame selection point w parts)
          (ceiling-one frame.width (most_across frame.components) a)
          (parts-plain frame (k ∷ j ∷ codings) a d (codings-full h (k ∷ j ∷ codings) is same all)),
      ceiling-one frame.height (most_down frame.components) d,
    )
