-- No sample outside a component reaches one inside.
use Rattle.std.proofs.Common.{rules, ◌≡◌, ℕ, suc, ◌+◌, ◌*◌, ◌/◌, ◌<◌, List, [], ◌∷◌, ◌++◌, map}
use Rattle.std.proofs.Common.{drop, take, Some, slice_get, refl, ap, ap₂, arith, append-nil}
use Rattle.std.specs.List.{AllByRecursion, concat, enumerate_from}
use Rattle.jpeg_bits.specs.declared.scan.Predictor.{Predictor}
use Rattle.jpeg_segments.specs.Frame.{Component, Frame, frame_of, most_across, most_down}
use Rattle.jpeg_segments.specs.WrittenSegments.{FrameHeader, IsFrameHeader, frame_written}
use Rattle.jpeg_lossless.specs.Differences.{Part}
use Rattle.jpeg_lossless.specs.Pictures.{picture_by_samples, pixel_of, sample_bytes}
use Rattle.jpeg_lossless.specs.Prediction.{lines_below, predicted_lines}
use Rattle.jpeg_lossless.specs.Scans.{Way, lines_by_component, planes_of}
use Rattle.jpeg_lossless.proofs.ImageLoops.{inside}
use Rattle.jpeg_lossless.proofs.LineSums.{top-narrow}
use Rattle.jpeg_meaning.specs.FrameSamples.{AgreeInside, DifferInPadding}
use Rattle.jpeg_meaning.specs.WrittenLossless.{own_lines, picture_of_samples, Samples}
use Rattle.jpeg_meaning.proofs.Pictures.UpsampledFactors.{map-same}
use Rattle.jpeg_meaning.proofs.Pictures.LosslessSizes.{all-ranged, IsMade, all-at, frames-made, made-reaches}
use Rattle.jpeg_meaning.proofs.Pictures.LosslessSizes.{some-across, some-down}

-- ---- prediction

lines-short : (n : ℕ) (selection : Predictor) (start : ℕ) (above : List ℕ) (ds : List (List ℕ))
    → take n (lines_below selection start above ds) ≡ lines_below selection start above (take n ds)
unfolding lines_below
lines-short (suc n) selection start above (d ∷ ds) = search (rules, lines-short n selection start)
lines-short n selection start above ds = refl

-- the samples inside come of the differences inside alone
pub own-predicted : (p : Part) (selection : Predictor) (start : ℕ) (differences : List (List ℕ))
    → own_lines p (predicted_lines selection start differences)
    ≡ predicted_lines selection start (own_lines p differences)
own-predicted p selection start differences = search (rules, lines-short, top-narrow)

-- so planes do not show the differences of padding
pub planes-same : (w : Way) (point from : ℕ) (parts : List Part) (a b : List (List ℕ))
    → DifferInPadding w from parts a b → planes_of point parts (lines_by_component w from parts (a ∷ []))
    ≡ planes_of point parts (lines_by_component w from parts (b ∷ []))
unfolding DifferInPadding lines_by_component planes_of
planes-same w point from [] a b h = refl
planes-same w point from (p ∷ parts) a b h =
    search (rules, append-nil, own-predicted, planes-same w point (from + p.down * p.across) parts a b h.1)

-- ---- pixels

pub header-made : (h : FrameHeader) → IsFrameHeader 3 h
    → AllByRecursion (IsMade (frame_written 3 h)) (frame_written 3 h).components
header-made h is = search (rules, frames-made, all-ranged)

made-inside : (frame : Frame) (c : Component) (x y : ℕ) → IsMade frame c → x < frame.width → y < frame.height
    → (x * c.factors.horizontal / most_across frame.components < c.width)
    × (y * c.factors.vertical / most_down frame.components < c.height)
made-inside frame c x y made h k = search (rules, made-reaches, inside, some-across, some-down)

pub taken-inside : (h : FrameHeader) (index x y : ℕ) (c : Component) → IsFrameHeader 3 h
    → slice_get (frame_written 3 h).components index ≡ Some c → x < h.width → y < h.height
    → (x * c.factors.horizontal / most_across (frame_written 3 h).components < c.width)
    × (y * c.factors.vertical / most_down (frame_written 3 h).components < c.height)
unfolding frame_of
taken-inside h index x y c is e hx hy = made-inside (frame_written 3 h) c x y
    (all-at (IsMade (frame_written 3 h)) index (frame_written 3 h).components c (header-made h is)
    e) hx hy

drop-next : {A : Type 0} (n : ℕ) (xs : List A) (x : A) (more : List A) → drop n xs ≡ x ∷ more → drop (suc n) xs ≡
    more
drop-next (suc n) (y ∷ xs) x more e = drop-next n xs x more e
drop-next n xs x more e = search rules

pub get-drop : {A : Type 0} (n : ℕ) (xs : List A) (x : A) (more : List A) → drop n xs ≡ x ∷ more
    → slice_get xs n ≡ Some x
get-drop (suc n) (y ∷ xs) x more e = get-drop n xs x more e
get-drop n xs x more e = search rules

-- the bytes of a component's sample
abbrev pub component_bytes : Frame → (ℕ × Component → ℕ → ℕ → ℕ) → ℕ → ℕ → ℕ × Component → List ℕ
component_bytes frame sample y x c =
    sample_bytes frame.precision (sample c (x * c.1.factors.horizontal / most_across frame.components)
    (y * c.1.factors.vertical / most_down frame.components))

-- what gives a component's samples agrees with another one where the component has them
abbrev pub SampleAlike : Frame → (ℕ × Component → ℕ → ℕ → ℕ) → (ℕ × Component → ℕ → ℕ → ℕ) → Type 0
SampleAlike frame s t =
    (index x y : ℕ) (c : Component) → slice_get frame.components index ≡ Some c →
    x < c.width → y < c.height → s (index, c) x y ≡ t (index, c) x y

pixel-agrees : (frame : Frame) (s t : ℕ × Component → ℕ → ℕ → ℕ) (x y : ℕ) → x < frame.width → y < frame.height
    → SampleAlike frame s t → (index : ℕ) (cs : List Component) → drop index frame.components ≡ cs
    → AllByRecursion (IsMade frame) cs
    → concat (map (component_bytes frame s y x) (enumerate_from index cs))
    ≡ concat (map (component_bytes frame t y x) (enumerate_from index cs))
pixel-agrees frame s t x y hx hy agree index [] e made = refl
pixel-agrees frame s t x y hx hy agree index (c ∷ cs) e made =
    let at = made-inside frame c x y made.0 hx hy in
    ap₂ (λ (v : ℕ) (more : List ℕ). sample_bytes frame.precision v ++ more)
    (agree index _ _ c (get-drop index frame.components c cs e) at.0 at.1)
    (pixel-agrees frame s t x y hx hy agree (index + 1) cs (search (rules, drop-next)) made.1)

-- so the pictures of a frame agree
pub pictures-by : (frame : Frame) (s t : ℕ × Component → ℕ → ℕ → ℕ) → AllByRecursion (IsMade frame) frame.components
    → SampleAlike frame s t → picture_by_samples frame s ≡ picture_by_samples frame t
unfolding picture_by_samples pixel_of
pictures-by frame s t made agree =
    ap concat (map-same _ _ 0 frame.height (λ y low below.
    ap concat (map-same (pixel_of frame s y) (pixel_of frame t y) 0 frame.width (λ x left inside.
    pixel-agrees frame s t x y (omega arith) (omega arith) agree 0 frame.components refl made))))

pub pictures-agree : (h : FrameHeader) (a b : Samples) → IsFrameHeader 3 h → AgreeInside
    (frame_written 3 h) a b
    → picture_of_samples (frame_written 3 h) a ≡ picture_of_samples (frame_written 3 h) b
unfolding picture_of_samples
pictures-agree h a b is agree = pictures-by (frame_written 3 h) _ _ (header-made h is) agree
