-- The first rows of a lossless picture are made of the first lines of its components.
use Rattle.std.proofs.lemmas.Grind.{common_steps}
use Rattle.std.proofs.Common.{◌≡◌, ℕ, zero, suc, ◌+◌, ◌*◌, ◌/◌, ◌<◌, ◌≤◌, List, [], ◌∷◌, map}
use Rattle.std.proofs.Common.{length, take, refl, sym, ap, ap₂, ◌∙◌, subst, arith, slice_index}
use Rattle.std.proofs.Math.Nat.{div-lt_iff_lt-mul, mul_comm}
use Rattle.std.proofs.lemmas.List.{get_or-take}
use Rattle.std.proofs.lemmas.List.FromFn.{length-enumerate_from}
use Rattle.std.specs.Prelude.{slice_index_or}
use Rattle.std.specs.List.{AllByRecursion, concat, enumerate_from, range_with_len}
use Rattle.std.proofs.lemmas.List.Elements.{recursion_from_All}
use Rattle.jpeg_segments.specs.Frame.{Component, Frame, IsFrame, IsInRange, most_across, most_down}
use Rattle.jpeg_segments.proofs.Ceilings.{ceiling-low}
use Rattle.jpeg_lossless.specs.Pictures.{lossless_picture, picture_by_samples, pixel_of, sample_bytes}
use Rattle.jpeg_lossless.specs.Pictures.{sample_size}
use Rattle.jpeg_lossless.proofs.KeptLines.{sample-length}
use Rattle.jpeg_pixels.proofs.PictureLines.{each-length, made-length}
use Rattle.jpeg_meaning.proofs.Order.Apart.{At, at-all}
use Rattle.jpeg_meaning.proofs.Pictures.LosslessSizes.{IsMade, frames-made, made-reaches, some-across, some-down}
use Rattle.jpeg_meaning.proofs.Pictures.UpsampledFactors.{map-same}
use Rattle.jpeg_evidence.specs.CompleteRows.{SamplesBegin, first_sample_rows, sample_lines}
use Rattle.jpeg_evidence.proofs.Rows.LocalLines.{first-pieces}

-- ---- samples

begin-at : (frame : Frame) (rows i : ℕ) (cs : List Component) (ps qs : List (List ℕ)) (c : Component)
    → SamplesBegin frame rows cs ps qs → At i cs c
    → take (sample_lines frame rows c * c.width) (slice_index_or ps i [])
    ≡ take (sample_lines frame rows c * c.width) (slice_index_or qs i [])
unfolding SamplesBegin
begin-at frame rows zero (d ∷ cs) (p ∷ ps) (q ∷ qs) c same t =
    subst (λ (x : Component). take (sample_lines frame rows x * x.width) p
    ≡ take (sample_lines frame rows x * x.width) q) t same.0
begin-at frame rows (suc i) (d ∷ cs) (p ∷ ps) (q ∷ qs) c same t = begin-at frame rows i cs ps qs c same.1 t
begin-at frame rows i [] ps qs c same t = absurd t
begin-at frame rows i (d ∷ cs) [] qs c same t = absurd same
begin-at frame rows i (d ∷ cs) (p ∷ ps) [] c same t = absurd same

-- where a sample of the first rows stands
in-first : (frame : Frame) (rows x y : ℕ) (c : Component) → IsMade frame c → x < frame.width → y < rows
    → y * c.factors.vertical / most_down frame.components * c.width
    + x * c.factors.horizontal / most_across frame.components < sample_lines frame rows c * c.width
in-first frame rows x y c made a b =
    let mh = most_across frame.components in
    let mv = most_down frame.components in
    let column : x * c.factors.horizontal / mh < c.width = column-in in
    let line : y * c.factors.vertical / mv < sample_lines frame rows c = line-in in
    in-area (sample_lines frame rows c) c.width (y * c.factors.vertical / mv) (x * c.factors.horizontal / mh) line
    column
  where
    in-area : (n w l k : ℕ) → l < n → k < w → l * w + k < n * w
    in-area n w l k lt in_line =
        let up : (l + 1) * w ≤ n * w = grind (arith, common_steps) in
        let next : (l + 1) * w ≡ l * w + w = grind (arith, common_steps) in omega arith

    times : (k n f : ℕ) → k < n → 0 < f → k * f < n * f
    times k n f lt some = let e = in-area n f k 0 lt some in omega arith

    column-in : x * c.factors.horizontal / most_across frame.components < c.width
    column-in = (div-lt_iff_lt-mul (some-across frame)).1
        (let u = (made-reaches frame c made).across in
        let t = times x frame.width c.factors.horizontal a made.horizontal in omega arith)

    line-in : y * c.factors.vertical / most_down frame.components < sample_lines frame rows c
    line-in =
        let low = ceiling-low (rows * c.factors.vertical) (most_down frame.components) (some-down frame) in
        let turn = mul_comm (most_down frame.components) (sample_lines frame rows c) in
        let t = times y rows c.factors.vertical b made.vertical in
        (div-lt_iff_lt-mul (some-down frame)).1 (omega arith)

-- ---- pixels

pixel-long : (frame : Frame) (sample : ℕ × Component → ℕ → ℕ → ℕ) (y x : ℕ)
    → length (pixel_of frame sample y x) ≡ length frame.components * sample_size frame.precision
unfolding pixel_of
pixel-long frame sample y x =
    each-length _ (sample_size frame.precision) (enumerate_from 0 frame.components)
    (λ c. sample-length frame.precision _)
    ∙ ap (λ (n : ℕ). n * sample_size frame.precision) (length-enumerate_from 0 frame.components)

-- what each component of a list adds, by its index
each-same : (f g : ℕ × Component → List ℕ) (i : ℕ) (cs : List Component)
    → ((j : ℕ) (c : Component) → At j cs c → f (i + j, c) ≡ g (i + j, c))
    → map f (enumerate_from i cs) ≡ map g (enumerate_from i cs)
each-same f g i [] same = refl
each-same f g i (c ∷ cs) same =
    let start : i + 0 ≡ i = omega arith in
    ap₂ (λ (x : List ℕ) (l : List (List ℕ)). x ∷ l) (subst (λ (n : ℕ). f (n, c) ≡ g (n, c)) start (same 0 c refl))
    (each-same f g (i + 1) cs (λ j d t.
    let next : i + suc j ≡ (i + 1) + j = omega arith in
    subst (λ (n : ℕ). f (n, d) ≡ g (n, d)) next (same (suc j) d t)))

-- a sample of a plane
abbrev sample_in : List (List ℕ) → ℕ × Component → ℕ → ℕ → ℕ
sample_in planes c x y = slice_index (slice_index_or planes c.0 []) (y * c.1.width + x)

pixel-same : (frame : Frame) (rows x y : ℕ) (ps qs : List (List ℕ)) → AllByRecursion (IsMade frame) frame.components
    → SamplesBegin frame rows frame.components ps qs → x < frame.width → y < rows
    → pixel_of frame (sample_in ps) y x ≡ pixel_of frame (sample_in qs) y x
unfolding pixel_of
pixel-same frame rows x y ps qs made same a b =
    ap concat (each-same _ _ 0 frame.components (λ j c t.
    let start : j ≡ 0 + j = omega arith in
    let within = in-first frame rows x y c (at-all (IsMade frame) j frame.components c made t) a b in
    let first = begin-at frame rows j frame.components ps qs c same t in
    let n = y * c.factors.vertical / most_down frame.components * c.width
    + x * c.factors.horizontal / most_across frame.components in
    subst (λ (i : ℕ). sample_bytes frame.precision (slice_index (slice_index_or ps i []) n)
    ≡ sample_bytes frame.precision (slice_index (slice_index_or qs i []) n)) start
    (ap (sample_bytes frame.precision)
    (sym (get_or-take (sample_lines frame rows c * c.width) (slice_index_or ps j []) n 0 within)
    ∙ ap (λ (l : List ℕ). slice_index l n) first
    ∙ get_or-take (sample_lines frame rows c * c.width) (slice_index_or qs j []) n 0 within))))

-- ---- the picture

frame-made : (frame : Frame) → IsFrame frame → AllByRecursion (IsMade frame) frame.components
frame-made frame f =
    subst (λ (g : Frame). AllByRecursion (IsMade g) g.components) (sym f.made)
    (frames-made f.number f.precision f.width f.height f.factors
    (recursion_from_All IsInRange f.factors f.in_range))

-- The first rows of a lossless picture go by the first lines of its components.
pub rows_of_first_samples : (frame : Frame) (rows : ℕ) (ps qs : List (List ℕ)) → IsFrame frame → rows ≤ frame.height
    → SamplesBegin frame rows frame.components ps qs
    → first_sample_rows frame rows (lossless_picture frame ps)
    ≡ first_sample_rows frame rows (lossless_picture frame qs)
unfolding lossless_picture picture_by_samples
rows_of_first_samples frame rows ps qs f few same =
    first-pieces (λ y. concat (map (pixel_of frame (sample_in ps) y) (range_with_len 0 frame.width)))
    (λ y. concat (map (pixel_of frame (sample_in qs) y) (range_with_len 0 frame.width)))
    (frame.width * (length frame.components * sample_size frame.precision)) 0 frame.height rows few
    (λ y. made-length (length frame.components * sample_size frame.precision) frame.width
    (pixel_of frame (sample_in ps) y) (pixel-long frame (sample_in ps) y))
    (λ y low high. ap concat (map-same (pixel_of frame (sample_in ps) y) (pixel_of frame (sample_in qs) y) 0 frame.width
    (λ x from to. pixel-same frame rows x y ps qs (frame-made frame f) same (omega arith) (omega arith))))
