-- The first rows of a picture go by the first lines of the planes of its components.
use Rattle.std.proofs.lemmas.Grind.{common_steps}
use Rattle.std.proofs.lemmas.Bool.Decides.{nat_tests}
use Rattle.std.proofs.Common.{◌≡◌, ℕ, zero, suc, ◌+◌, ◌*◌, ◌/◌, ◌%◌, ◌<◌, ◌≤◌, List, [], ◌∷◌, map, length}
use Rattle.std.proofs.Common.{min, take, refl, sym, ap, ap₂, ◌∙◌, subst, arith, slice_index, Option, Some, None, Result}
use Rattle.std.proofs.Common.{Ok, Err, Bool, true, false, ◌&&◌, true≢false, if◌then◌else◌}
use Rattle.std.proofs.Math.Nat.{div-lt_iff_lt-mul, mod-lt, mul_comm}
use Rattle.std.proofs.lemmas.List.{get_or-take}
use Rattle.std.proofs.lemmas.List.Elements.{recursion_from_All}
use Rattle.std.specs.List.{AllByRecursion, range_with_len}
use Rattle.jpeg_bits.specs.Reading.{Fault, Malformed, ◌>>=◌}
use Rattle.jpeg_bits.specs.declared.color_transform.ColorTransform.{ColorTransform}
use Rattle.jpeg_segments.specs.Checks.{check, gathered}
use Rattle.jpeg_segments.specs.Frame.{Component, Factors, Frame, HasSampling, IsInRange, most_across, most_down}
use Rattle.jpeg_segments.specs.Frame.{AllHaveSampling}
use Rattle.jpeg_segments.specs.Scales.{IsSizedFrame, frame_at}
use Rattle.jpeg_segments.specs.declared.frame.CodingProcess.{CodingProcess}
use Rattle.jpeg_segments.specs.declared.frame.CodingProcess.TheVariants.{Lossless}
use Rattle.jpeg_segments.proofs.Codecs.{bind-ok, err-ok, ok-same}
use Rattle.jpeg_segments.proofs.Gathered.{gathered-length}
use Rattle.jpeg_segments.proofs.FrameLemmas.{greatest-some}
use Rattle.jpeg_segments.proofs.ScaleLemmas.{sized_frames_have_factors}
use Rattle.jpeg_pixels.specs.Colour.{conversion_of}
use Rattle.jpeg_pixels.specs.Pictures.{Source, converted_picture, image_of, source_of, sources_of}
use Rattle.jpeg_pixels.specs.Planes.{cropped}
use Rattle.jpeg_pixels.specs.Upsampling.{rule_of}
use Rattle.jpeg_pixels.specs.declared.upsample_rows.UpsampleRule.{UpsampleRule}
use Rattle.jpeg_pixels.specs.declared.upsample_rows.UpsampleRule.TheVariants.{H1V1}
use Rattle.jpeg_pixels.specs.declared.color_convert.ColorConvert.{ColorConvert}
use Rattle.jpeg_pixels.proofs.RuleRatios.{in-blocks}
use Rattle.jpeg_pixels.proofs.SourceLists.{source-rule}
use Rattle.jpeg_pixels.proofs.WholePictures.{conversion-fits}
use Rattle.jpeg_meaning.specs.declared.settings.Settings.{Settings}
use Rattle.jpeg_meaning.specs.Found.{Metadata}
use Rattle.jpeg_meaning.specs.FoundPictures.{first_picture, is_as_large, is_luma, luma_picture, picture_by, picture_in}
use Rattle.jpeg_meaning.specs.Pixels.{luma_samples, samples_shown}
use Rattle.jpeg_meaning.proofs.Order.FrameShapes.{is-sized, most_h, most_v, one-made, reaches-made, scaled_component}
use Rattle.jpeg_meaning.proofs.Pictures.LimitedPictures.{luma-alone}
use Rattle.jpeg_meaning.proofs.Pictures.UpsampledFactors.{SamePlane}
use Rattle.jpeg_meaning.proofs.Soundness.{scale-bounds}
use Rattle.jpeg_meaning.proofs.Written.BroughtLevels.{Made}
use Rattle.jpeg_meaning.proofs.Written.WrittenPictures.{as-large, picture_of_several, transform_by}
use Rattle.jpeg_evidence.specs.CompleteRows.{BeginAlike, first_lines, first_rows, lines_for, lines_needed}
use Rattle.jpeg_evidence.specs.CompleteRows.{sample_lines}
use Rattle.jpeg_evidence.proofs.Rows.LocalLines.{FirstSame, picture-first}
use Rattle.jpeg_evidence.proofs.Rows.LumaLines.{luma-lines}

-- ---- frames

-- a frame at a scale is made of its factors
pub made-sized : (f : Frame) → IsSizedFrame f → Made f
made-sized f z = record {
  number = z.is_read.number;
  precision = z.is_read.precision;
  width = z.is_read.width;
  height = z.is_read.height;
  factors = z.is_read.factors;
  in_range = recursion_from_All IsInRange z.is_read.factors z.is_read.in_range;
  some_width = z.is_read.some_width;
  some_height = z.is_read.some_height;
  scale = z.scale;
  some_scale = (scale-bounds z.scale z.is_scale).0;
  is = z.made ∙ ap (frame_at z.scale) z.is_read.made;
}

-- the samples of a line stand in its blocks
abbrev pub IsInBlocks : Component → Type 0
IsInBlocks c = c.width ≤ c.blocks_wide * c.scale

scaled-inside : (s width height h v : ℕ) (xs : List Factors) → 0 < h
    → AllByRecursion IsInBlocks (map (scaled_component s width height h v) xs)
scaled-inside s width height h v [] some = tt
scaled-inside s width height h v (x ∷ xs) some =
    (in-blocks s width x.horizontal h some, scaled-inside s width height h v xs some)

pub made-inside : (f : Frame) → Made f → AllByRecursion IsInBlocks f.components
made-inside f m =
    subst (AllByRecursion IsInBlocks) (sym (is-sized f m).components)
    (scaled-inside m.scale m.width m.height (most_h m.factors) (most_v m.factors) m.factors
    (greatest-some (λ x. x.horizontal) m.factors))

-- ---- planes

-- the same first lines
pub first-same : (stride w lines : ℕ) (p q : List ℕ) → w ≤ stride → length p ≡ length q
    → take (lines * stride) p ≡ take (lines * stride) q → SamePlane stride w lines p q
first-same stride w lines p q wide count e = record {
  count = count;
  each = λ i j a b.
      let n = j * stride + i in
      let within : n < lines * stride =
      let up : (j + 1) * stride ≤ lines * stride = grind (arith, common_steps) in
      let next : (j + 1) * stride ≡ j * stride + stride = grind (arith, common_steps) in omega arith in
      sym (get_or-take (lines * stride) p n 0 within) ∙ ap (λ (l : List ℕ). slice_index l n) e
      ∙ get_or-take (lines * stride) q n 0 within;
}

-- ---- a picture of several components

rule-lines : (frame : Frame) (rows : ℕ) (c : Component) (rule : UpsampleRule)
    → rule_of c.factors.horizontal c.factors.vertical (most_across frame.components) (most_down frame.components)
    frame.output_width frame.output_height ≡ Some rule → lines_for frame rows c ≡ min c.height (lines_needed rule rows)
rule-lines frame rows c rule e =
    ap (λ (o : Option UpsampleRule). elim o as (λ _. ℕ) [
      | Some rule ↦ min c.height (lines_needed rule rows)
      | None ↦ min c.height (sample_lines frame rows c)
    ]) e

sources-first : (frame : Frame) (rows : ℕ) (components : List Component) (sources : List Source)
    (ps qs : List (List ℕ)) → AllByRecursion IsInBlocks components
    → gathered (source_of (most_across frame.components) (most_down frame.components) frame.output_width
    frame.output_height) components ≡ Ok sources → BeginAlike frame rows components ps qs
    → FirstSame rows sources ps qs × (length ps ≡ length components)
unfolding gathered BeginAlike
sources-first frame rows [] sources [] [] inside e same =
    (subst (λ (l : List Source). FirstSame rows l [] []) (ok-same [] sources e) tt, refl)
sources-first frame rows (c ∷ components) sources (p ∷ ps) (q ∷ qs) inside e same =
    let of = source_of (most_across frame.components) (most_down frame.components) frame.output_width
    frame.output_height in
    let one = bind-ok (of c) _ sources e in
    let rest = bind-ok (gathered of components) _ sources one.2 in
    let more = sources-first frame rows components rest.0 ps qs inside.1 rest.1 same.2 in
    let r = source-rule (most_across frame.components) (most_down frame.components) frame.output_width
    frame.output_height c one.0 one.1 in
    let stride = c.blocks_wide * c.scale in
    let first = first-same stride c.width (lines_for frame rows c) p q inside.0 same.0 same.1 in
    let lines = rule-lines frame rows c r.0 r.1 in (
      subst (λ (l : List Source). FirstSame rows l (p ∷ ps) (q ∷ qs)) (ok-same _ sources rest.2) (
        subst (λ (s : Source). SamePlane s.stride s.width (min s.height (lines_needed s.rule rows)) p q) r.2
            (subst (λ (n : ℕ). SamePlane stride c.width n p q) lines first),
        more.0,
      ),
      ap suc more.1,
    )
sources-first frame rows [] sources (p ∷ ps) qs inside e same = absurd same
sources-first frame rows [] sources [] (q ∷ qs) inside e same = absurd same
sources-first frame rows (c ∷ components) sources [] qs inside e same = absurd same
sources-first frame rows (c ∷ components) sources (p ∷ ps) [] inside e same = absurd same

-- the samples of the first rows of a picture, with so many samples a pixel
abbrev rows_by : ℕ → Frame → ℕ → List ℕ → List ℕ
rows_by count frame rows picture = take (rows * (frame.output_width * count)) picture

-- The first rows of the image of several components.
image-first : (frame : Frame) (rows : ℕ) (ps qs : List (List ℕ)) (transform : ColorTransform) (x y : List ℕ)
    → Made frame → rows ≤ frame.output_height → BeginAlike frame rows frame.components ps qs
    → image_of frame.components ps frame.output_width frame.output_height transform ≡ Ok x
    → image_of frame.components qs frame.output_width frame.output_height transform ≡ Ok y
    → rows_by (length frame.components) frame rows x ≡ rows_by (length frame.components) frame rows y
unfolding image_of
image-first frame rows ps qs transform x y m few same e g =
    go (conversion_of (length frame.components) transform) refl
    (sources_of frame.components frame.output_width frame.output_height) refl e g
  where
    w : ℕ
    w = frame.output_width

    h : ℕ
    h = frame.output_height

    go : (o : Result ColorConvert Fault) → conversion_of (length frame.components) transform ≡ o
        → (r : Result (List Source) Fault) → sources_of frame.components w h ≡ r
        → (o >>= (λ convert. r >>= (λ sources. Ok (converted_picture convert sources ps w h)))) ≡ Ok x
        → (o >>= (λ convert. r >>= (λ sources. Ok (converted_picture convert sources qs w h)))) ≡ Ok y
        → rows_by (length frame.components) frame rows x ≡ rows_by (length frame.components) frame rows y
    go (Err f) k r l e g = absurd (err-ok f x e)
    go (Ok convert) k (Err f) l e g = absurd (err-ok f x e)
    go (Ok convert) k (Ok sources) l e g =
        let first = sources-first frame rows frame.components sources ps qs (made-inside frame m) l same in
        let count = gathered-length _ frame.components sources l in
        let fits = conversion-fits (length frame.components) transform convert k in
        let size : length sources * w ≡ w * length frame.components =
        ap (λ (n : ℕ). n * w) count ∙ mul_comm (length frame.components) w in
        let p = picture-first convert sources ps qs w h rows (reaches-made frame sources m l) few
        (first.1 ∙ sym count) (rw count fits) first.0 in
        ap₂ (λ (n : ℕ) (z : List ℕ). take (rows * n) z) (sym size) (sym (ok-same _ x e)) ∙ p
        ∙ ap₂ (λ (n : ℕ) (z : List ℕ). take (rows * n) z) size (ok-same _ y g)

-- ---- a picture of one component

pub take-first : (f g : ℕ → ℕ) (a m n : ℕ) → ((i : ℕ) → a ≤ i → i < a + n → f i ≡ g i)
    → take n (map f (range_with_len a m)) ≡ take n (map g (range_with_len a m))
take-first f g a m zero same = refl
take-first f g a zero (suc n) same = refl
take-first f g a (suc m) (suc n) same =
    ap₂ (λ (x : ℕ) (l : List ℕ). x ∷ l) (same a (omega arith) (omega arith))
    (take-first f g (a + 1) m n (λ i low high. same i (omega arith) (omega arith)))

cropped-first : (stride w h rows width : ℕ) (p q : List ℕ) → width ≤ w → SamePlane stride w rows p q
    → take (rows * width) (cropped stride width h p) ≡ take (rows * width) (cropped stride width h q)
unfolding cropped
cropped-first stride w h rows zero p q wide same =
    let none : rows * 0 ≡ 0 = omega arith in rw none refl
cropped-first stride w h rows (suc n) p q wide same =
    take-first _ _ 0 (suc n * h) (rows * suc n) (λ i low high.
    let some : 0 < suc n = omega arith in
    same.each (i % suc n) (i / suc n) (let k = mod-lt i some in omega arith)
    ((div-lt_iff_lt-mul some).1 (omega arith)))

-- the rule of a component that is alone
one-rule : (c : Component) (width height : ℕ) → HasSampling c
    → rule_of c.factors.horizontal c.factors.vertical (most_across (c ∷ [])) (most_down (c ∷ [])) width height
    ≡ Some H1V1
unfolding rule_of
one-rule c width height s =
    let a = s.horizontal_some in
    let b = s.vertical_some in
    let across : c.factors.horizontal ≡ most_across (c ∷ []) = omega arith in
    let down : c.factors.vertical ≡ most_down (c ∷ []) = omega arith in
    grind (arith, common_steps, nat_tests)

-- the picture of a plane, by the samples of its lines
abbrev cropped_by : Frame → List ℕ → ℕ → List ℕ
cropped_by frame p stride =
    cropped stride (min frame.output_width stride) (min frame.output_height (length p / stride)) p

-- so of one component that has a sample for each pixel
plane-first : (frame : Frame) (rows count : ℕ) (c : Component) (p q : List ℕ) → count ≡ 1
    → c.width ≤ c.blocks_wide * c.scale → frame.output_width ≤ c.width → length p ≡ length q
    → SamePlane (c.blocks_wide * c.scale) c.width rows p q
    → rows_by count frame rows (picture_in frame c p) ≡ rows_by count frame rows (picture_in frame c q)
plane-first frame rows count c p q one inside wide long same =
    let stride = c.blocks_wide * c.scale in
    let width : min frame.output_width stride ≡ frame.output_width * count = rw one (omega arith) in
    let turn = mul_comm c.scale c.blocks_wide in
    let first = cropped-first stride c.width (min frame.output_height (length p / stride)) rows
    (min frame.output_width stride) p q (omega arith) same
    ∙ ap (λ (n : ℕ). take (rows * min frame.output_width stride)
    (cropped stride (min frame.output_width stride) (min frame.output_height (n / stride)) q)) long in
    ap₂ (λ (n k : ℕ). take (rows * n) (cropped_by frame p k)) (sym width) turn ∙ first
    ∙ ap₂ (λ (n k : ℕ). take (rows * n) (cropped_by frame q k)) width (sym turn)

one-first : (frame : Frame) (rows count : ℕ) (c : Component) (p q : List ℕ) → count ≡ 1 → IsSizedFrame frame
    → rows ≤ frame.output_height → frame.components ≡ c ∷ [] → length p ≡ length q
    → first_lines c (lines_for frame rows c) p ≡ first_lines c (lines_for frame rows c) q
    → rows_by count frame rows (picture_in frame c p) ≡ rows_by count frame rows (picture_in frame c q)
unfolding AllHaveSampling
one-first frame rows count c p q one z few is long e =
    let m = made-sized frame z in
    let size = one-made frame c m is in
    let wide = subst (AllByRecursion IsInBlocks) is (made-inside frame m) in
    let sampling = subst AllHaveSampling is (sized_frames_have_factors frame z) in
    let rule = subst (λ (l : List Component). rule_of c.factors.horizontal c.factors.vertical (most_across l)
    (most_down l) frame.output_width frame.output_height ≡ Some H1V1) (sym is)
    (one-rule c frame.output_width frame.output_height sampling.0) in
    let lines : lines_for frame rows c ≡ rows = rule-lines frame rows c H1V1 rule
    ∙ (let h = size.1 in omega arith) in
    plane-first frame rows count c p q one wide.0 size.0 long
    (first-same (c.blocks_wide * c.scale) c.width rows p q wide.0 long
    (subst (λ (n : ℕ). first_lines c n p ≡ first_lines c n q) lines e))

-- ---- the luma of a picture

-- planes that are the same in more lines
fewer-same : (stride w lines rows : ℕ) (p q : List ℕ) → rows ≤ lines → SamePlane stride w lines p q
    → SamePlane stride w rows p q
fewer-same stride w lines rows p q le same =
    record { count = same.count; each = λ i j a b. same.each i j a (omega arith) }

large-first : (frame : Frame) (rows : ℕ) (c : Component) (cs : List Component) (p q : List ℕ) → Made frame
    → rows ≤ frame.output_height → frame.components ≡ c ∷ cs → c.width ≡ frame.output_width
    → c.height ≡ frame.output_height → length p ≡ length q
    → first_lines c (lines_for frame rows c) p ≡ first_lines c (lines_for frame rows c) q
    → rows_by 1 frame rows (picture_in frame c p) ≡ rows_by 1 frame rows (picture_in frame c q)
large-first frame rows c cs p q m few is wide tall long e =
    let stride = c.blocks_wide * c.scale in
    let inside = subst (AllByRecursion IsInBlocks) is (made-inside frame m) in
    let many = luma-lines frame m c cs rows is tall few in
    plane-first frame rows 1 c p q refl inside.0 (omega arith) long
    (fewer-same stride c.width (lines_for frame rows c) rows p q many
    (first-same stride c.width (lines_for frame rows c) p q inside.0 long e))

luma-first : (transform : ColorTransform) (frame : Frame) (rows : ℕ) (cs : List Component) (ps qs : List (List ℕ))
    (x y : List ℕ) → Made frame → rows ≤ frame.output_height → frame.components ≡ cs
    → BeginAlike frame rows cs ps qs → luma_picture transform frame cs ps ≡ Ok x
    → luma_picture transform frame cs qs ≡ Ok y → rows_by 1 frame rows x ≡ rows_by 1 frame rows y
unfolding BeginAlike
luma-first transform frame rows [] ps qs x y m few is same e g = absurd (err-ok Malformed x e)
luma-first transform frame rows (c ∷ cs) [] qs x y m few is same e g = absurd same
luma-first transform frame rows (c ∷ cs) (p ∷ ps) [] x y m few is same e g = absurd same
luma-first transform frame rows (c ∷ cs) (p ∷ ps) (q ∷ qs) x y m few is same e g =
    go (is_luma transform && is_as_large frame c) refl e g
  where
    go : (b : Bool) → (is_luma transform && is_as_large frame c) ≡ b
        → (check b >>= (λ _. first_picture frame c (p ∷ ps))) ≡ Ok x
        → (check b >>= (λ _. first_picture frame c (q ∷ qs))) ≡ Ok y
        → rows_by 1 frame rows x ≡ rows_by 1 frame rows y
    go false large e g = absurd (err-ok Malformed x e)
    go true large e g =
        let size = as-large (is_luma transform) frame c large in
        ap (rows_by 1 frame rows) (sym (ok-same _ x e))
        ∙ large-first frame rows c cs p q m few is size.0 size.1 same.0 same.1
        ∙ ap (rows_by 1 frame rows) (ok-same _ y g)

several-first : (luma : Bool) (transform : ColorTransform) (frame : Frame) (rows : ℕ) (cs : List Component)
    (ps qs : List (List ℕ)) (x y : List ℕ) → Made frame → rows ≤ frame.output_height → frame.components ≡ cs
    → BeginAlike frame rows cs ps qs → picture_of_several luma transform frame cs ps ≡ Ok x
    → picture_of_several luma transform frame cs qs ≡ Ok y
    → rows_by (if luma then 1 else length frame.components) frame rows x
    ≡ rows_by (if luma then 1 else length frame.components) frame rows y
several-first true transform frame rows cs ps qs x y m few is same e g =
    luma-first transform frame rows cs ps qs x y m few is same e g
several-first false transform frame rows cs ps qs x y m few is same e g =
    image-first frame rows ps qs transform x y m few
    (subst (λ (l : List Component). BeginAlike frame rows l ps qs) (sym is) same)
    (subst (λ (l : List Component). image_of l ps frame.output_width frame.output_height transform ≡ Ok x) (sym is) e)
    (subst (λ (l : List Component). image_of l qs frame.output_width frame.output_height transform ≡ Ok y) (sym is) g)

-- ---- pictures

-- how many samples a pixel has in a picture of planes
abbrev count_of : Settings → Frame → ℕ
count_of settings frame = if settings.luma then 1 else length frame.components

shown-count : (settings : Settings) (frame : Frame) → (frame.process ≡ Lossless → settings.luma ≡ false)
    → samples_shown settings frame ≡ count_of settings frame
shown-count settings frame lossy = go settings.luma frame.process (length frame.components) lossy
  where
    go : (luma : Bool) (process : CodingProcess) (n : ℕ) → (process ≡ Lossless → luma ≡ false)
        → (if luma then luma_samples process n else n) ≡ (if luma then 1 else n)
    go false process n h = refl
    go true process n h = luma-alone process n (λ e. true≢false (h e))

one-count : (luma : Bool) (n : ℕ) → n ≡ 1 → (if luma then 1 else n) ≡ 1
one-count true n e = refl
one-count false n e = e

by-count : (settings : Settings) (m : Metadata) (frame : Frame) (rows : ℕ) (cs : List Component)
    (ps qs : List (List ℕ)) (x y : List ℕ) → IsSizedFrame frame → rows ≤ frame.output_height
    → frame.components ≡ cs → BeginAlike frame rows cs ps qs
    → picture_by settings m frame cs ps ≡ Ok x → picture_by settings m frame cs qs ≡ Ok y
    → rows_by (count_of settings frame) frame rows x ≡ rows_by (count_of settings frame) frame rows y
unfolding picture_by BeginAlike
by-count settings m frame rows [] ps qs x y z few is same e g =
    several-first settings.luma (transform_by settings m []) frame rows [] ps qs x y (made-sized frame z) few is same e g
by-count settings m frame rows (c ∷ []) (p ∷ ps) (q ∷ qs) x y z few is same e g =
    let one = one-count settings.luma (length frame.components) (ap length is) in
    ap (rows_by (count_of settings frame) frame rows) (sym (ok-same _ x e))
    ∙ one-first frame rows (count_of settings frame) c p q one z few is same.0 same.1
    ∙ ap (rows_by (count_of settings frame) frame rows) (ok-same _ y g)
by-count settings m frame rows (c ∷ []) [] qs x y z few is same e g = absurd same
by-count settings m frame rows (c ∷ []) (p ∷ ps) [] x y z few is same e g = absurd same
by-count settings m frame rows (c ∷ d ∷ cs) ps qs x y z few is same e g =
    several-first settings.luma (transform_by settings m (c ∷ d ∷ cs)) frame rows (c ∷ d ∷ cs) ps qs x y
    (made-sized frame z) few is same e g

-- The first rows of the picture of planes.
pub rows_of_first_lines : (settings : Settings) (m : Metadata) (frame : Frame) (rows : ℕ) (ps qs : List (List ℕ))
    (x y : List ℕ) → IsSizedFrame frame → (frame.process ≡ Lossless → settings.luma ≡ false)
    → rows ≤ frame.output_height → BeginAlike frame rows frame.components ps qs
    → picture_by settings m frame frame.components ps ≡ Ok x → picture_by settings m frame frame.components qs ≡ Ok y
    → first_rows settings frame rows x ≡ first_rows settings frame rows y
rows_of_first_lines settings m frame rows ps qs x y z lossy few same e g =
    subst (λ (n : ℕ). rows_by n frame rows x ≡ rows_by n frame rows y) (sym (shown-count settings frame lossy))
    (by-count settings m frame rows frame.components ps qs x y z few refl same e g)
