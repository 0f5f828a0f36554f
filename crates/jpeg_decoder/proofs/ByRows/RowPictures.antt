-- The picture of the planes that a scan of rows gives is made of its lines, which are those that were given.
use Rattle.std.proofs.Common.{◌≡◌, ◌⊎◌, inl, inr, ℕ, zero, suc, ◌+◌, ◌*◌, ◌<◌, ◌≤◌, ◌==◌, ◌||◌, Bool, true, false}
use Rattle.std.proofs.Common.{List, [], ◌∷◌, length, map, take, drop, get_or, min, nat_lt, Option, Some, None}
use Rattle.std.proofs.Common.{Ok, Err, refl, sym, ap, ap₂, ◌∙◌, subst, arith, if◌then◌else◌, length-take, length-drop}
use Rattle.std.proofs.Math.Nat.{mul_assoc, mul_comm, mul-le-mul_right}
use Rattle.std.proofs.lemmas.Grind.{common_steps}
use Rattle.std.proofs.lemmas.Bool.{and_parts, eqb-true, not-true, or_cases}
use Rattle.std.proofs.lemmas.Bool.Decides.{nat_tests}
use Rattle.std.proofs.lemmas.List.{append-nil, get_or-drop, get_or-map, get_or-take}
use Rattle.std.proofs.lemmas.List.FromFn.{fill_by_all, length-map-range_with_len}
use Rattle.std.specs.Prelude.{not, slice_index, slice_index_or}
use Rattle.std.specs.List.{AllByRecursion, concat, enumerate_from, range_with_len}
use Rattle.jpeg_bits.specs.Reading.{Malformed, ◌>>=◌}
use Rattle.jpeg_bits.specs.declared.color_transform.ColorTransform.{ColorTransform}
use Rattle.jpeg_bits.specs.declared.color_transform.ColorTransform.TheVariants as transforms
use Rattle.jpeg_segments.specs.Checks.{check, gathered, needed}
use Rattle.jpeg_segments.specs.Frame.{AllHaveSampling, Component, Factors, Frame, HasSampling, ceiling}
use Rattle.jpeg_segments.specs.Frame.{frame_of}
use Rattle.jpeg_segments.specs.Frame.{most_across, most_down}
use Rattle.jpeg_segments.specs.ScanHeader as headers
use Rattle.jpeg_segments.specs.Scales.{frame_at}
use Rattle.jpeg_segments.specs.declared.frame.CodingProcess.{CodingProcess}
use Rattle.jpeg_segments.specs.declared.frame.CodingProcess.TheVariants.{DctProgressive, DctSequential, Lossless}
use Rattle.jpeg_segments.proofs.Codecs.{bind-ok, ok-same}
use Rattle.jpeg_pixels.specs.Colour.{conversion_of}
use Rattle.jpeg_pixels.specs.JointPlanes.{HaveWidth}
use Rattle.jpeg_pixels.specs.Lines.{cropped_lines}
use Rattle.jpeg_pixels.specs.Pictures.{AreWhole, HasSources, Source, lines_of}
use Rattle.jpeg_pixels.specs.Pictures.{picture_line, source_of, sources_of}
use Rattle.jpeg_pixels.specs.PicturesView.{IsFor}
use Rattle.jpeg_pixels.specs.Planes.{cropped}
use Rattle.jpeg_pixels.specs.Upsampling.{rule_of, upsampled}
use Rattle.jpeg_pixels.specs.declared.color_convert.ColorConvert.{ColorConvert}
use Rattle.jpeg_pixels.specs.declared.color_convert.ColorConvert.TheVariants as converts
use Rattle.jpeg_pixels.specs.declared.upsample_rows.UpsampleRule.{UpsampleRule}
use Rattle.jpeg_pixels.specs.declared.upsample_rows.UpsampleRule.TheVariants.{H1V1}
use Rattle.jpeg_pixels.proofs.LinesOfColour.{line-none}
use Rattle.jpeg_pixels.proofs.PictureLines.{cropped-joined, picture_line-long, upsampled-joined}
use Rattle.jpeg_pixels.proofs.SourceLists.{source-rule, source_with}
use Rattle.jpeg_pixels.proofs.WholePictures.{conversion-fits, image-is, sources-count}
use Rattle.jpeg_meaning.specs.Found.{Found, Metadata, Said}
use Rattle.jpeg_meaning.specs.FoundPictures.{blocks_picture, limited, picture_by, picture_by_process}
use Rattle.jpeg_meaning.specs.FoundPictures.{picture_in, picture_of, plane_at_end}
use Rattle.jpeg_meaning.specs.Sound.{IsDecodedFrame}
use Rattle.jpeg_meaning.specs.declared.settings.Settings.{Settings}
use Rattle.jpeg_meaning.proofs.Order.FrameShapes.{is-sized, most_h, most_v, one-made, scaled_component}
use Rattle.jpeg_meaning.proofs.Pictures.UpsampledFactors.{map-same}
use Rattle.jpeg_meaning.proofs.Soundness.{decoded-sources}
use Rattle.jpeg_meaning.proofs.Written.BroughtLevels.{Made}
use Rattle.jpeg_meaning.proofs.Written.ReadTurns.{gathered-more, then-ok}
use Rattle.jpeg_meaning.proofs.Written.WrittenPictures.{end-decided, picture_of_several, transform_by}
use Rattle.jpeg_decoder.specs.ByRows.{HaveRows, comes_by_rows, conversion_in, is_converted, is_sequential}
use Rattle.jpeg_decoder.specs.ByRows.{keeps_transform, lines_from, settled_picture, transform_place, transform_said}
use Rattle.jpeg_decoder.specs.Bytes.{AreLinesOf, shape_of}
use Rattle.jpeg_decoder.specs.Givers.{AreFound}
use Rattle.jpeg_decoder.specs.Steps.{CoversPicture}
use Rattle.jpeg_decoder.proofs.ByRows.AtScan.{else-is}
use Rattle.jpeg_decoder.proofs.ByRows.Windows.{have-count}
use Rattle.jpeg_decoder.proofs.Pictures.PictureSizes.{block-lines, made-of, plane-lines, shown-colours}
use Rattle.jpeg_decoder.proofs.Pictures.PictureSizes.{shown-lines, some-width, whole-covers}
use Rattle.jpeg_decoder.proofs.Pictures.PicturesOfPlanes.{decoded-factors}

-- ---- a scan whose lines are given as it is read

pub record ComesByRows (settings : Settings) (said : Said) (frame : Frame) (scan : headers.Scan) : Type 0 where
  pub sequential : frame.process ≡ DctSequential
  pub all : length scan.components ≡ length frame.components
  pub colours : settings.luma ≡ false
  pub within : nat_lt settings.limit (length frame.components * (frame.output_width * frame.output_height)) ≡ false
  pub converted : is_converted (conversion_in frame.components (transform_said settings said frame)) ≡ true

sequential-is : (p : CodingProcess) → is_sequential p ≡ true → p ≡ DctSequential
sequential-is DctSequential e = refl
sequential-is DctProgressive e = absurd cc
sequential-is Lossless e = absurd cc

pub comes-by_rows : (settings : Settings) (said : Said) (frame : Frame) (scan : headers.Scan)
    → comes_by_rows settings said frame scan ≡ true → ComesByRows settings said frame scan
comes-by_rows settings said frame scan e =
    let a = and_parts (is_sequential frame.process) _ e in
    let b = and_parts (length scan.components == length frame.components) _ a.1 in
    let c = and_parts (not settings.luma) _ b.1 in
    let size = length frame.components * (frame.output_width * frame.output_height) in
    let d = and_parts (not (nat_lt settings.limit size)) _ c.1 in
    record {
      sequential = sequential-is frame.process a.0;
      all = eqb-true (length scan.components) (length frame.components) b.0;
      colours = not-true settings.luma c.0;
      within = not-true _ d.0;
      converted = d.1;
    }

-- A conversion is for as many components.
pub conversion-in : (components : List Component) (t : ColorTransform) (convert : ColorConvert)
    → conversion_in components t ≡ Ok convert → IsFor (length components) convert
conversion-in [] t convert e = conversion-fits 0 t convert e
conversion-in (c ∷ []) t convert e = subst (IsFor 1) (ok-same converts.None convert e) tt
conversion-in (c ∷ d ∷ more) t convert e = conversion-fits (length (c ∷ d ∷ more)) t convert e

-- ---- planes at the end

-- as many planes as components
gather-from : (found : Found) (frame : Frame) (k : ℕ) (components : List Component) (planes : List (List ℕ))
    → length planes ≡ length components
    → ((i : ℕ) → i < length planes → slice_index_or found.planes (k + i) None ≡ Some (get_or planes i []))
    → gathered (plane_at_end found frame) (enumerate_from k components) ≡ Ok planes
unfolding gathered
gather-from found frame k [] [] count each = refl
gather-from found frame k (c ∷ components) (plane ∷ planes) count each =
    let here : k + 0 ≡ k = omega arith in
    let first = subst (λ (n : ℕ). slice_index_or found.planes n None ≡ Some plane) here (each 0 (omega arith)) in
    gathered-more (plane_at_end found frame) (k, c) (enumerate_from (k + 1) components) plane planes
    (end-decided found frame k c plane first)
    (gather-from found frame (k + 1) components planes (omega (arith, count)) (λ i h.
    let next : k + suc i ≡ k + 1 + i = omega arith in
    subst (λ (n : ℕ). slice_index_or found.planes n None ≡ Some (get_or planes i [])) next
    (each (suc i) (omega arith))))
gather-from found frame k [] (plane ∷ planes) count each = absurd (omega (arith, count))
gather-from found frame k (c ∷ components) [] count each = absurd (omega (arith, count))

found-at : (planes : List (List ℕ)) (found : List (Option (List ℕ))) (i : ℕ) → AreFound planes found
    → i < length planes → get_or found i None ≡ Some (get_or planes i [])
found-at planes found i are lt =
    sym (get_or-take (length planes) found i None lt) ∙ ap (λ (l : List (Option (List ℕ))). get_or l i None) are
    ∙ get_or-map Some planes i [] None lt

-- Planes that were found are those at the end.
pub found-gathered : (found : Found) (frame : Frame) (planes : List (List ℕ))
    → length planes ≡ length frame.components → AreFound planes found.planes
    → gathered (plane_at_end found frame) (enumerate_from 0 frame.components) ≡ Ok planes
found-gathered found frame planes count are =
    gather-from found frame 0 frame.components planes count (λ i lt.
    let here : 0 + i ≡ i = omega arith in
    ap (λ (n : ℕ). get_or found.planes n None) here ∙ found-at planes found.planes i are lt)

-- ---- planes of all rows

-- the blocks of a component are those of all rows of MCUs
abbrev pub IsOfRows : ℕ → Component → Type 0
IsOfRows rows c = c.blocks_high ≡ rows * c.factors.vertical

scaled-rows : (s width height h v : ℕ) (xs : List Factors)
    → AllByRecursion (IsOfRows (ceiling height (8 * v))) (map (scaled_component s width height h v) xs)
scaled-rows s width height h v [] = tt
scaled-rows s width height h v (x ∷ xs) = (refl, scaled-rows s width height h v xs)

made-rows : (f : Frame) (m : Made f) → f.mcus_high ≡ ceiling m.height (8 * most_v m.factors)
unfolding frame_at frame_of
made-rows f m = ap (λ (x : Frame). x.mcus_high) m.is

pub decoded-rows : (f : Frame) → IsDecodedFrame f → AllByRecursion (IsOfRows f.mcus_high) f.components
decoded-rows f p =
    let m = made-of f p in
    subst (λ (n : ℕ). AllByRecursion (IsOfRows n) f.components) (sym (made-rows f m))
    (subst (AllByRecursion (IsOfRows (ceiling m.height (8 * most_v m.factors)))) (sym (is-sized f m).components)
    (scaled-rows m.scale m.width m.height (most_h m.factors) (most_v m.factors) m.factors))

whole-size : (rows v s high line : ℕ) → high ≡ rows * v → rows * (v * s * line) ≡ (high * s) * line
whole-size rows v s high line e =
    sym (mul_assoc rows (v * s) line) ∙ ap (λ n. n * line) (sym (mul_assoc rows v s) ∙ ap (λ n. n * s) (sym e))

all-whole : (rows : ℕ) (components : List Component) (planes : List (List ℕ))
    → AllByRecursion (IsOfRows rows) components → HaveRows rows components planes → AreWhole components planes
unfolding HaveRows AreWhole
all-whole rows [] [] of h = tt
all-whole rows (c ∷ components) (plane ∷ planes) of h = (
  h.0 ∙ whole-size rows c.factors.vertical c.scale c.blocks_high (c.blocks_wide * c.scale) of.0,
  all-whole rows components planes of.1 h.1,
)
all-whole rows [] (plane ∷ planes) of h = absurd h
all-whole rows (c ∷ components) [] of h = absurd h

-- Planes of all rows of MCUs have all blocks.
pub rows-whole : (f : Frame) → IsDecodedFrame f → (planes : List (List ℕ))
    → HaveRows f.mcus_high f.components planes → AreWhole f.components planes
rows-whole f p planes h = all-whole f.mcus_high f.components planes (decoded-rows f p) h

-- ---- a picture of one component

-- the rule of a component that is alone
one-rule : (c : Component) (width height : ℕ) → HasSampling c
    → rule_of c.factors.horizontal c.factors.vertical (most_across (c ∷ [])) (most_down (c ∷ [])) width height
    ≡ Some H1V1
unfolding rule_of
one-rule c width height s =
    let a = s.horizontal_some in
    let b = s.vertical_some in
    let across : c.factors.horizontal ≡ most_across (c ∷ []) = omega arith in
    let down : c.factors.vertical ≡ most_down (c ∷ []) = omega arith in
    grind (arith, common_steps, nat_tests)

-- It stands for each sample of the picture.
alone-sources : (c : Component) (width height : ℕ) (sources : List Source) → HasSampling c
    → sources_of (c ∷ []) width height ≡ Ok sources → sources ≡ source_with c H1V1 ∷ []
unfolding gathered
alone-sources c width height sources sampling e =
    let one = bind-ok (source_of (most_across (c ∷ [])) (most_down (c ∷ [])) width height c) _ sources e in
    let r = source-rule (most_across (c ∷ [])) (most_down (c ∷ [])) width height c one.0 one.1 in
    let same : r.0 ≡ H1V1 = only r.0 (sym r.1 ∙ one-rule c width height sampling) in
    sym (ok-same (one.0 ∷ []) sources one.2)
    ∙ ap (λ (s : Source). s ∷ []) (sym r.2 ∙ ap (source_with c) same)
  where
    only : (rule : UpsampleRule) → Some rule ≡ Some H1V1 → rule ≡ H1V1
    only rule e = cc

-- a line alone is as wide as it is long
wide-alone : (width : ℕ) (line : List ℕ) → length line ≡ width → HaveWidth width (line ∷ [])
wide-alone width line e = record { each = each }
  where
    each : (k : ℕ) → k < 1 → length (get_or (line ∷ []) k []) ≡ width
    each zero h = e
    each (suc k) h = absurd (omega arith)

-- a line of its picture is that of its plane
alone-line : (c : Component) (plane : List ℕ) (width row : ℕ)
    → row * (c.blocks_wide * c.scale) + width ≤ length plane
    → picture_line converts.None (source_with c H1V1 ∷ []) (plane ∷ []) width row
    ≡ take width (drop (row * (c.blocks_wide * c.scale)) plane)
unfolding picture_line lines_of upsampled
alone-line c plane width row inside =
    let start = row * (c.blocks_wide * c.scale) in
    let part = take width (drop start plane) in
    let long : length part ≡ width = omega (arith, inside, length-take {A = ℕ}, length-drop {A = ℕ}) in
    let line = map (λ (x : ℕ). slice_index plane (start + x)) (range_with_len 0 width) in
    let is : part ≡ line = fill_by_all (λ (x : ℕ). slice_index plane (start + x)) part width 0 long (λ k lt.
    get_or-take width (drop start plane) k 0 lt ∙ get_or-drop start plane k 0) in
    sym (line-none width (line ∷ []) (wide-alone width line (sym (ap length is) ∙ long)))
    ∙ append-nil line ∙ sym is

-- the lines of the picture of a component alone
alone-lines : (c : Component) (plane : List ℕ) (width height : ℕ) → width ≤ c.blocks_wide * c.scale
    → height * (c.blocks_wide * c.scale) ≤ length plane
    → map (picture_line converts.None (source_with c H1V1 ∷ []) (plane ∷ []) width) (range_with_len 0 height)
    ≡ cropped_lines (c.blocks_wide * c.scale) width height plane
alone-lines c plane width height wide room =
    map-same _ _ 0 height (λ row low high.
    let le : row + 1 ≤ height = omega arith in
    alone-line c plane width row (omega (
      arith,
      room,
      wide,
      mul-le-mul_right (c.blocks_wide * c.scale) le,
      add-one row (c.blocks_wide * c.scale),
    )))
  where
    add-one : (n k : ℕ) → (n + 1) * k ≡ n * k + k
    add-one n k = grind (arith, common_steps)

alone-picture : (f : Frame) (c : Component) (plane : List ℕ) → 0 < f.output_width → CoversPicture f c plane
    → picture_in f c plane
    ≡ concat (lines_from f converts.None (source_with c H1V1 ∷ []) (plane ∷ []) 0 f.output_height)
alone-picture f c plane some covers =
    let stride = c.scale * c.blocks_wide in
    let turned : stride ≡ c.blocks_wide * c.scale = mul_comm c.scale c.blocks_wide in
    let across : min f.output_width stride ≡ f.output_width = omega (arith, covers.wide) in
    let down = plane-lines f.output_height stride covers.high (length plane) (omega (arith, covers.wide, some))
    covers.lines covers.whole in
    let room : f.output_height * stride ≤ length plane = omega (
      arith,
      covers.whole,
      mul-le-mul_right stride covers.lines,
    ) in
    ap₂ (λ (w h : ℕ). cropped stride w h plane) across down
    ∙ sym (cropped-joined stride f.output_width f.output_height plane covers.wide room)
    ∙ ap concat (ap (λ (k : ℕ). cropped_lines k f.output_width f.output_height plane) turned
    ∙ sym (alone-lines c plane f.output_width f.output_height (subst (λ (k : ℕ). f.output_width ≤ k) turned covers.wide)
    (subst (λ (k : ℕ). f.output_height * k ≤ length plane) turned room)))

-- ---- a picture of several components

-- the transform at a place
abbrev transform_at : ℕ → ColorTransform
transform_at n =
    if n == 0 then transforms.None else (
    if n == 1 then transforms.Unknown else (
    if n == 2 then transforms.Grayscale else (
    if n == 3 then transforms.RGB else (
    if n == 4 then transforms.YCbCr else (
    if n == 5 then transforms.CMYK else (
    if n == 6 then transforms.YCCK else (
    if n == 7 then transforms.JcsBgYcc else transforms.JcsBgRgb)))))))

at-place : (t : ColorTransform) → transform_at (transform_place t) ≡ t
at-place transforms.None = refl
at-place transforms.Unknown = refl
at-place transforms.Grayscale = refl
at-place transforms.RGB = refl
at-place transforms.YCbCr = refl
at-place transforms.CMYK = refl
at-place transforms.YCCK = refl
at-place transforms.JcsBgYcc = refl
at-place transforms.JcsBgRgb = refl

-- transforms at the same place
pub same-place : (s t : ColorTransform) → transform_place s ≡ transform_place t → s ≡ t
same-place s t e = sym (at-place s) ∙ ap transform_at e ∙ at-place t

-- where several components keep a transform
kept-transform : (n : ℕ) (s t : ColorTransform) → (n ≡ 1 → ⊥)
    → (n == 1 || transform_place s == transform_place t) ≡ true → s ≡ t
kept-transform n s t other e = go (or_cases (n == 1) (transform_place s == transform_place t) e)
  where
    go : ((n == 1) ≡ true) ⊎ ((transform_place s == transform_place t) ≡ true) → s ≡ t
    go (inl one) = absurd (other (eqb-true n 1 one))
    go (inr same) = same-place s t (eqb-true (transform_place s) (transform_place t) same)

several-picture : (luma : Bool) (f : Frame) (cs : List Component) (planes : List (List ℕ)) (s t : ColorTransform)
    (convert : ColorConvert) (sources : List Source) → luma ≡ false → (length cs ≡ 1 → ⊥)
    → (length cs == 1 || transform_place t == transform_place s) ≡ true
    → conversion_of (length cs) t ≡ Ok convert → sources_of cs f.output_width f.output_height ≡ Ok sources
    → picture_of_several luma s f cs planes
    ≡ Ok (concat (lines_from f convert sources planes 0 f.output_height))
several-picture luma f cs planes s t convert sources colours other keeps conversion are =
    else-is luma _ _ colours
    ∙ image-is cs planes f.output_width f.output_height s convert sources _
    (ap (conversion_of (length cs)) (sym (kept-transform (length cs) t s other keeps)) ∙ conversion) are
    (upsampled-joined convert sources planes f.output_width f.output_height)

-- ---- the picture

by-components : (settings : Settings) (m : Metadata) (f : Frame) (cs : List Component) (planes : List (List ℕ))
    (t : ColorTransform) (convert : ColorConvert) (sources : List Source) → IsDecodedFrame f → f.components ≡ cs
    → AllHaveSampling cs → AreWhole cs planes → length planes ≡ length cs → settings.luma ≡ false
    → conversion_in cs t ≡ Ok convert → sources_of cs f.output_width f.output_height ≡ Ok sources
    → (length cs == 1 || transform_place t == transform_place (transform_by settings m cs)) ≡ true
    → picture_by settings m f cs planes ≡ Ok (concat (lines_from f convert sources planes 0 f.output_height))
unfolding picture_by AreWhole AllHaveSampling
by-components settings m f [] planes t convert sources p is sampling whole n colours conversion are keeps =
    several-picture settings.luma f [] planes (transform_by settings m []) t convert sources colours
    (λ e. absurd (omega (arith, e))) keeps conversion are
by-components settings m f (c ∷ []) (plane ∷ []) t convert sources p is sampling whole n colours same are keeps =
    let size = one-made f c (made-of f p) is in
    let covers = whole-covers f c [] plane p is size.0 size.1 whole.0 in
    ap (λ (l : List ℕ). Ok l) (alone-picture f c plane (some-width f (made-of f p)) covers
    ∙ ap₂ (λ (k : ColorConvert) (l : List Source). concat (lines_from f k l (plane ∷ []) 0 f.output_height))
    (ok-same converts.None convert same)
    (sym (alone-sources c f.output_width f.output_height sources sampling.0 are)))
by-components settings m f (c ∷ []) [] t convert sources p is sampling whole n colours same are keeps =
    absurd whole
by-components settings m f (c ∷ []) (x ∷ y ∷ more) t convert sources p is sampling whole n colours same are keeps =
    absurd (omega (arith, n))
by-components settings m f (c ∷ d ∷ more) planes t convert sources p is sampling whole n colours same are keeps =
    let transform = transform_by settings m (c ∷ d ∷ more) in
    several-picture settings.luma f (c ∷ d ∷ more) planes transform t convert sources colours
    (λ e. absurd (omega (arith, e))) keeps same are

-- Where the transform is kept the picture is the same.
pub settled-is : (t : ColorTransform) (settings : Settings) (found : Found) (frame : Frame)
    → found.said.frame ≡ Some frame → keeps_transform t settings found.said frame ≡ true
    → settled_picture (Some t) settings found ≡ picture_of settings found
unfolding settled_picture
settled-is t settings found frame framed keeps =
    then-ok (needed found.said.frame) _ frame _ (ap needed framed) (then-ok (check _) _ tt _ (ap check keeps) refl)

-- A segment that chooses another transform is refused.
pub settled-refused : (t : ColorTransform) (settings : Settings) (found : Found) (frame : Frame)
    → found.said.frame ≡ Some frame → keeps_transform t settings found.said frame ≡ false
    → settled_picture (Some t) settings found ≡ Err Malformed
unfolding settled_picture
settled-refused t settings found frame framed keeps =
    then-ok (needed found.said.frame) _ frame _ (ap needed framed)
    (ap (λ (b : Bool). check b >>= (λ _. picture_of settings found)) keeps)

-- The picture of planes that were found is made of its lines.
pub rows-picture : (settings : Settings) (said : Said) (found : Found) (frame : Frame) (scan : headers.Scan)
    (t : ColorTransform) (convert : ColorConvert) (sources : List Source) (planes : List (List ℕ))
    → IsDecodedFrame frame → found.said.frame ≡ Some frame → comes_by_rows settings said frame scan ≡ true
    → conversion_in frame.components t ≡ Ok convert
    → sources_of frame.components frame.output_width frame.output_height ≡ Ok sources
    → HaveRows frame.mcus_high frame.components planes → AreFound planes found.planes
    → keeps_transform t settings found.said frame ≡ true
    → picture_of settings found ≡ Ok (concat (lines_from frame convert sources planes 0 frame.output_height))
unfolding picture_of limited blocks_picture
rows-picture settings said found frame scan t convert sources planes p framed comes same are high there keeps =
    let by = comes-by_rows settings said frame scan comes in
    let count = have-count frame.mcus_high frame.components planes high in
    then-ok (needed found.said.frame) _ frame _ (ap needed framed)
    (else-is _ _ _ (ap (λ (n : ℕ). nat_lt settings.limit (n * (frame.output_width * frame.output_height)))
    (shown-colours settings frame by.colours) ∙ by.within)
    ∙ ap (λ (process : CodingProcess). picture_by_process process settings found frame) by.sequential
    ∙ then-ok (gathered (plane_at_end found frame) (enumerate_from 0 frame.components)) _ planes _
    (found-gathered found frame planes count there)
    (by-components settings found.said.metadata frame frame.components planes t convert sources p refl
    (decoded-factors frame p) (rows-whole frame p planes high) count by.colours same are keeps))

pub rows-settled : (settings : Settings) (said : Said) (found : Found) (frame : Frame) (scan : headers.Scan)
    (t : ColorTransform) (convert : ColorConvert) (sources : List Source) (planes : List (List ℕ))
    → IsDecodedFrame frame → found.said.frame ≡ Some frame → comes_by_rows settings said frame scan ≡ true
    → conversion_in frame.components t ≡ Ok convert
    → sources_of frame.components frame.output_width frame.output_height ≡ Ok sources
    → HaveRows frame.mcus_high frame.components planes → AreFound planes found.planes
    → keeps_transform t settings found.said frame ≡ true → settled_picture (Some t) settings found
    ≡ Ok (concat (lines_from frame convert sources planes 0 frame.output_height))
rows-settled settings said found frame scan t convert sources planes p framed comes same are high there keeps =
    settled-is t settings found frame framed keeps
    ∙ rows-picture settings said found frame scan t convert sources planes p framed comes same are high there keeps

-- ---- its lines

pub lossy : (p : CodingProcess) → p ≡ DctSequential → p ≡ Lossless → ⊥
lossy p e l = absurd (other (sym e ∙ l))
  where
    other : DctSequential ≡ Lossless → ⊥
    other h = absurd cc

each-long : (f : ℕ → List ℕ) (n a size : ℕ) → ((k : ℕ) → length (f k) ≡ size)
    → AllByRecursion (λ (l : List ℕ). length l ≡ size) (map f (range_with_len a n))
each-long f zero a size each = tt
each-long f (suc n) a size each = (each a, each-long f n (a + 1) size each)

-- They are those that the frame says.
pub rows-lines : (settings : Settings) (frame : Frame) (convert : ColorConvert) (sources : List Source)
    (planes : List (List ℕ)) → IsDecodedFrame frame → frame.process ≡ DctSequential → settings.luma ≡ false
    → IsFor (length frame.components) convert
    → sources_of frame.components frame.output_width frame.output_height ≡ Ok sources
    → length planes ≡ length frame.components
    → AreLinesOf (Some (shape_of settings frame))
    (lines_from frame convert sources planes 0 frame.output_height)
rows-lines settings frame convert sources planes p sequential colours fits are count =
    let n = length frame.components in
    let many : length sources ≡ n = sources-count frame.components frame.output_width frame.output_height sources are in
    let line = picture_line convert sources planes frame.output_width in
    let long : (k : ℕ) → length (line k) ≡ n * frame.output_width =
    λ k. picture_line-long convert sources planes frame.output_width k (count ∙ sym many)
    (subst (λ (m : ℕ). IsFor m convert) (sym many) fits) ∙ ap (λ (m : ℕ). m * frame.output_width) many in
    shown-lines settings frame n _ (shown-colours settings frame colours)
    (block-lines n frame (map line (range_with_len 0 frame.output_height)) p (lossy frame.process sequential)
    (length-map-range_with_len line 0 frame.output_height)
    (each-long line frame.output_height 0 (n * frame.output_width) long))

-- Every frame that is decoded has a way to upsample each component.
pub has-sources : (frame : Frame) → IsDecodedFrame frame → HasSources frame
has-sources frame p = decoded-sources frame p
