-- The lines of a picture of a frame that is decoded: how many there are, and how many bytes they have.
use Rattle.std.proofs.lemmas.Grind.{common_steps}
use Rattle.std.proofs.Common.{◌≡◌, ℕ, ◌*◌, ◌/◌, ◌<◌, ◌≤◌, List, [], ◌∷◌, length, ap}
use Rattle.std.proofs.Common.{◌∙◌, refl, arith, subst, Result, Ok, Err, Option, Some, None, Bool, true, false}
use Rattle.std.proofs.Common.{if◌then◌else◌}
use Rattle.std.proofs.Common.{IfOk, OnOk, map, option_map, min, mul_assoc, mul_comm, mul-div_cancel, mul-le-mul_left, sym}
use Rattle.jpeg_bits.specs.declared.error.Error.{Error}
use Rattle.jpeg_decoder.specs.Bytes.{AreLinesOf, HasBytes, HaveBytes, IsCounted, IsWhole, bytes_a_sample}
use Rattle.jpeg_decoder.specs.Bytes.{line_bytes, picture_size, samples_a_pixel, shape_of, shape_with}
use Rattle.jpeg_decoder.specs.Steps.{CoversPicture}
use Rattle.jpeg_segments.specs.declared.frame.CodingProcess.{CodingProcess}
use Rattle.jpeg_segments.specs.declared.frame.CodingProcess.TheVariants.{DctProgressive, DctSequential}
use Rattle.jpeg_segments.specs.declared.frame.CodingProcess.TheVariants.{Lossless}
use Rattle.jpeg_meaning.specs.declared.images.ImageInfo.{ImageInfo}
use Rattle.jpeg_meaning.specs.Pixels.{bytes_a_pixel, format_of, info_with, luma_samples, samples_shown}
use Rattle.jpeg_meaning.specs.declared.settings.Settings.{Settings}
use Rattle.jpeg_meaning.specs.Segments.{is_decoded_count, is_decoded_precision}
use Rattle.std.specs.List.{AllByRecursion, concat}
use Rattle.std.proofs.lemmas.Bool.{eqb-true}
use Rattle.std.proofs.lemmas.List.{length-map}
use Rattle.std.proofs.lemmas.List.Elements.{recursion_from_All}
use Rattle.std.proofs.lemmas.Result.{IfOk-weaker}
use Rattle.jpeg_segments.specs.Frame.{Frame, Component, ceiling}
use Rattle.jpeg_segments.specs.FrameView.{component_in}
use Rattle.jpeg_segments.specs.declared.frame.Component as declared
use Rattle.jpeg_segments.specs.Scales.{frame_at}
use Rattle.jpeg_segments.proofs.Ceilings.{ceiling-low}
use Rattle.jpeg_lossless.specs.Pictures.{sample_size}
use Rattle.jpeg_meaning.specs.Found.{Found}
use Rattle.jpeg_meaning.specs.InTurn.{Fits}
use Rattle.jpeg_meaning.specs.Sound.{HasDecodedFrame, IsDecodedFrame}
use Rattle.jpeg_meaning.proofs.Written.BroughtLevels.{Made}
use Rattle.jpeg_meaning.proofs.Order.CountedScans.{some-product}
use Rattle.jpeg_meaning.proofs.Pictures.LimitedPictures.{lossless-shown, luma-shown}
use Rattle.jpeg_meaning.proofs.Pictures.LosslessSizes.{ceiling-some}
use Rattle.jpeg_meaning.proofs.Order.OwnSpots.{At}
use Rattle.jpeg_meaning.proofs.Order.FrameShapes.{is-sized, one-made, scale-made}
use Rattle.jpeg_meaning.proofs.Soundness.{accepted-precision, decoded-count, decoded-fits, scale-bounds}
use Rattle.jpeg_decoder.proofs.Pictures.LinesTogether.{together-length}

-- ---- frames of blocks

precision-of : (f : Frame) → IsDecodedFrame f → is_decoded_precision f.process f.precision ≡ true
unfolding frame_at
precision-of f p = grind (arith, common_steps, accepted-precision)

eight : (x : CodingProcess) (n : ℕ) → is_decoded_precision x n ≡ true → (x ≡ Lossless → ⊥) → n ≡ 8
eight x n e dct = grind (arith, common_steps, eqb-true)

pub precision-8 : (f : Frame) → IsDecodedFrame f → (f.process ≡ Lossless → ⊥) → f.precision ≡ 8
precision-8 f p dct = eight f.process f.precision (precision-of f p) dct

-- ---- the samples of a pixel that is shown

-- those of one component
alone-by : (luma : Bool) (x : CodingProcess) (n : ℕ) → n ≡ 1 → (if luma then luma_samples x n else n) ≡ 1
alone-by false x n e = e
alone-by true Lossless n e = e
alone-by true DctSequential n e = refl
alone-by true DctProgressive n e = refl

shown-alone : (settings : Settings) (f : Frame) → length f.components ≡ 1 → samples_shown settings f ≡ 1
shown-alone settings f e = alone-by settings.luma f.process (length f.components) e

-- those of a picture in colour
pub shown-colours : (settings : Settings) (f : Frame) → settings.luma ≡ false
    → samples_shown settings f ≡ length f.components
shown-colours settings f e =
    ap (λ (luma : Bool). if luma then luma_samples f.process (length f.components) else length f.components) e

-- that of its luma
pub shown-luma : (settings : Settings) (f : Frame) → settings.luma ≡ true → (f.process ≡ Lossless → ⊥)
    → samples_shown settings f ≡ 1
shown-luma settings f e dct =
    luma-shown settings f dct ∙ ap (λ (luma : Bool). if luma then 1 else length f.components) e

-- They are as many as a frame may have components.
counts-by : (luma : Bool) (x : CodingProcess) (n : ℕ) → is_decoded_count n ≡ true
    → is_decoded_count (if luma then luma_samples x n else n) ≡ true
counts-by false x n e = e
counts-by true Lossless n e = e
counts-by true DctSequential n e = refl
counts-by true DctProgressive n e = refl

shown-count : (settings : Settings) (f : Frame) → IsDecodedFrame f → is_decoded_count (samples_shown settings f) ≡ true
shown-count settings f p = counts-by settings.luma f.process (length f.components) (decoded-count f p)

-- Lines of as many samples a pixel as are shown.
pub shown-lines : (settings : Settings) (f : Frame) (n : ℕ) (lines : List (List ℕ)) → samples_shown settings f ≡ n
    → AreLinesOf (Some (shape_with n f)) lines → AreLinesOf (Some (shape_of settings f)) lines
shown-lines settings f n lines e are = subst (λ (k : ℕ). AreLinesOf (Some (shape_with k f)) lines) (sym e) are

pub lossless-lines : (settings : Settings) (f : Frame) (lines : List (List ℕ)) → f.process ≡ Lossless
    → AreLinesOf (Some (shape_with (length f.components) f)) lines → AreLinesOf (Some (shape_of settings f)) lines
lossless-lines settings f lines e are =
    shown-lines settings f (length f.components) lines (lossless-shown settings f e) are

pub if-luma_lines : (settings : Settings) (f : Frame) (result : Result (List (List ℕ)) Error) → settings.luma ≡ true
    → (f.process ≡ Lossless → ⊥) → IfOk result (λ l. AreLinesOf (Some (shape_with 1 f)) l)
    → IfOk result (λ l. AreLinesOf (Some (shape_of settings f)) l)
if-luma_lines settings f result e dct h =
    IfOk-weaker result _ _ (λ l are. shown-lines settings f 1 l (shown-luma settings f e dct) are) h

-- ---- lines of blocks

-- a byte a sample
pub by-samples : (n : ℕ) (f : Frame) → f.precision ≡ 8 → n * f.output_width ≡ line_bytes (shape_with n f)
unfolding line_bytes
by-samples n f e = grind (arith, common_steps, mul_comm)

-- a byte for each sample of each pixel
pub block-lines : (n : ℕ) (f : Frame) (lines : List (List ℕ)) → IsDecodedFrame f → (f.process ≡ Lossless → ⊥)
    → length lines ≡ f.output_height → HaveBytes (n * f.output_width) lines
    → AreLinesOf (Some (shape_with n f)) lines
block-lines n f lines p dct high wide =
    (high, subst (λ (k : ℕ). HaveBytes k lines) (by-samples n f (precision-8 f p dct)) wide)

pub if-block_lines : (settings : Settings) (f : Frame) (slice : List declared.Component)
    (result : Result (List (List ℕ)) Error) → settings.luma ≡ false
    → IsDecodedFrame f → (f.process ≡ Lossless → ⊥) → map component_in slice ≡ f.components
    → IfOk result (λ l. (length l ≡ f.output_height) × HaveBytes (length slice * f.output_width) l)
    → IfOk result (λ l. AreLinesOf (Some (shape_of settings f)) l)
if-block_lines settings f slice result colours p dct same h =
    let count : length slice ≡ length f.components = sym (length-map slice component_in) ∙ ap length same in
    let shown : samples_shown settings f ≡ length slice = shown-colours settings f colours ∙ sym count in
    IfOk-weaker result _ _
    (λ l q. shown-lines settings f (length slice) l shown (block-lines (length slice) f l p dct q.0 q.1)) h

-- ---- one component

pub made-of : (f : Frame) → IsDecodedFrame f → Made f
made-of f p = grind (arith, common_steps, recursion_from_All, scale-bounds)

pub some-width : (f : Frame) → Made f → 0 < f.output_width
some-width f m =
    let z = is-sized f m in
    rw z.width (ceiling-some (m.width * m.scale) 8 (some-product m.width m.scale m.some_width m.some_scale)
    (omega arith))

-- the lines of a plane that has those of the picture
pub plane-lines : (h stride high n : ℕ) → 0 < stride → h ≤ high → n ≡ high * stride → min h (n / stride) ≡ h
plane-lines h stride high n some le e = grind (arith, common_steps, mul-div_cancel)

-- as wide as the picture
plane-columns : (w stride : ℕ) → w ≤ stride → min w stride ≡ 1 * w
plane-columns w stride le = grind (arith, common_steps)

-- The lines of a plane that has a sample for each pixel.
pub covered-lines : (f : Frame) (c : Component) (plane : List ℕ) (lines : List (List ℕ)) → IsDecodedFrame f
    → (f.process ≡ Lossless → ⊥) → CoversPicture f c plane
    → length lines ≡ min f.output_height (length plane / (c.scale * c.blocks_wide))
    → HaveBytes (min f.output_width (c.scale * c.blocks_wide)) lines → AreLinesOf (Some (shape_with 1 f)) lines
covered-lines f c plane lines p dct covers rows columns =
    let stride = c.scale * c.blocks_wide in
    let across : 0 < stride = omega (arith, covers.wide, some-width f (made-of f p)) in
    block-lines 1 f lines p dct
    (rows ∙ plane-lines f.output_height stride covers.high (length plane) across covers.lines covers.whole)
    (subst (λ (n : ℕ). HaveBytes n lines) (plane-columns f.output_width stride covers.wide) columns)

-- The plane of a component that is as large as the picture.
pub whole-covers : (f : Frame) (c : Component) (more : List Component) (plane : List ℕ) → IsDecodedFrame f
    → f.components ≡ c ∷ more → f.output_width ≤ c.width → f.output_height ≤ c.height
    → length plane ≡ (c.blocks_high * c.scale) * (c.blocks_wide * c.scale) → CoversPicture f c plane
whole-covers f c more plane p e w h long =
    let made = made-of f p in
    let fits : Fits f c = (subst (λ (l : List Component). AllByRecursion (Fits f) l) e (decoded-fits f p)).0 in
    let some : 0 < c.scale = scale-made f made 0 c (subst (λ (l : List Component). At 0 l c) (sym e) refl) in
    let wide : c.width ≤ c.scale * ceiling c.width c.scale = ceiling-low c.width c.scale some in
    let high : c.height ≤ c.scale * ceiling c.height c.scale = ceiling-low c.height c.scale some in
    record {
      high = c.blocks_high * c.scale;
      whole = long ∙ ap (λ k. (c.blocks_high * c.scale) * k) (mul_comm c.blocks_wide c.scale);
      wide = omega (arith, wide, w, mul-le-mul_left c.scale fits.own_wide);
      lines = omega (arith, high, h, mul-le-mul_left c.scale fits.own_high, mul_comm c.blocks_high c.scale);
    }

pub one-lines : (settings : Settings) (f : Frame) (c : Component) (plane : List ℕ) (lines : List (List ℕ))
    → IsDecodedFrame f
    → (f.process ≡ Lossless → ⊥) → f.components ≡ c ∷ []
    → length plane ≡ (c.blocks_high * c.scale) * (c.blocks_wide * c.scale)
    → length lines ≡ min f.output_height (length plane / (c.scale * c.blocks_wide))
    → HaveBytes (min f.output_width (c.scale * c.blocks_wide)) lines → AreLinesOf (Some (shape_of settings f)) lines
one-lines settings f c plane lines p dct e long rows columns =
    let size = one-made f c (made-of f p) e in
    shown-lines settings f 1 lines (shown-alone settings f (ap length e))
    (covered-lines f c plane lines p dct (whole-covers f c [] plane p e size.0 size.1 long) rows columns)

-- ---- lossless frames

-- a size at full scale
full-size : (n scale : ℕ) → scale ≡ 8 → ceiling (n * scale) 8 ≡ n
full-size n scale e = ap (λ s. ceiling (n * s) 8) e ∙ omega arith

read-size : (f : Frame) (p : IsDecodedFrame f) → f.process ≡ Lossless
    → (f.output_width ≡ f.width) × (f.output_height ≡ f.height)
unfolding frame_at
read-size f p e = grind (arith, common_steps, full-size)

sample-bytes : (precision : ℕ) → sample_size precision ≡ bytes_a_sample precision
sample-bytes precision = grind (arith, common_steps)

sample-lines : (f : Frame) (count : ℕ) (lines : List (List ℕ)) → IsDecodedFrame f → f.process ≡ Lossless
    → count ≡ length f.components → length lines ≡ f.height
    → HaveBytes (f.width * (count * sample_size f.precision)) lines → AreLinesOf (Some (shape_with (length f.components) f)) lines
unfolding line_bytes
sample-lines f count lines p e same high wide =
    let size = read-size f p e in
    let bytes : f.width * (count * sample_size f.precision)
    ≡ f.output_width * (length f.components * bytes_a_sample f.precision) =
    rw (size.0, same, sample-bytes f.precision) refl in
    (high ∙ sym size.1, subst (λ (n : ℕ). HaveBytes n lines) bytes wide)

pub if-sample_lines : (f : Frame) (count : ℕ) (result : Result (List (List ℕ)) Error) → IsDecodedFrame f
    → f.process ≡ Lossless → count ≡ length f.components
    → IfOk result (λ l. (length l ≡ f.height) × HaveBytes (f.width * (count * sample_size f.precision)) l)
    → IfOk result (λ l. AreLinesOf (Some (shape_with (length f.components) f)) l)
if-sample_lines f count result p e same h =
    IfOk-weaker result _ _ (λ l q. sample-lines f count l p e same q.0 q.1) h

-- ---- the bytes of a picture

-- What holds of one component, of three and of four holds of as many as are decoded.
decoded-counts : (P : ℕ → Type 0) (n : ℕ) → is_decoded_count n ≡ true → P 1 → P 3 → P 4 → P n
decoded-counts P n h one three four = grind (arith, common_steps, eqb-true)

-- as many bytes as components, of 8 bits
format-bytes : (n : ℕ) → is_decoded_count n ≡ true → bytes_a_pixel (format_of n 8) ≡ n
format-bytes n h = decoded-counts (λ k. bytes_a_pixel (format_of k 8) ≡ k) n h refl refl refl

turned : (w h n k : ℕ) → k ≡ n → h * (n * w) ≡ w * h * k
turned w h n k e = grind (arith, common_steps, mul_comm, mul_assoc)

by-info : (n : ℕ) (f : Frame) (pixels : List ℕ) → is_decoded_count n ≡ true → f.precision ≡ 8
    → length pixels ≡ f.output_height * (n * f.output_width)
    → length pixels ≡ (info_with n f).width * (info_with n f).height * bytes_a_pixel (info_with n f).pixel_format
by-info n f pixels count eight long = grind (arith, common_steps, turned, format-bytes)

-- that of its lines
all-bytes : (n : ℕ) (f : Frame) → f.output_height * line_bytes (shape_with n f) ≡ picture_size (shape_with n f)
unfolding line_bytes picture_size
all-bytes n f = grind (arith, common_steps, mul_comm, mul_assoc)

has-bytes : (x : CodingProcess) (info : ImageInfo) (pixels : List ℕ)
    → ((x ≡ Lossless → ⊥) → length pixels ≡ info.width * info.height * bytes_a_pixel info.pixel_format)
    → HasBytes x info pixels
has-bytes Lossless info pixels h = tt
has-bytes DctSequential info pixels h = h (λ e. let n : ⊥ = cc in n)
has-bytes DctProgressive info pixels h = h (λ e. let n : ⊥ = cc in n)

whole-by : (n : ℕ) (f : Frame) (pixels : List ℕ) → IsDecodedFrame f → is_decoded_count n ≡ true
    → length pixels ≡ f.output_height * line_bytes (shape_with n f) → IsWhole (Some (shape_with n f)) pixels
whole-by n f pixels p count long = (
  long ∙ all-bytes n f,
  has-bytes f.process (info_with n f) pixels (λ dct.
      let b = precision-8 f p dct in
      by-info n f pixels count b (long ∙ ap (λ k. f.output_height * k) (sym (by-samples n f b)))),
)

-- The lines of a picture together are whole.
pub frame-whole : (settings : Settings) (f : Frame) (lines : List (List ℕ)) (pixels : List ℕ)
    → IsDecodedFrame f → AreLinesOf (Some (shape_of settings f)) lines → pixels ≡ concat lines
    → IsWhole (Some (shape_of settings f)) pixels
frame-whole settings f lines pixels p are is =
    let n = samples_shown settings f in
    whole-by n f pixels p (shown-count settings f p)
    (ap length is ∙ (together-length (line_bytes (shape_with n f)) lines are.1
    ∙ ap (λ k. k * line_bytes (shape_with n f)) are.0))

pub lines-whole : (settings : Settings) (found : Found) (lines : List (List ℕ)) (pixels : List ℕ)
    → HasDecodedFrame found → AreLinesOf (option_map (shape_of settings) found.said.frame) lines
    → pixels ≡ concat lines → IsWhole (option_map (shape_of settings) found.said.frame) pixels
lines-whole settings found lines pixels p are is = go found.said.frame refl are
  where
    go : (o : Option Frame) → found.said.frame ≡ o → AreLinesOf (option_map (shape_of settings) o) lines
        → IsWhole (option_map (shape_of settings) o) pixels
    go None e are = tt
    go (Some f) e are = frame-whole settings f lines pixels (p f e) are is

-- ---- the samples of a pixel

by-format : (n precision : ℕ) → is_decoded_count n ≡ true → n ≡ samples_a_pixel (format_of n precision)
by-format n precision h = grind (arith, common_steps, decoded-counts)

counted : (settings : Settings) (found : Found) → HasDecodedFrame found
    → IsCounted (option_map (shape_of settings) found.said.frame)
counted settings found p = go found.said.frame refl
  where
    go : (o : Option Frame) → found.said.frame ≡ o → IsCounted (option_map (shape_of settings) o)
    go None e = tt
    go (Some f) e = by-format (samples_shown settings f) f.precision (shown-count settings f (p f e))

pub if-counted : {X : Type 0} (settings : Settings) (found : Found) (result : Result X Error)
    → OnOk result (HasDecodedFrame found)
    → IfOk result (λ x. IsCounted (option_map (shape_of settings) found.said.frame))
if-counted settings found (Ok x) p = counted settings found p
if-counted settings found (Err e) p = tt
