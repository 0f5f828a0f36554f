-- Pictures that are made smaller: their sizes, their bytes and their lines.
use Rattle.std.proofs.Common.{arith, ◌≡◌, ◌∙◌, ◌+◌, ◌*◌, ◌<◌, ◌≤◌, ℕ, zero, suc, Bool, true, false, List, [], ◌∷◌, ◌++◌}
use Rattle.std.proofs.Common.{ap, drop, length, length-append, length-drop, length-take, refl, sym, take}
use Rattle.std.proofs.Common.{mul_assoc, ◌⊎◌, inl, inr, ◌/◌, ◌%◌}
use Rattle.std.proofs.lemmas.Bool.{cases_lt, le-leb, le-ltb, lt-leb, lt-ltb}
use Rattle.std.proofs.lemmas.List.{drop-drop, take-append-drop}
use Rattle.std.specs.List.{concat}
use Rattle.std.specs.Prelude.{if◌then◌else◌, nat_le, nat_lt, slice_index_or}
use Rattle.jpeg_decoder.specs.Bytes.{HaveBytes, bytes_a_sample, samples_a_pixel}
use Rattle.jpeg_meaning.specs.declared.images.ImageInfo.{ImageInfo}
use Rattle.jpeg_meaning.specs.declared.images.PixelFormat.{PixelFormat}
use Rattle.jpeg_meaning.specs.declared.images.PixelFormat.TheVariants.{L8, L16, RGB24, CMYK32}
use Rattle.jpeg_orientation.specs.declared.turns.Turn.{Turn}
use Rattle.jpeg_segments.specs.declared.frame.Dimensions.{Dimensions}
use Rattle.zaxbriar_samples.specs.Boxes.{box_line, box_pixel, component_bytes, components_a_pixel, is_smaller}
use Rattle.zaxbriar_samples.specs.Boxes.{area_of, lower_first_bytes, mean_in, reduced_bytes, reduction_of, resized}
use Rattle.zaxbriar_samples.specs.Boxes.{texts_below}
use Rattle.zaxbriar_samples.specs.DecodedPictures.{Decoded, decoded}
use Rattle.zaxbriar_samples.specs.Parts.{pixel_bytes}
use Rattle.zaxbriar_samples.specs.Png.{line_bytes}
use Rattle.zaxbriar_samples.specs.Samples.{is_wide}
use Rattle.zaxbriar_samples.specs.Sizes.{dimensions, fitted}
use Rattle.zaxbriar_calls.specs.Boxed.{IsOwnOrSmaller, fit_samples, fit_turn, is_fitted, most_stored}
use Rattle.zaxbriar_calls.specs.Boxed.{smaller_size, turned_info, turned_size}
use Rattle.zaxbriar_calls.specs.BoxedLines.{cut_in_lines}
use Rattle.zaxbriar_calls.specs.Lines.{stored_bytes}
use Rattle.zaxbriar_calls.specs.declared.options.Options.{Options}

-- ---- the size

-- what isn't to fit within a size keeps its own
pub own-turn : (o : Options) (info : ImageInfo) (turn : Turn) → is_fitted o ≡ false → fit_turn o info turn ≡ turn
own-turn o info turn unasked = rw unasked refl

smaller-or-own : (info : ImageInfo) (size : Dimensions) (smaller : Bool) → is_smaller size info ≡ smaller
    → IsOwnOrSmaller info (if smaller then size else dimensions info.width info.height)
smaller-or-own info size true is = λ none. absurd (let n : ⊥ = cc in n)
smaller-or-own info size false is = λ none. refl

fit-or-own : (o : Options) (info : ImageInfo) (turn : Turn) (asked : Bool)
    → IsOwnOrSmaller (turned_info info turn) (if asked
    then smaller_size (turned_info info turn) (fitted (turned_info info turn) (most_stored o turn.orientation))
    else turned_size turn)
fit-or-own o info turn true =
    let size = fitted (turned_info info turn) (most_stored o turn.orientation) in
    smaller-or-own (turned_info info turn) size (is_smaller size (turned_info info turn)) refl
fit-or-own o info turn false = λ none. refl

pub own-or-smaller : (o : Options) (info : ImageInfo) (turn : Turn)
    → IsOwnOrSmaller (turned_info info turn) (turned_size (fit_turn o info turn))
own-or-smaller o info turn = fit-or-own o info turn (is_fitted o)

-- ---- the bytes of a pixel and of a line

same-samples : (format : PixelFormat) → samples_a_pixel format ≡ components_a_pixel format
same-samples L8 = refl
same-samples L16 = refl
same-samples RGB24 = refl
same-samples CMYK32 = refl

sample-size : (precision : ℕ) → ◌≡◌ {A = ℕ} (bytes_a_sample precision) (if is_wide precision then 2 else 1)
sample-size precision = go (cases_lt 8 precision)
  where
    go : (8 < precision) ⊎ (precision ≤ 8)
        → ◌≡◌ {A = ℕ} (if nat_le precision 8 then 1 else 2) (if nat_lt 8 precision then 2 else 1)
    go (inl wide) = rw (lt-leb precision 8 wide, lt-ltb 8 precision wide) refl
    go (inr narrow) = rw (le-leb precision 8 narrow, le-ltb 8 precision narrow) refl

pub same-pixel : (info : ImageInfo) (precision : ℕ) → stored_bytes info precision ≡ pixel_bytes info precision
same-pixel info precision = λ i. same-samples info.pixel_format i * sample-size precision i

pub line-of-pixels : (info : ImageInfo) (precision stored : ℕ) → stored ≡ pixel_bytes info precision
    → info.width * stored ≡ line_bytes info precision
line-of-pixels info precision stored is =
    ap (λ n. info.width * n) is
    ∙ sym (mul_assoc info.width (components_a_pixel info.pixel_format) (if is_wide precision then 2 else 1))

-- ---- the bytes of a picture that was made smaller

texts-length : (count n : ℕ) (f : ℕ → List ℕ) → ((i : ℕ) → length (f i) ≡ n)
    → length (texts_below count f) ≡ count * n
unfolding texts_below
texts-length zero n f all = omega arith
texts-length (suc count) n f all =
    let before : length (texts_below count f) ≡ count * n = texts-length count n f all in
    let more : suc count * n ≡ count * n + n = omega arith in
    omega (arith, length-append (texts_below count f) (f count), before, all count, more)

two-or-one : (wide : Bool) (low high : ℕ)
    → length (if wide then low ∷ high ∷ [] else low ∷ []) ≡ (if wide then 2 else 1)
two-or-one true low high = refl
two-or-one false low high = refl

sample-long : (precision sample : ℕ)
    → length (lower_first_bytes precision sample) ≡ (if is_wide precision then 2 else 1)
unfolding lower_first_bytes
sample-long precision sample = two-or-one (is_wide precision) (sample % 256) (sample / 256 % 256)

-- how many bytes the samples of a pixel have
component-long : (pixels : List ℕ) (info : ImageInfo) (precision : ℕ) (size : Dimensions) (y x component : ℕ)
    → length (component_bytes pixels (reduction_of info precision size)
    (area_of (reduction_of info precision size) x y) component) ≡ (if is_wide precision then 2 else 1)
unfolding component_bytes
component-long pixels info precision size y x component =
    sample-long precision (mean_in pixels (reduction_of info precision size)
    (area_of (reduction_of info precision size) x y) component)

pixel-long : (pixels : List ℕ) (info : ImageInfo) (precision : ℕ) (size : Dimensions) (y x : ℕ)
    → length (box_pixel pixels (reduction_of info precision size) y x) ≡ pixel_bytes info precision
unfolding box_pixel
pixel-long pixels info precision size y x = texts-length (components_a_pixel info.pixel_format)
    (if is_wide precision then 2 else 1)
    (component_bytes pixels (reduction_of info precision size) (area_of (reduction_of info precision size) x y))
    (component-long pixels info precision size y x)

row-long : (pixels : List ℕ) (info : ImageInfo) (precision : ℕ) (size : Dimensions) (y : ℕ)
    → length (box_line pixels (reduction_of info precision size) y) ≡ size.width * pixel_bytes info precision
unfolding box_line
row-long pixels info precision size y = texts-length size.width (pixel_bytes info precision)
    (box_pixel pixels (reduction_of info precision size) y) (pixel-long pixels info precision size y)

reduced-long : (pixels : List ℕ) (info : ImageInfo) (precision : ℕ) (size : Dimensions)
    → length (reduced_bytes pixels (reduction_of info precision size))
    ≡ size.height * (size.width * pixel_bytes info precision)
unfolding reduced_bytes
reduced-long pixels info precision size = texts-length size.height (size.width * pixel_bytes info precision)
    (box_line pixels (reduction_of info precision size)) (row-long pixels info precision size)

chosen : (test : Bool) (a b : Decoded) → test ≡ true → (if test then a else b) ≡ a
chosen true a b h = refl
chosen false a b h = absurd (let n : ⊥ = cc in n)

smaller-long : (info : ImageInfo) (precision : ℕ) (size : Dimensions) (pixels : List ℕ) (stored : ℕ)
    → is_smaller size info ≡ true → stored ≡ pixel_bytes info precision
    → length (fit_samples info precision size pixels) ≡ size.height * (size.width * stored)
smaller-long info precision size pixels stored smaller is =
    ap (λ (p : Decoded). length p.pixels) (chosen (is_smaller size info)
    (decoded (resized info size) precision (reduced_bytes pixels (reduction_of info precision size)))
    (decoded info precision pixels) smaller)
    ∙ reduced-long pixels info precision size
    ∙ ap (λ n. size.height * (size.width * n)) (sym is)

-- ---- the lines of a picture in memory

pub cut-height : (bytes height : ℕ) (samples : List ℕ) → length (cut_in_lines bytes height samples) ≡ height
unfolding cut_in_lines
cut-height bytes zero samples = refl
cut-height bytes (suc height) samples = omega (arith, cut-height bytes height (drop bytes samples))

rest-long : (bytes height : ℕ) (samples : List ℕ) → length samples ≡ suc height * bytes
    → length (drop bytes samples) ≡ height * bytes
rest-long bytes height samples long =
    let whole : suc height * bytes ≡ bytes + height * bytes = omega arith in
    omega (arith, long, whole, length-drop {A = ℕ})

pub cut-bytes : (bytes height : ℕ) (samples : List ℕ) → length samples ≡ height * bytes
    → HaveBytes bytes (cut_in_lines bytes height samples)
unfolding cut_in_lines
cut-bytes bytes zero samples long = tt
cut-bytes bytes (suc height) samples long =
    let whole : suc height * bytes ≡ bytes + height * bytes = omega arith in (
      omega (arith, long, whole, length-take {A = ℕ}),
      cut-bytes bytes height (drop bytes samples) (rest-long bytes height samples long),
    )

none-left : (samples : List ℕ) → length samples ≡ 0 → [] ≡ samples
none-left [] none = refl
none-left (sample ∷ samples) none = absurd (omega (arith, none))

pub cut-together : (bytes height : ℕ) (samples : List ℕ) → length samples ≡ height * bytes
    → concat (cut_in_lines bytes height samples) ≡ samples
unfolding cut_in_lines
cut-together bytes zero samples long =
    let none : 0 * bytes ≡ 0 = omega arith in none-left samples (long ∙ none)
cut-together bytes (suc height) samples long =
    ap (λ (l : List ℕ). take bytes samples ++ l)
    (cut-together bytes height (drop bytes samples) (rest-long bytes height samples long))
    ∙ take-append-drop bytes samples

pub cut-line : (bytes height row : ℕ) (samples : List ℕ) → row < height
    → slice_index_or (cut_in_lines bytes height samples) row [] ≡ take bytes (drop (row * bytes) samples)
unfolding cut_in_lines
cut-line bytes zero row samples low = absurd (omega (arith, low))
cut-line bytes (suc height) zero samples low =
    let none : 0 ≡ 0 * bytes = omega arith in ap (λ n. take bytes (drop n samples)) none
cut-line bytes (suc height) (suc row) samples low =
    let next : bytes + row * bytes ≡ suc row * bytes = omega arith in
    cut-line bytes height row (drop bytes samples) (omega (arith, low))
    ∙ ap (λ (l : List ℕ). take bytes l) (drop-drop (row * bytes) bytes samples)
    ∙ ap (λ n. take bytes (drop n samples)) next

-- a picture that was made smaller is as long as its lines
pub lines-long : (info : ImageInfo) (precision : ℕ) (size : Dimensions) (samples items : List ℕ)
    (stored height width bytes : ℕ) → is_smaller size info ≡ true → stored ≡ pixel_bytes info precision
    → items ≡ fit_samples info precision size samples → height ≡ size.height → width ≡ size.width → bytes ≡ stored
    → length items ≡ height * (width * bytes)
lines-long info precision size samples items stored height width bytes smaller is made h w b =
    ap (λ (l : List ℕ). length l) made ∙ smaller-long info precision size samples stored smaller is
    ∙ (λ i. sym h i * (sym w i * sym b i))
