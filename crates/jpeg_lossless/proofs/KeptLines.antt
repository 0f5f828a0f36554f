-- The lines of a picture that are kept: those of its frame, their bytes, and how they are written.
use Rattle.std.proofs.lemmas.Grind.{common_steps}
use Rattle.std.proofs.Common.{◌≡◌, ℕ, zero, suc, ◌+◌, ◌*◌, ◌/◌, ◌<◌, ◌≤◌, List, [], ◌∷◌, ◌++◌, length, take, map}
use Rattle.std.proofs.Common.{slice_index_or, arith, refl, sym, ap, ap₂, ◌∙◌, subst, true, append-nil, length-append}
use Rattle.std.proofs.Common.{◌-◌, Global, Vec, drop, length-drop, length-take, replicate}
use Rattle.std.specs.Vec.{with_items}
use Rattle.std.proofs.Math.Nat.{mul-le-mul_right}
use Rattle.std.proofs.lemmas.List.{length-map, length-replicate, take_all, take_at, take_more}
use borrow.Rule.Slice.PartMut.{put_mid}
use Rattle.std.proofs.lemmas.List.Folds.{concat-append}
use Rattle.std.proofs.lemmas.List.FromFn.{get_or-map-range_with_len, length-map-range_with_len}
use Rattle.std.proofs.lemmas.List.FromFn.{length-range_with_len}
use Rattle.std.specs.List.{AllByRecursion, concat, range_with_len}
use Rattle.jpeg_segments.specs.Frame.{AllHaveSampling, Component, Frame, HasSampling, greatest, most_across}
use Rattle.jpeg_segments.specs.Frame.{most_down}
use Rattle.jpeg_segments.specs.FrameView.{component_in, frame_in}
use Rattle.jpeg_segments.specs.declared.frame.Component.{Component as Given}
use Rattle.jpeg_segments.specs.declared.frame.FrameInfo.{FrameInfo}
use Rattle.jpeg_segments.proofs.FrameLemmas.{greatest-some}
use Rattle.jpeg_lossless.specs.Pictures.{AreLong, ArePlanesOf, Layer, Reaches, bytes_at, layer_of, layers_of}
use Rattle.jpeg_lossless.specs.Pictures.{line_from, lines_across, lossless_picture, sample_bytes, sample_line, sample_picture}
use Rattle.jpeg_lossless.specs.Pictures.{sample_pixel, sample_size}
use Rattle.jpeg_lossless.specs.Samplings.{HasLine, layers_in, sampling_in}
use Rattle.jpeg_lossless.specs.LinesView.{AreKept, layers_kept, lines_kept}
use Rattle.jpeg_lossless.specs.declared.picture.SampleLines.TheInside.{Inside}
use Rattle.jpeg_lossless.specs.declared.stretching.Sampling.{Sampling}
use Rattle.jpeg_lossless.proofs.FilledLines.{take-put}
use Rattle.jpeg_lossless.proofs.Sizes.{put_back}
use Rattle.jpeg_lossless.proofs.ImageLoops.{inside, picture-layers, through, within}
use Rattle.jpeg_lossless.proofs.StretchedLines.{from-none, line_of_lines, lines_long}

-- ---- of a frame

pub layers-same : (cs : List Given) (planes : List (List ℕ))
    → layers_in (map sampling_in cs) planes ≡ layers_of (map component_in cs) planes
unfolding layers_in layers_of
layers-same [] [] = refl
layers-same [] (p ∷ planes) = refl
layers-same (c ∷ cs) [] = refl
layers-same (c ∷ cs) (p ∷ planes) =
    ap (λ (l : List Layer). layer_of (component_in c) p ∷ l) (layers-same cs planes)

-- the greatest factors of a frame, and its width
pub record IsPictureOf (frame : Frame) (picture : Sampling) : Type 0 where
  pub horizontal : picture.horizontal ≡ most_across frame.components
  pub vertical : picture.vertical ≡ most_down frame.components
  pub width : picture.width ≡ frame.width

has-line : (frame : Frame) (picture : Sampling) (y : ℕ) (c : Component) (plane : List ℕ)
    → IsPictureOf frame picture → y < frame.height → c.factors.horizontal ≤ picture.horizontal
    → length plane ≡ c.width * c.height → HasSampling c → Reaches frame c
    → HasLine picture y (layer_of c plane)
has-line frame picture y c plane of h most long sampling reaches =
    let some : 0 < picture.vertical
    = subst (λ (v : ℕ). 0 < v) (sym of.vertical) (greatest-some (λ f. f.vertical) (map (λ c. c.factors) frame.components)) in
    let down : frame.height * c.factors.vertical ≤ c.height * picture.vertical
    = subst (λ (v : ℕ). frame.height * c.factors.vertical ≤ c.height * v) (sym of.vertical) reaches.down in
    let row = inside y frame.height c.factors.vertical picture.vertical c.height h sampling.vertical_some some down in
    record {
      some = sampling.horizontal_some;
      most = most;
      across = rw (of.width, of.horizontal) reaches.across;
      inside = rw long (within (y * c.factors.vertical / picture.vertical) c.width c.height row);
    }

pub has-lines : (frame : Frame) (picture : Sampling) (y : ℕ) (cs : List Component) (planes : List (List ℕ))
    → IsPictureOf frame picture → y < frame.height
    → greatest (λ f. f.horizontal) (map (λ c. c.factors) cs) ≤ picture.horizontal
    → ArePlanesOf cs planes → AllHaveSampling cs → AllByRecursion (Reaches frame) cs
    → AllByRecursion (HasLine picture y) (layers_of cs planes)
unfolding ArePlanesOf AllHaveSampling layers_of
has-lines frame picture y [] planes of h most w s r = tt
has-lines frame picture y (c ∷ cs) [] of h most w s r = absurd w
has-lines frame picture y (c ∷ cs) (p ∷ planes) of h most w s r = (
  has-line frame picture y c p of h (omega arith) w.0 s.0 r.0,
  has-lines frame picture y cs planes of h (omega arith) w.1 s.1 r.1,
)

-- The lines one after the other are the picture.
pub lines_together : (f : FrameInfo) (picture : Sampling) (samplings : List Sampling) (planes : List (List ℕ))
    → IsPictureOf (frame_in f) picture → samplings ≡ map sampling_in f.components.items
    → length planes ≡ length (frame_in f).components
    → concat (map (sample_line f.precision picture.horizontal picture.vertical picture.width
    (layers_in samplings planes)) (range_with_len 0 f.image_size.height))
    ≡ lossless_picture (frame_in f) planes
unfolding sample_picture
lines_together f picture samplings planes of are count =
    rw (are, of.horizontal, of.vertical, of.width, layers-same) (picture-layers (frame_in f) planes count)

-- ---- how many bytes a line has

-- pieces of n entries each, put together
each-length : {A : Type 0} (f : A → List ℕ) (n : ℕ) (xs : List A) → ((x : A) → length (f x) ≡ n)
    → length (concat (map f xs)) ≡ length xs * n
each-length f n [] sizes = let e : 0 ≡ 0 * n = omega arith in e
each-length f n (x ∷ xs) sizes =
    grind (arith, common_steps, length-append, sizes x, each-length f n xs sizes)

pub sample-length : (precision v : ℕ) → length (sample_bytes precision v) ≡ sample_size precision
sample-length precision v = grind (arith, common_steps)

layers-count : (samplings : List Sampling) (planes : List (List ℕ)) → length samplings ≡ length planes
    → length (layers_in samplings planes) ≡ length planes
unfolding layers_in
layers-count [] [] e = refl
layers-count [] (p ∷ planes) e = absurd (omega arith)
layers-count (s ∷ samplings) [] e = refl
layers-count (s ∷ samplings) (p ∷ planes) e = ap suc (layers-count samplings planes (omega arith))

line_size : (precision h v width y : ℕ) (samplings : List Sampling) (planes : List (List ℕ))
    → length samplings ≡ length planes
    → length (sample_line precision h v width (layers_in samplings planes) y)
    ≡ width * (length planes * sample_size precision)
line_size precision h v width y samplings planes e =
    let layers = layers_in samplings planes in
    let pixel : (x : ℕ) → length (sample_pixel precision h v layers y x) ≡ length layers * sample_size precision
    = λ x. each-length _ (sample_size precision) layers (λ l. sample-length precision _) in
    each-length (sample_pixel precision h v layers y) (length layers * sample_size precision)
    (range_with_len 0 width) pixel
    ∙ rw (length-range_with_len 0 width, layers-count samplings planes e) refl

all-made : (f : ℕ → List ℕ) (n from k : ℕ) → ((x : ℕ) → length (f x) ≡ n)
    → AllByRecursion (λ l. length l ≡ n) (map f (range_with_len from k))
all-made f n from zero sizes = tt
all-made f n from (suc k) sizes = (sizes from, all-made f n (from + 1) k sizes)

-- ---- where each component has a sample of each pixel

pixel-plain : (precision : ℕ) (picture : Sampling) (y x : ℕ) (samplings : List Sampling) (planes : List (List ℕ))
    → length samplings ≡ length planes → AllByRecursion (λ s. s ≡ picture) samplings
    → 1 ≤ picture.horizontal → 1 ≤ picture.vertical
    → sample_pixel precision picture.horizontal picture.vertical (layers_in samplings planes) y x
    ≡ bytes_at precision planes (y * picture.width + x)
unfolding layers_in bytes_at
pixel-plain precision picture y x [] [] e plain h v = refl
pixel-plain precision picture y x [] (p ∷ planes) e plain h v = absurd (omega arith)
pixel-plain precision picture y x (s ∷ samplings) [] e plain h v = absurd (omega arith)
pixel-plain precision picture y x (s ∷ samplings) (p ∷ planes) e plain h v =
    rw (
      plain.0,
      through y picture.vertical v,
      through x picture.horizontal h,
      pixel-plain precision picture y x samplings planes (omega arith) plain.1 h v,
    ) refl

pub plain_line : (precision : ℕ) (picture : Sampling) (y : ℕ) (samplings : List Sampling) (planes : List (List ℕ))
    → length samplings ≡ length planes → AllByRecursion (λ s. s ≡ picture) samplings
    → 1 ≤ picture.horizontal → 1 ≤ picture.vertical
    → sample_line precision picture.horizontal picture.vertical picture.width (layers_in samplings planes) y
    ≡ line_from precision planes (y * picture.width) picture.width
unfolding line_from
plain_line precision picture y samplings planes e plain h v =
    (λ i. concat (map (λ x. pixel-plain precision picture y x samplings planes e plain h v i)
    (range_with_len 0 picture.width)))

pub plain_long : (picture : Sampling) (y : ℕ) (samplings : List Sampling) (planes : List (List ℕ))
    → length samplings ≡ length planes → AllByRecursion (λ s. s ≡ picture) samplings
    → AllByRecursion (HasLine picture y) (layers_in samplings planes) → 1 ≤ picture.vertical
    → AreLong (y * picture.width + picture.width) planes
unfolding layers_in AreLong
plain_long picture y [] [] e plain own v = tt
plain_long picture y [] (p ∷ planes) e plain own v = absurd (omega arith)
plain_long picture y (s ∷ samplings) [] e plain own v = tt
plain_long picture y (s ∷ samplings) (p ∷ planes) e plain own v = (
  rw (plain.0, through y picture.vertical v) at own.0.inside,
  plain_long picture y samplings planes (omega arith) plain.1 own.1 v,
)

-- ---- all lines

pub taken_more : (lines : List (List ℕ)) (i : ℕ) → i < length lines
    → concat (take (i + 1) lines) ≡ concat (take i lines) ++ slice_index_or lines i []
taken_more lines i h =
    ap concat (take_more lines i [] h)
    ∙ concat-append (take i lines) (slice_index_or lines i [] ∷ [])
    ∙ ap (λ (l : List ℕ). concat (take i lines) ++ l) (append-nil (slice_index_or lines i []))

-- ---- as they are kept

abbrev pub line_kept : Inside → ℕ → List ℕ
line_kept s = sample_line s.precision s.picture.horizontal s.picture.vertical s.picture.width (layers_kept s)

abbrev pub planes_kept : Inside → List (List ℕ)
planes_kept s = map (λ v. v.items) s.planes.items

pub lines_count : (s : Inside) (lines : List (List ℕ)) → lines_kept s ≡ lines → s.height ≡ length lines
lines_count s lines is =
    sym (length-map-range_with_len (line_kept s) 0 s.height) ∙ ap (λ (l : List (List ℕ)). length l) is

pub row_within : (s : Inside) (lines : List (List ℕ)) (row : ℕ) → lines_kept s ≡ lines → row < length lines
    → row < s.height
row_within s lines row is h = omega (arith, lines_count s lines is, h)

pub line_at : (s : Inside) (lines : List (List ℕ)) (row : ℕ) → lines_kept s ≡ lines → row < s.height
    → slice_index_or lines row [] ≡ line_kept s row
line_at s lines row is h =
    ap (λ (l : List (List ℕ)). slice_index_or l row []) (sym is)
    ∙ get_or-map-range_with_len (line_kept s) 0 s.height row row [] h (omega arith)

planes-count : (s : Inside) → AreKept s → length s.samplings.items ≡ length (planes_kept s)
planes-count s kept = kept.count ∙ sym (length-map s.planes.items (λ v. v.items))

line-long : (s : Inside) (y : ℕ) → AreKept s
    → length (line_kept s y) ≡ s.picture.width * (length s.planes.items * sample_size s.precision)
line-long s y kept =
    line_size s.precision s.picture.horizontal s.picture.vertical s.picture.width y s.samplings.items
    (planes_kept s) (planes-count s kept)
    ∙ ap (λ (n : ℕ). s.picture.width * (n * sample_size s.precision)) (length-map s.planes.items (λ v. v.items))

-- each line has the same size
pub size_at : (s : Inside) (lines : List (List ℕ)) (row : ℕ) → AreKept s → lines_kept s ≡ lines
    → row < length lines
    → length (slice_index_or lines row []) ≡ s.picture.width * (length s.planes.items * sample_size s.precision)
size_at s lines row kept is h =
    ap (λ (l : List ℕ). length l) (line_at s lines row is (row_within s lines row is h)) ∙ line-long s row kept

-- a line of planes that have a sample of each pixel
pub plain_at : (s : Inside) (lines : List (List ℕ)) (row width : ℕ) → AreKept s → lines_kept s ≡ lines
    → row < length lines → s.is_plain ≡ true → width ≡ s.picture.width
    → line_from s.precision (planes_kept s) (row * width) width ≡ slice_index_or lines row []
plain_at s lines row width kept is h plain w =
    ap (λ (n : ℕ). line_from s.precision (planes_kept s) (row * n) n) w
    ∙ sym (plain_line s.precision s.picture row s.samplings.items (planes_kept s) (planes-count s kept)
    (kept.plain plain) kept.across kept.down)
    ∙ sym (line_at s lines row is (row_within s lines row is h))

pub plain_room : (s : Inside) (lines : List (List ℕ)) (row width : ℕ) → AreKept s → lines_kept s ≡ lines
    → row < length lines → s.is_plain ≡ true → width ≡ s.picture.width
    → AreLong (row * width + width) (planes_kept s)
plain_room s lines row width kept is h plain w =
    subst (λ (n : ℕ). AreLong (row * n + n) (planes_kept s)) (sym w)
    (plain_long s.picture row s.samplings.items (planes_kept s) (planes-count s kept) (kept.plain plain)
    (kept.own row (row_within s lines row is h)) kept.down)

-- a line of samples that were stretched
pub stretched_at : (s : Inside) (lines made : List (List ℕ)) (row width : ℕ) → lines_kept s ≡ lines
    → row < length lines → width ≡ s.picture.width
    → made ≡ lines_across s.picture.horizontal s.picture.vertical s.picture.width (layers_kept s) row
    → line_from s.precision made 0 width ≡ slice_index_or lines row []
stretched_at s lines made row width is h w e =
    ap₂ (λ (l : List (List ℕ)) (n : ℕ). line_from s.precision l 0 n) e w
    ∙ line_of_lines s.precision s.picture.horizontal s.picture.vertical s.picture.width row s.picture.width
    (layers_kept s) (omega arith)
    ∙ sym (line_at s lines row is (row_within s lines row is h))

pub product_fits : (row width : ℕ) → row ≤ 65535 → width ≤ 65535 → row * width + width < 18446744073709551616
product_fits row width h w = let p : row * width ≤ 65535 * width = mul-le-mul_right width h in omega (arith, p)

pub stretched_room : (s : Inside) (made : List (List ℕ)) (row width : ℕ)
    → made ≡ lines_across s.picture.horizontal s.picture.vertical s.picture.width (layers_kept s) row
    → width ≡ s.picture.width → AreLong (0 + width) made
stretched_room s made row width e w =
    let n : 0 + width ≡ s.picture.width = from-none width ∙ w in
    let long = lines_long s.picture.horizontal s.picture.vertical s.picture.width row (layers_kept s) in
    rw (n, e) long

-- all lines
pub lines_sizes : (s : Inside) → AreKept s → (length (lines_kept s) ≡ s.height) × AllByRecursion
    (λ line. length line ≡ s.picture.width * (length s.planes.items * sample_size s.precision)) (lines_kept s)
lines_sizes s kept = (
  length-map-range_with_len (line_kept s) 0 s.height,
  all-made (line_kept s) (s.picture.width * (length s.planes.items * sample_size s.precision)) 0 s.height
      (λ y. line-long s y kept),
)

-- ---- memory that grows by a line

pub grown_long : (old new room : List ℕ) (was start size : ℕ) → was ≡ length old → start ≡ was
    → new ≡ take (start + size) old ++ replicate (start + size - was) 0 → room ≡ new
    → length room ≡ start + size
grown_long old new room was start size w s e is =
    grind (arith, common_steps, length-append, length-replicate, length-take)

pub grown_same : (old new room : List ℕ) (was start size : ℕ) → was ≡ length old → start ≡ was
    → new ≡ take (start + size) old ++ replicate (start + size - was) 0 → room ≡ new
    → take start room ≡ old
grown_same old new room was start size w s e is =
    let all : take (start + size) old ≡ old = take_all (start + size) old (omega arith) in
    ap (λ (l : List ℕ). take start l)
    (is ∙ e ∙ ap (λ (l : List ℕ). l ++ replicate (start + size - was) 0) all)
    ∙ take_at old (replicate (start + size - was) 0) start (omega arith)

pub rest_long : (room : List ℕ) (start size : ℕ) → length room ≡ start + size
    → length (take (length room - start) (drop start room)) ≡ size
rest_long room start size e = grind (arith, common_steps, length-drop, length-take)

pub line_appended : (v : Vec ℕ Global) (room line old : List ℕ) (start size : ℕ) → room ≡ v.items
    → length room ≡ start + size → take start room ≡ old → length line ≡ size
    → (with_items v (put_mid start (length room - start) room line)).items ≡ old ++ line
line_appended v room line old start size is long same l =
    let put = put_mid start (length room - start) room line in
    let long_put : length put ≡ length room = grind (arith, common_steps, length-append, length-drop, length-take, put_mid) in
    put_back v put (long_put ∙ ap (λ (r : List ℕ). length r) is)
    ∙ sym (take_all (start + size) put (omega (arith, long_put, long)))
    ∙ take-put start size (length room - start) room line (omega (arith, long)) l
    ∙ ap (λ (r : List ℕ). r ++ line) same
