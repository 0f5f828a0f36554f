-- The first rows of a picture are made of the first lines of its components.
use Rattle.std.proofs.lemmas.Grind.{common_steps}
use Rattle.std.proofs.Common.{◌≡◌, ℕ, zero, suc, ◌+◌, ◌*◌, ◌/◌, ◌<◌, ◌≤◌, List, [], ◌∷◌, ◌++◌, map, length}
use Rattle.std.proofs.Common.{min, take, refl, sym, ap, ap₂, ◌∙◌, subst, arith}
use Rattle.std.proofs.Math.Seq.{take-append-add}
use Rattle.std.proofs.Math.Nat.{div-lt_iff_lt-mul, div-mul-le_self, mul_comm}
use Rattle.std.specs.List.{concat, range_with_len}
use Rattle.jpeg_pixels.specs.declared.upsample_rows.UpsampleRule.{UpsampleRule}
use Rattle.jpeg_pixels.specs.declared.upsample_rows.UpsampleRule.TheVariants.{H1V1, H2V1, H1V2, H2V2, Generic}
use Rattle.jpeg_pixels.specs.Pictures.{Source, converted_picture, lines_of, picture_line}
use Rattle.jpeg_pixels.specs.PicturesView.{IsFor}
use Rattle.jpeg_pixels.specs.Upsampling.{across, blended, down, far_index, line_sum, upsampled}
use Rattle.jpeg_segments.specs.Frame.{ceiling}
use Rattle.jpeg_meaning.proofs.Order.FrameShapes.{below-ceiling}
use Rattle.jpeg_pixels.specs.declared.color_convert.ColorConvert.{ColorConvert}
use Rattle.jpeg_pixels.specs.Colour.{line_bytes}
use Rattle.jpeg_pixels.proofs.PictureLines.{picture_line-long}
use Rattle.jpeg_meaning.proofs.Pictures.UpsampledFactors.{Agree, AllReach, SamePlane, map-same}
use Rattle.jpeg_evidence.specs.CompleteRows.{lines_needed}

-- ---- one sample

half-in : (w x : ℕ) → x < 2 * w → x / 2 < w
half-in w x lt = omega arith

far-in : (w x : ℕ) → 0 < w → x < 2 * w → far_index w x < w
far-in w x some lt = grind (arith, common_steps)

half-line : (h k y : ℕ) → k ≤ 2 * h → y < k → y / 2 < min h (k / 2 + 1)
half-line h k y high lt = grind (arith, common_steps)

far-line : (h k y : ℕ) → 0 < h → k ≤ 2 * h → y < k → far_index h y < min h (k / 2 + 1)
far-line h k y some high lt = grind (arith, common_steps)

-- a line that is repeated
repeated : (h v k y : ℕ) → 0 < v → k ≤ v * h → y < k → y / v < min h (ceiling k v)
repeated h v k y some high lt =
    let e = mul_comm v h in
    let a : y / v < h = (div-lt_iff_lt-mul some).1 (omega arith) in
    let b : y / v < ceiling k v = (below-ceiling (y / v) k v some).1
    (let d = div-mul-le_self y v in omega arith) in
    grind (arith, common_steps)

-- a sample of the first rows is made of those of the first lines
upsampled-first : (rule : UpsampleRule) (w h width k x y : ℕ) (p q : ℕ → ℕ → ℕ) → 0 < w → 0 < h → 0 < across rule
    → 0 < down rule → width ≤ across rule * w → k ≤ down rule * h → x < width → y < k
    → Agree w (min h (lines_needed rule k)) p q → upsampled rule p w h x y ≡ upsampled rule q w h x y
unfolding upsampled
upsampled-first H1V1 w h width k x y p q a b c d e f l m same = same x y (omega arith) (omega arith)
upsampled-first H2V1 w h width k x y p q a b c d e f l m same =
    ap₂ blended (same (x / 2) y (half-in w x (omega arith)) (omega arith))
    (same (far_index w x) y (far-in w x a (omega arith)) (omega arith))
upsampled-first H1V2 w h width k x y p q a b c d e f l m same =
    ap₂ blended (same x (y / 2) (omega arith) (half-line h k y f m))
    (same x (far_index h y) (omega arith) (far-line h k y b f m))
upsampled-first H2V2 w h width k x y p q a b c d e f l m same =
    ap₂ (λ (s t : ℕ). (3 * s + t + 8) / 16) (sums (x / 2) (half-in w x (omega arith)))
    (sums (far_index w x) (far-in w x a (omega arith)))
  where
    sums : (i : ℕ) → i < w → line_sum p h y i ≡ line_sum q h y i
    sums i lt = ap₂ (λ (s t : ℕ). 3 * s + t) (same i (y / 2) lt (half-line h k y f m))
        (same i (far_index h y) lt (far-line h k y b f m))
upsampled-first (Generic u v) w h width k x y p q a b c d e f l m same =
    let t = mul_comm u w in
    same (x / u) (y / v) ((div-lt_iff_lt-mul c).1 (omega arith)) (repeated h v k y d f m)

-- ---- lines

-- planes that are the same in the first lines that these rows need
abbrev pub FirstSame : ℕ → List Source → List (List ℕ) → List (List ℕ) → Type 0
FirstSame k [] ps qs = Unit {0}
FirstSame k (s ∷ sources) [] qs = ⊥
FirstSame k (s ∷ sources) (p ∷ ps) [] = ⊥
FirstSame k (s ∷ sources) (p ∷ ps) (q ∷ qs) =
    SamePlane s.stride s.width (min s.height (lines_needed s.rule k)) p q × FirstSame k sources ps qs

lines-first : (sources : List Source) (ps qs : List (List ℕ)) (width height k row : ℕ)
    → AllReach sources width height → k ≤ height → row < k → FirstSame k sources ps qs
    → lines_of sources ps width row ≡ lines_of sources qs width row
unfolding lines_of
lines-first [] ps qs width height k row c few low same = refl
lines-first (s ∷ sources) (p ∷ ps) (q ∷ qs) width height k row c few low same =
    let r = c.0 in
    ap₂ (λ (l : List ℕ) (ls : List (List ℕ)). l ∷ ls)
    (map-same _ _ 0 width (λ x from to.
    upsampled-first s.rule s.width s.height width k x row _ _ r.some_width r.some_height r.some_across r.some_down
    r.wide_enough (let h = r.high_enough in omega arith) (omega arith) low same.0.each))
    (lines-first sources ps qs width height k row c.1 few low same.1)
lines-first (s ∷ sources) [] qs width height k row c few low same = absurd same
lines-first (s ∷ sources) (p ∷ ps) [] width height k row c few low same = absurd same

-- ---- the picture

-- the first pieces of two lists, each of which has the same length
pub first-pieces : (f g : ℕ → List ℕ) (n a h k : ℕ) → k ≤ h → ((y : ℕ) → length (f y) ≡ n)
    → ((y : ℕ) → a ≤ y → y < a + k → f y ≡ g y)
    → take (k * n) (concat (map f (range_with_len a h))) ≡ take (k * n) (concat (map g (range_with_len a h)))
first-pieces f g n a h zero le long same =
    let none : 0 * n ≡ 0 = omega arith in rw none refl
first-pieces f g n a zero (suc k) le long same = absurd (omega arith)
first-pieces f g n a (suc h) (suc k) le long same =
    let first : f a ≡ g a = same a (omega arith) (omega arith) in
    let more = first-pieces f g n (a + 1) h k (omega arith) long
    (λ y low high. same y (omega arith) (omega arith)) in
    let own : length (f a) + k * n ≡ suc k * n = omega (arith, long a) in
    let x = concat (map f (range_with_len (a + 1) h)) in
    let z = concat (map g (range_with_len (a + 1) h)) in
    subst (λ (m : ℕ). take m (f a ++ x) ≡ take m (g a ++ z)) own
    (take-append-add (f a) x (k * n) ∙ ap (λ (l : List ℕ). f a ++ l) more
    ∙ sym (take-append-add (f a) z (k * n)) ∙ ap (λ (l : List ℕ). take (length (f a) + k * n) (l ++ z)) first)

-- The first rows of a picture of several components.
pub picture-first : (convert : ColorConvert) (sources : List Source) (ps qs : List (List ℕ)) (width height k : ℕ)
    → AllReach sources width height → k ≤ height → length ps ≡ length sources → IsFor (length sources) convert
    → FirstSame k sources ps qs
    → take (k * (length sources * width)) (converted_picture convert sources ps width height)
    ≡ take (k * (length sources * width)) (converted_picture convert sources qs width height)
unfolding converted_picture picture_line
picture-first convert sources ps qs width height k c few count fits same =
    first-pieces (picture_line convert sources ps width) (picture_line convert sources qs width)
    (length sources * width) 0 height k few (λ y. picture_line-long convert sources ps width y count fits)
    (λ y low high. lines-same y (omega arith))
  where
    lines-same : (y : ℕ) → y < k
        → picture_line convert sources ps width y ≡ picture_line convert sources qs width y
    lines-same y lt = ap (line_bytes convert width) (lines-first sources ps qs width height k y c few lt same)
