-- Steps of the loops over the lines of a picture in which components have factors of their own.
use Rattle.std.proofs.Common.{◌≡◌, ℕ, zero, suc, ◌+◌, ◌*◌, ◌/◌, ◌<◌, ◌≤◌, List, [], ◌∷◌, ◌++◌}
use Rattle.std.proofs.Common.{length, take, drop, map, set, slice_index, slice_index_or, arith, refl, ap, ap₂, sym}
use Rattle.std.proofs.Common.{◌∙◌, append_assoc, length-drop, rules, subst}
use Rattle.std.proofs.Math.Nat.{add-mul, one-mul}
use Rattle.std.proofs.lemmas.List.{get_or-drop, get_or-take, length-take-le, take_more, take_more_set}
use Rattle.std.proofs.lemmas.List.FromFn.{get_or-map-range_with_len, length-map-range_with_len}
use Rattle.std.proofs.lemmas.List.FromFn.{map-range_with_len_more}
use Rattle.std.proofs.lemmas.Nat.{div-mul-add}
use Rattle.std.specs.List.{AllByRecursion, range_with_len}
use Rattle.jpeg_lossless.specs.Pictures.{AreLong, Layer, bytes_at, sample_line, line_from}
use Rattle.jpeg_lossless.specs.Pictures.{lines_across, layer_sample, sample_pixel}
use Rattle.jpeg_lossless.specs.Samplings.{HasLine, layer_in, layers_in}
use Rattle.jpeg_lossless.specs.declared.stretching.Sampling.{Sampling}
use Rattle.jpeg_lossless.proofs.ImageLoops.{layers_none, at-most, inside, line-grown}
use Rattle.jpeg_lossless.proofs.ImageLoops.{line-more, line-none, through}
use Rattle.std.proofs.lemmas.Grind.{common_steps}

-- ---- a line of a component

-- the samples of a line, in the column that each of n pixels takes
abbrev pub stretched : List ℕ → ℕ → ℕ → ℕ → List ℕ
stretched own factor most n = map (λ x. slice_index own (x * factor / most)) (range_with_len 0 n)

stretched-more : (own : List ℕ) (factor most n : ℕ)
    → stretched own factor most (n + 1) ≡ stretched own factor most n ++ slice_index own (n * factor / most) ∷ []
stretched-more own factor most n =
    map-range_with_len_more (λ x. slice_index own (x * factor / most)) 0 n n (omega arith)

-- a line of the greatest factor
pub copied : (own : List ℕ) (most n : ℕ) → 0 < most → n ≤ length own → take n own ≡ stretched own most most n
copied own most zero m h = refl
copied own most (suc n) m h =
    let s : suc n ≡ n + 1 = omega arith in
    ap (λ (k : ℕ). take k own) s ∙ take_more own n 0 (omega arith)
    ∙ ap₂ (λ (l : List ℕ) (k : ℕ). l ++ slice_index own k ∷ []) (copied own most n m (omega arith))
    (sym (through n most m))
    ∙ sym (stretched-more own most most n) ∙ ap (stretched own most most) (sym s)

pub copied_whole : (own : List ℕ) (most factor width : ℕ) → 1 ≤ factor → factor ≡ most
    → width * factor ≤ length own * most → take width own ≡ stretched own factor most width
copied_whole own most factor width some e h = grind (arith, common_steps, copied, at-most)

-- the column of a pixel, and what is left of its product
pub record IsColumn (factor most x column rest : ℕ) : Type 0 where
  pub sum : column * most + rest ≡ x * factor
  pub less : rest < most

pub column-of : (factor most x column rest : ℕ) → IsColumn factor most x column rest → x * factor / most ≡ column
column-of factor most x column rest is = search (rules, div-mul-add)

pub stretched_step : (own line new : List ℕ) (factor most x column rest : ℕ) → IsColumn factor most x column rest
    → line ≡ stretched own factor most x → new ≡ line ++ slice_index own column ∷ []
    → new ≡ stretched own factor most (x + 1)
stretched_step own line new factor most x column rest is e f =
    f ∙ ap₂ (λ (l : List ℕ) (k : ℕ). l ++ slice_index own k ∷ []) e (sym (column-of factor most x column rest is))
    ∙ sym (stretched-more own factor most x)

next-product : (x factor : ℕ) → (x + 1) * factor ≡ x * factor + factor
next-product x factor = add-mul x 1 factor ∙ omega (arith, one-mul factor)

pub same_column : (factor most x column rest next left : ℕ) → IsColumn factor most x column rest → next ≡ column
    → left ≡ rest + factor → left < most → IsColumn factor most (x + 1) next left
same_column factor most x column rest next left is e f h = search (rules, next-product)

pub next_column : (factor most x column rest next left : ℕ) → factor ≤ most → IsColumn factor most x column rest
    → next ≡ column + 1 → left + most ≡ rest + factor → IsColumn factor most (x + 1) next left
next_column factor most x column rest next left h is e f = search (rules, next-product)

-- ---- the lines of all components

-- a sample of a line of a plane
row-at : (own from : ℕ) (plane : List ℕ) (k : ℕ) → k < own
    → slice_index (take own (drop from plane)) k ≡ slice_index plane (from + k)
row-at own from plane k h = simp (get_or-drop, get_or-take)

-- where line y of a picture finds its samples of a component
abbrev pub own_from : Sampling → ℕ → Layer → ℕ
own_from picture y l = y * l.vertical / picture.vertical * l.width

own_line : (picture : Sampling) (y : ℕ) (l : Layer) (n : ℕ) → HasLine picture y l → n ≤ picture.width
    → stretched (take l.width (drop (own_from picture y l) l.samples)) l.horizontal picture.horizontal n
    ≡ map (λ x. layer_sample picture.horizontal picture.vertical l x y) (range_with_len 0 n)
own_line picture y l zero is h = refl
own_line picture y l (suc n) is h =
    let a = picture.horizontal in
    let own = take l.width (drop (own_from picture y l) l.samples) in
    let f : ℕ → ℕ = λ x. layer_sample a picture.vertical l x y in
    let s : suc n ≡ n + 1 = omega arith in
    let some : 0 < a = omega (arith, is.some, is.most) in
    let column = inside n picture.width l.horizontal a l.width (omega arith) is.some some is.across in
    ap (stretched own l.horizontal a) s
    ∙ stretched-more own l.horizontal a n
    ∙ ap₂ (λ (l : List ℕ) (k : ℕ). l ++ k ∷ []) (own_line picture y l n is (omega arith))
    (row-at l.width (own_from picture y l) l.samples (n * l.horizontal / a) column)
    ∙ sym (map-range_with_len_more f 0 n n (omega arith))
    ∙ ap (λ (k : ℕ). map f (range_with_len 0 k)) (sym s)

-- what is taken of a plane reaches to the end of the line
pub line_reaches : (picture : Sampling) (y : ℕ) (l : Layer) (own : List ℕ) (width : ℕ) → HasLine picture y l
    → own ≡ take l.width (drop (own_from picture y l) l.samples) → width ≡ picture.width
    → width * l.horizontal ≤ length own * picture.horizontal
line_reaches picture y l own width is e w =
    let long : length own ≡ l.width
    = ap length e ∙ length-take-le l.width (drop (own_from picture y l) l.samples)
    (omega (arith, is.inside, length-drop (own_from picture y l) l.samples)) in
    rw (long, w) is.across

-- the samples of a line that is put out
pub own_samples : (picture : Sampling) (y : ℕ) (l : Layer) (own line : List ℕ) (width : ℕ)
    → HasLine picture y l → own ≡ take l.width (drop (own_from picture y l) l.samples)
    → width ≡ picture.width → line ≡ stretched own l.horizontal picture.horizontal width
    → line ≡ map (λ x. layer_sample picture.horizontal picture.vertical l x y) (range_with_len 0 picture.width)
own_samples picture y l own line width is e w made =
    made
    ∙ ap₂ (λ (p : List ℕ) (n : ℕ). stretched p l.horizontal picture.horizontal n) e w
    ∙ own_line picture y l picture.width is (omega arith)

-- the layer of one component
pub layer-at : (P : Layer → Type 0) (samplings : List Sampling) (planes : List (List ℕ)) (i : ℕ) (s : Sampling)
    (plane : List ℕ) → AllByRecursion P (layers_in samplings planes) → i < length samplings → i < length planes
    → slice_index_or samplings i s ≡ s → slice_index_or planes i plane ≡ plane → P (layer_in s plane)
unfolding layers_in
layer-at P [] planes i s plane all h k e f = absurd (omega arith)
layer-at P (d ∷ samplings) [] i s plane all h k e f = absurd (omega arith)
layer-at P (d ∷ samplings) (p ∷ planes) zero s plane all h k e f =
    subst (λ (c : Sampling). P (layer_in c plane)) e (subst (λ (l : List ℕ). P (layer_in d l)) f all.0)
layer-at P (d ∷ samplings) (p ∷ planes) (suc i) s plane all h k e f =
    layer-at P samplings planes i s plane all.1 (omega arith) (omega arith) e f

pub lines_more : (h v width y : ℕ) (l : Layer) (layers : List Layer)
    → lines_across h v width (l ∷ layers) y
    ≡ map (λ x. layer_sample h v l x y) (range_with_len 0 width) ∷ lines_across h v width layers y
unfolding lines_across
lines_more h v width y l layers = refl

pub lines_none : (h v width y : ℕ) → lines_across h v width [] y ≡ []
unfolding lines_across
lines_none h v width y = refl

-- one line more is put in place
pub lines_step : (i : ℕ) (lines rest : List (List ℕ)) (line : List ℕ) → i < length lines
    → take i lines ++ (line ∷ rest) ≡ take (i + 1) (set lines i line) ++ rest
lines_step i lines rest line h = simp (append_assoc, take_more_set)

-- ---- the bytes of a line

pub lines_long : (h v width y : ℕ) (layers : List Layer) → AreLong width (lines_across h v width layers y)
unfolding AreLong lines_across
lines_long h v width y [] = tt
lines_long h v width y (l ∷ layers) = search (rules, length-map-range_with_len, lines_long h v width y layers)

pixel-of : (precision h v width y x : ℕ) (layers : List Layer) → x < width
    → bytes_at precision (lines_across h v width layers y) x ≡ sample_pixel precision h v layers y x
unfolding bytes_at lines_across
pixel-of precision h v width y x [] k = refl
pixel-of precision h v width y x (l ∷ layers) k =
    search (rules, get_or-map-range_with_len, pixel-of precision h v width y x layers k)

pub from-none : (n : ℕ) → 0 + n ≡ n
from-none n = omega arith

pub line_of_lines : (precision h v width y n : ℕ) (layers : List Layer) → n ≤ width
    → line_from precision (lines_across h v width layers y) 0 n ≡ sample_line precision h v n
    layers y
line_of_lines precision h v width y zero layers k = search (rules, line-none)
line_of_lines precision h v width y (suc n) layers k =
    let s : suc n ≡ n + 1 = omega arith in
    let lines = lines_across h v width layers y in
    ap (line_from precision lines 0) s
    ∙ line-more precision 0 n lines
    ∙ ap₂ (λ (a b : List ℕ). a ++ b) (line_of_lines precision h v width y n layers (omega arith))
    (ap (bytes_at precision lines) (from-none n) ∙ pixel-of precision h v width y n layers (omega arith))
    ∙ sym (line-grown precision h v n layers y)
    ∙ ap (λ (m : ℕ). sample_line precision h v m layers y) (sym s)

pub ruleset no_lines = (layers_none, lines_none, common_steps)
