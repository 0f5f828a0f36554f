-- The lines of a part of a picture, of which each line is cut.
use Rattle.std.proofs.Common.{◌≡◌, ◌∙◌, ℕ, zero, suc, ◌+◌, ◌-◌, ◌*◌, ◌<◌, ◌≤◌, List, [], ◌∷◌, ◌++◌, length, take, drop, map}
use Rattle.std.proofs.Common.{ap, arith, refl, add-mul, mul_assoc, append-nil, true, if◌then◌else◌}
use Rattle.std.proofs.Math.Nat.{mul-le-mul_right}
use Rattle.std.proofs.lemmas.Bool.{and_parts, leb-true}
use Rattle.std.proofs.lemmas.List.{drop-drop, drop-take, get_or-drop, length-drop, length-map, length-take-le, map-append, take-take, take_more}
use Rattle.std.proofs.lemmas.List.Folds.{concat-append}
use Rattle.std.specs.List.{AllByRecursion, concat}
use Rattle.std.specs.Prelude.{nat_le, nat_lt, slice_index_or}
use Rattle.jpeg_bits.proofs.ReadIntervals.{all-drop, all-take}
use Rattle.jpeg_orientation.specs.Areas.{is_inside}
use Rattle.jpeg_orientation.specs.declared.areas.Area.{Area}
use Rattle.jpeg_meaning.specs.declared.images.ImageInfo.{ImageInfo}
use Rattle.zaxbriar_samples.specs.Boxes.{components_a_pixel, texts_below}
use Rattle.zaxbriar_samples.specs.DecodedPictures.{decoded}
use Rattle.zaxbriar_samples.specs.LineTakers.{HaveBytes}
use Rattle.zaxbriar_samples.specs.Parts.{part_line, pixel_bytes}
use Rattle.zaxbriar_samples.specs.Png.{line_bytes}
use Rattle.zaxbriar_samples.specs.Samples.{is_wide}
use Rattle.zaxbriar_samples.proofs.LinesTogether.{line-at}
use Rattle.zaxbriar_samples.proofs.PngSteps.{texts-same}

-- the lines of a part
abbrev pub crop_of : ℕ → ℕ → ℕ → ℕ → List (List ℕ) → List (List ℕ)
crop_of top height from bytes lines = map (λ line. take bytes (drop from line)) (take height (drop top lines))

-- each line has at least this many bytes
abbrev pub AreAtLeast : ℕ → List (List ℕ) → Type 0
AreAtLeast bytes lines = AllByRecursion (λ line. bytes ≤ length line) lines

-- ---- how many lines and bytes a part has

pub part-length : (top height from bytes : ℕ) (lines : List (List ℕ)) → top + height ≤ length lines
    → length (crop_of top height from bytes lines) ≡ height
part-length top height from bytes lines h =
    length-map (take height (drop top lines)) (λ line. take bytes (drop from line))
    ∙ length-take-le height (drop top lines) (omega (arith, length-drop top lines))

part-bytes : (from bytes : ℕ) (lines : List (List ℕ)) → AreAtLeast (from + bytes) lines
    → HaveBytes bytes (map (λ line. take bytes (drop from line)) lines)
part-bytes from bytes [] all = tt
part-bytes from bytes (line ∷ lines) all = (
  length-take-le bytes (drop from line) (omega (arith, length-drop from line, all.0)),
  part-bytes from bytes lines all.1,
)

pub part-have : (top height from bytes : ℕ) (lines : List (List ℕ)) → AreAtLeast (from + bytes) lines
    → HaveBytes bytes (crop_of top height from bytes lines)
part-have top height from bytes lines all =
    let P : List ℕ → Type 0 = λ line. from + bytes ≤ length line in
    part-bytes from bytes (take height (drop top lines)) (all-take P height _ (all-drop P top lines all))

-- each line has as many bytes as another number that isn't greater
pub at-least : (n bytes : ℕ) (lines : List (List ℕ)) → HaveBytes n lines → bytes ≤ n → AreAtLeast bytes lines
at-least n bytes [] all low = tt
at-least n bytes (line ∷ lines) all low = (omega (arith, all.0), at-least n bytes lines all.1 low)

-- a part of a line that lies in a text
cut-of : (n from bytes m : ℕ) (xs : List ℕ) → from + bytes ≤ n
    → take bytes (drop from (take n (drop m xs))) ≡ take bytes (drop (m + from) xs)
cut-of n from bytes m xs inside =
    let k = n - from in
    let is : n ≡ from + k = omega arith in
    let long : bytes ≤ k = omega arith in
    ap (λ (i : ℕ). take bytes (drop from (take i (drop m xs)))) is
    ∙ ap (take bytes) (drop-take from k (drop m xs))
    ∙ take-take bytes k (drop from (drop m xs)) long
    ∙ ap (take bytes) (drop-drop from m xs)

-- the bytes that a part has of a line
cut : ℕ → ℕ → ℕ → List ℕ → ℕ → ℕ → List ℕ
cut n from bytes xs top y = take bytes (drop ((top + y) * n + from) xs)

concat-part : (top height from bytes n : ℕ) (lines : List (List ℕ)) → HaveBytes n lines → from + bytes ≤ n
    → top + height ≤ length lines
    → concat (crop_of top height from bytes lines) ≡ texts_below height (cut n from bytes (concat lines) top)
unfolding texts_below cut
concat-part top zero from bytes n lines all wide low = refl
concat-part top (suc height) from bytes n lines all wide low =
    let f : List ℕ → List ℕ = λ line. take bytes (drop from line) in
    let rest : List (List ℕ) = drop top lines in
    let line : List ℕ = slice_index_or rest height [] in
    let room : height < length rest = omega (arith, length-drop top lines) in
    let below : top + height < length lines = omega arith in
    let next : suc height ≡ height + 1 = omega arith in
    let last : f line ≡ cut n from bytes (concat lines) top height =
    ap f (get_or-drop top lines height [] ∙ line-at n (top + height) lines all below)
    ∙ cut-of n from bytes ((top + height) * n) (concat lines) wide in
    ap (λ (k : ℕ). concat (map f (take k rest))) next
    ∙ ap (λ (ls : List (List ℕ)). concat (map f ls)) (take_more rest height [] room)
    ∙ ap concat (map-append f (take height rest) (line ∷ []))
    ∙ concat-append (map f (take height rest)) (f line ∷ [])
    ∙ ap (λ (t : List ℕ). t ++ concat (f line ∷ [])) (concat-part top height from bytes n lines all wide (omega arith))
    ∙ ap (λ (t : List ℕ). texts_below height (cut n from bytes (concat lines) top) ++ t)
    (append-nil (f line) ∙ last)

-- ---- an area of a picture

-- a line has as many bytes as its pixels
pub line-pixels : (info : ImageInfo) (precision : ℕ) → line_bytes info precision ≡ info.width * pixel_bytes info precision
line-pixels info precision =
    mul_assoc info.width (components_a_pixel info.pixel_format) (if is_wide precision then 2 else 1)

pub record Inside (area : Area) (info : ImageInfo) : Type 0 where
  pub right : area.left + area.width ≤ info.width
  pub bottom : area.top + area.height ≤ info.height

pub is-there : (area : Area) (info : ImageInfo) → is_inside area info.width info.height ≡ true → Inside area info
is-there area info h =
    let first = and_parts (nat_lt 0 area.width) _ h in
    let second = and_parts (nat_lt 0 area.height) _ first.1 in
    let third = and_parts (nat_le (area.left + area.width) info.width) _ second.1 in
    record {
      right = leb-true (area.left + area.width) info.width third.0;
      bottom = leb-true (area.top + area.height) info.height third.1;
    }

pub columns-inside : (area : Area) (info : ImageInfo) (precision : ℕ) → Inside area info
    → area.left * pixel_bytes info precision + area.width * pixel_bytes info precision ≤ line_bytes info precision
columns-inside area info precision h =
    let b : ℕ = pixel_bytes info precision in
    let a : (area.left + area.width) * b ≤ info.width * b = mul-le-mul_right b h.right in
    omega (arith, a, add-mul area.left area.width b, line-pixels info precision)

place-is : (line w left b n : ℕ) → n ≡ w * b → line * n + left * b ≡ (line * w + left) * b
place-is line w left b n e =
    ap (λ (k : ℕ). line * k + left * b) e ∙ omega (arith, add-mul (line * w) left b, mul_assoc line w b)

pub part-pixels : (area : Area) (info : ImageInfo) (precision : ℕ) (lines : List (List ℕ))
    → HaveBytes (line_bytes info precision) lines → length lines ≡ info.height → Inside area info
    → concat (crop_of area.top area.height (area.left * pixel_bytes info precision)
    (area.width * pixel_bytes info precision) lines)
    ≡ texts_below area.height (part_line area (decoded info precision (concat lines)))
unfolding part_line cut
part-pixels area info precision lines all high h =
    let b : ℕ = pixel_bytes info precision in
    concat-part area.top area.height (area.left * b) (area.width * b) (line_bytes info precision) lines all
    (columns-inside area info precision h) (omega (arith, high, h.bottom))
    ∙ texts-same area.height _ _ (λ y low. ap (λ (k : ℕ). take (area.width * b) (drop k (concat lines)))
    (place-is (area.top + y) info.width area.left b (line_bytes info precision) (line-pixels info precision)))
