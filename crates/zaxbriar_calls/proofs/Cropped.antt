-- The lines and the samples of a part of a picture.
use Rattle.std.proofs.Common.{arith, ◌≡◌, ◌∙◌, ◌+◌, ◌*◌, ◌≤◌, ℕ, zero, suc, Bool, true, false, List, [], ◌∷◌}
use Rattle.std.proofs.Common.{◌++◌, Option, None, Some, add-mul, ap, drop, length, length-drop, length-take, refl, subst, sym}
use Rattle.std.proofs.Common.{take, mul-le-mul_right}
use Rattle.std.proofs.lemmas.List.{drop-append-le, length-map, take-append-le}
use Rattle.std.proofs.Math.Seq.{drop-append_seam, drop-append-add}
use Rattle.std.specs.List.{concat}
use Rattle.std.specs.Prelude.{if◌then◌else◌, map}
use Rattle.jpeg_bits.proofs.ReadIntervals.{all-drop, all-map, all-take}
use Rattle.jpeg_decoder.specs.Bytes.{HaveBytes}
use Rattle.jpeg_decoder.specs.LinesView.{AreAtLeast, crop_of}
use Rattle.jpeg_orientation.proofs.Parts.{inside-parts, stored-inside}
use Rattle.jpeg_orientation.specs.Areas.{is_inside, stored_area}
use Rattle.jpeg_orientation.specs.Turns.{upright_height, upright_width}
use Rattle.jpeg_orientation.specs.declared.areas.Area.{Area}
use Rattle.jpeg_orientation.specs.declared.turns.Turn.{Turn}
use Rattle.zaxbriar_calls.specs.Crops.{AreOfPart, HasArea, HasPart, IsInPicture, cut_lines, is_cropped, part_of}
use Rattle.zaxbriar_calls.specs.Crops.{part_rows, part_samples, part_turn}
use Rattle.zaxbriar_calls.specs.declared.crops.StoredPart.{StoredPart}
use Rattle.zaxbriar_calls.specs.declared.options.Options.{Options}

-- ---- lines that are cut

-- the bytes of a line alone
of-line : (from bytes : ℕ) (line others : List ℕ) → from + bytes ≤ length line
    → take bytes (drop from (line ++ others)) ≡ take bytes (drop from line)
of-line from bytes line others fits =
    let few : from ≤ length line = omega (arith, fits) in
    let room : bytes ≤ length (drop from line) = omega (arith, fits, length-drop {A = ℕ}) in
    ap (λ (l : List ℕ). take bytes l) (drop-append-le from line others few)
    ∙ take-append-le bytes (drop from line) others room

after-line : (n : ℕ) (line others : List ℕ) → length line ≡ n → drop n (line ++ others) ≡ others
after-line n line others is = ap (λ m. drop m (line ++ others)) (sym is) ∙ drop-append_seam line others

cut-is : (line from bytes : ℕ) (lines : List (List ℕ)) (height : ℕ) → HaveBytes line lines → height ≤ length lines
    → from + bytes ≤ line
    → concat (map (λ (l : List ℕ). take bytes (drop from l)) (take height lines))
    ≡ cut_lines line from bytes height (concat lines)
unfolding cut_lines
cut-is line from bytes lines zero all few fits = refl
cut-is line from bytes [] (suc height) all few fits = absurd (omega (arith, few))
cut-is line from bytes (l ∷ lines) (suc height) all few fits =
    let fewer : height ≤ length lines = omega (arith, few) in
    let first : take bytes (drop from (l ++ concat lines)) ≡ take bytes (drop from l) =
    of-line from bytes l (concat lines) (omega (arith, fits, all.0)) in
    let rest : drop line (l ++ concat lines) ≡ concat lines = after-line line l (concat lines) all.0 in
    (λ i. sym first i ++ cut-is line from bytes lines height all.1 fewer fits i)
    ∙ ap (λ (r : List ℕ). take bytes (drop from (l ++ concat lines)) ++ cut_lines line from bytes height r) (sym rest)

-- lines after the first ones
dropped-is : (line : ℕ) (lines : List (List ℕ)) (top : ℕ) → HaveBytes line lines → top ≤ length lines
    → concat (drop top lines) ≡ drop (top * line) (concat lines)
dropped-is line lines zero all few =
    let none : 0 ≡ 0 * line = omega arith in
    ap (λ n. drop n (concat lines)) none
dropped-is line [] (suc top) all few = absurd (omega (arith, few))
dropped-is line (l ∷ lines) (suc top) all few =
    let fewer : top ≤ length lines = omega (arith, few) in
    let count : length l + top * line ≡ suc top * line = omega (arith, all.0) in
    dropped-is line lines top all.1 fewer
    ∙ sym (ap (λ n. drop n (l ++ concat lines)) (sym count) ∙ drop-append-add l (concat lines) (top * line))

-- the samples of a part
pub cropped-is : (line top height from bytes : ℕ) (lines : List (List ℕ)) → HaveBytes line lines
    → top + height ≤ length lines → from + bytes ≤ line
    → concat (crop_of top height from bytes lines)
    ≡ cut_lines line from bytes height (drop (top * line) (concat lines))
cropped-is line top height from bytes lines all few fits =
    let left : height ≤ length (drop top lines) = omega (arith, few, length-drop {A = List ℕ}) in
    cut-is line from bytes (drop top lines) height (all-drop (λ (l : List ℕ). length l ≡ line) top lines all) left fits
    ∙ ap (λ (s : List ℕ). cut_lines line from bytes height s)
    (dropped-is line lines top all (omega (arith, few)))

cropped-height : (top height from bytes : ℕ) (lines : List (List ℕ)) → top + height ≤ length lines
    → length (crop_of top height from bytes lines) ≡ height
cropped-height top height from bytes lines few =
    length-map (take height (drop top lines)) (λ (l : List ℕ). take bytes (drop from l))
    ∙ omega (arith, few, length-take {A = List ℕ}, length-drop {A = List ℕ})

cropped-bytes : (line top height from bytes : ℕ) (lines : List (List ℕ)) → HaveBytes line lines → from + bytes ≤ line
    → HaveBytes bytes (crop_of top height from bytes lines)
cropped-bytes line top height from bytes lines all fits =
    all-map (λ (l : List ℕ). length l ≡ line) (λ (l : List ℕ). length l ≡ bytes)
    (λ (l : List ℕ). take bytes (drop from l)) (take height (drop top lines))
    (λ l is. omega (arith, is, fits, length-take {A = ℕ}, length-drop {A = ℕ}))
    (all-take (λ (l : List ℕ). length l ≡ line) height (drop top lines)
    (all-drop (λ (l : List ℕ). length l ≡ line) top lines all))

-- ---- a part of a decoded picture

-- the bytes of its columns are in a line
columns-fit : (part : StoredPart) (pixel : ℕ) (picture : List (List ℕ)) → HasArea part pixel picture
    → part.area.left * pixel + part.area.width * pixel ≤ part.width * pixel
columns-fit part pixel picture h =
    let all : (part.area.left + part.area.width) * pixel ≤ part.width * pixel = mul-le-mul_right pixel h.columns in
    omega (arith, all, add-mul part.area.left part.area.width pixel)

at-least : (few bytes : ℕ) (lines : List (List ℕ)) → few ≤ bytes → HaveBytes bytes lines → AreAtLeast few lines
at-least few bytes [] fits all = tt
at-least few bytes (l ∷ lines) fits all = (omega (arith, fits, all.0), at-least few bytes lines fits all.1)

pub crop-fits : (part : StoredPart) (pixel : ℕ) (picture : List (List ℕ)) → HasArea part pixel picture
    → AreAtLeast (part.area.left * pixel + part.area.width * pixel) picture
crop-fits part pixel picture h =
    at-least _ (part.width * pixel) picture (columns-fit part pixel picture h) h.bytes

pub crop-samples : (part : StoredPart) (pixel : ℕ) (picture lines : List (List ℕ)) → HasArea part pixel picture
    → lines ≡ crop_of part.area.top part.area.height (part.area.left * pixel) (part.area.width * pixel) picture
    → concat lines ≡ part_samples (Some part) pixel (concat picture)
crop-samples part pixel picture lines h is =
    ap concat is
    ∙ cropped-is (part.width * pixel) part.area.top part.area.height (part.area.left * pixel) (part.area.width * pixel)
    picture h.bytes h.lines (columns-fit part pixel picture h)

pub crop-lines : (part : StoredPart) (pixel : ℕ) (picture lines : List (List ℕ)) → HasArea part pixel picture
    → lines ≡ crop_of part.area.top part.area.height (part.area.left * pixel) (part.area.width * pixel) picture
    → AreOfPart (Some part) pixel picture lines
crop-lines part pixel picture lines h is =
    subst (λ (l : List (List ℕ)). AreOfPart (Some part) pixel picture l) (sym is) (
      cropped-height part.area.top part.area.height (part.area.left * pixel) (part.area.width * pixel) picture h.lines,
      cropped-bytes (part.width * pixel) part.area.top part.area.height (part.area.left * pixel)
          (part.area.width * pixel) picture h.bytes (columns-fit part pixel picture h),
    )

-- ---- the part that the options ask for

held : (cropped : Bool) (turn : Turn) (crop : Area) (pixel : ℕ) (picture : List (List ℕ))
    → (cropped ≡ true → is_inside crop (upright_width turn) (upright_height turn) ≡ true)
    → length picture ≡ turn.height → HaveBytes (turn.width * pixel) picture
    → HasPart (if cropped then Some (record { width = turn.width; area = stored_area turn crop }) else None) pixel picture
held true turn crop pixel picture inside count all =
    let i = inside-parts (stored_area turn crop) turn.width turn.height (stored-inside turn crop (inside refl)) in
    record {
      lines = omega (arith, i.bottom, count);
      bytes = all;
      columns = i.right;
    }
held false turn crop pixel picture inside count all = tt

-- the lines of a picture have it
pub part-held : (o : Options) (turn : Turn) (part : Option StoredPart) (pixel : ℕ) (picture : List (List ℕ))
    → part ≡ part_of o turn → IsInPicture o turn
    → length picture ≡ turn.height → HaveBytes (turn.width * pixel) picture → HasPart part pixel picture
part-held o turn part pixel picture is inside count all =
    subst (λ (p : Option StoredPart). HasPart p pixel picture) (sym is)
    (held (is_cropped o) turn o.crop pixel picture inside count all)

-- it is as high and as wide as its turn says
pub part-high : (part : Option StoredPart) (turn : Turn) (pixel : ℕ) (picture lines : List (List ℕ))
    → length picture ≡ turn.height → AreOfPart part pixel picture lines → length lines ≡ (part_turn part turn).height
part-high None turn pixel picture lines count of_part = ap (λ (l : List (List ℕ)). length l) of_part ∙ count
part-high (Some part) turn pixel picture lines count of_part = of_part.0

pub part-wide : (part : Option StoredPart) (turn : Turn) (pixel : ℕ) (picture lines : List (List ℕ))
    → HaveBytes (turn.width * pixel) picture → AreOfPart part pixel picture lines
    → HaveBytes ((part_turn part turn).width * pixel) lines
part-wide None turn pixel picture lines all of_part =
    subst (λ (l : List (List ℕ)). HaveBytes (turn.width * pixel) l) (sym of_part) all
part-wide (Some part) turn pixel picture lines all of_part = of_part.1

-- no lines of a part are among none
pub no-part-rows : (part : Option StoredPart) → part_rows part 0 ≡ 0
no-part-rows None = refl
no-part-rows (Some part) = omega arith
