-- A pixel of a part of a picture is one of the picture.
use Rattle.std.proofs.Common.{arith, ◌≡◌, ◌∙◌, ◌+◌, ◌-◌, ◌*◌, ◌<◌, ◌≤◌, ℕ, zero, suc, Bool, true, false, List}
use Rattle.std.proofs.Common.{Some, ◌++◌, add-mul, ap, drop, inl, inr, length, length-append, length-drop, sym}
use Rattle.std.proofs.Common.{take, mul-le-mul_right, mul_assoc, mul_comm}
use Rattle.std.proofs.lemmas.Bool.{cases_lt}
use Rattle.std.proofs.lemmas.List.{drop-append-le, drop-drop, drop-take, length-take-le, take-append-le, take-take}
use Rattle.std.proofs.Math.Seq.{drop-append-add}
use Rattle.std.specs.Prelude.{if◌then◌else◌}
use Rattle.jpeg_orientation.proofs.Parts.{column-of-part, inside-parts, line-of-part, stored-inside}
use Rattle.jpeg_orientation.specs.Areas.{stored_area, turn_of_part}
use Rattle.jpeg_orientation.specs.Turns.{flips_x, flips_y, is_on_side, mirrored, stored_column, stored_line}
use Rattle.jpeg_orientation.specs.declared.areas.Area.{Area}
use Rattle.jpeg_orientation.specs.declared.turns.Turn.{Turn}
use Rattle.zaxbriar_samples.specs.Boxes.{texts_below}
use Rattle.zaxbriar_samples.specs.DecodedPictures.{Decoded}
use Rattle.zaxbriar_samples.specs.Parts.{has_part, part_line, pixel_bytes, shown_pixel, stored_part}
use Rattle.zaxbriar_samples.specs.Turns.{turn_by, upright_pixel}

-- ---- texts of one length, one after the other

texts-length : (count n : ℕ) (f : ℕ → List ℕ) → ((i : ℕ) → i < count → length (f i) ≡ n)
    → length (texts_below count f) ≡ count * n
unfolding texts_below
texts-length zero n f all = omega arith
texts-length (suc count) n f all =
    let before : length (texts_below count f) ≡ count * n = texts-length count n f (λ i low. all i (omega arith)) in
    let more : suc count * n ≡ count * n + n = omega arith in
    omega (arith, length-append (texts_below count f) (f count), before, all count (omega arith), more)

-- some bytes of one of them
in-text : (count n p at y : ℕ) (f : ℕ → List ℕ) → ((i : ℕ) → i < count → length (f i) ≡ n) → y < count
    → at + p ≤ n → take p (drop (y * n + at) (texts_below count f)) ≡ take p (drop at (f y))
unfolding texts_below
in-text zero n p at y f all low fits = absurd (omega (arith, low))
in-text (suc count) n p at y f all low fits =
    let before : length (texts_below count f) ≡ count * n = texts-length count n f (λ i below. all i (omega arith)) in
    elim (cases_lt y count) as (λ _. take p (drop (y * n + at) (texts_below count f ++ f count)) ≡ take p (drop at (f y))) [
      | inl earlier ↦
          let lines : (y + 1) * n ≤ count * n = mul-le-mul_right n (omega (arith, earlier)) in
          let room : y * n + at + p ≤ length (texts_below count f) =
          omega (arith, before, lines, add-mul y 1 n, fits) in
          let left : p ≤ length (drop (y * n + at) (texts_below count f)) = omega (arith, room, length-drop {A = ℕ}) in
          ap (λ (l : List ℕ). take p l) (drop-append-le (y * n + at) (texts_below count f) (f count) (omega (arith, room)))
          ∙ take-append-le p (drop (y * n + at) (texts_below count f)) (f count) left
          ∙ in-text count n p at y f (λ i below. all i (omega arith)) earlier fits
      | inr last ↦
          let here : y ≡ count = omega (arith, low, last) in
          let from : y * n + at ≡ length (texts_below count f) + at = ap (λ k. k * n + at) here ∙ omega (arith, before) in
          ap (λ m. take p (drop m (texts_below count f ++ f count))) from
          ∙ ap (λ (l : List ℕ). take p l) (drop-append-add (texts_below count f) (f count) at)
          ∙ ap (λ k. take p (drop at (f k))) (sym here)
    ]

-- some bytes of a part of others
of-part : (at p bytes from : ℕ) (s : List ℕ) → at + p ≤ bytes
    → take p (drop at (take bytes (drop from s))) ≡ take p (drop (from + at) s)
of-part at p bytes from s fits =
    let is : bytes ≡ at + (bytes - at) = omega (arith, fits) in
    ap (λ m. take p (drop at (take m (drop from s)))) is
    ∙ ap (λ (l : List ℕ). take p l) (drop-take at (bytes - at) (drop from s))
    ∙ take-take p (bytes - at) (drop at (drop from s)) (omega (arith, fits))
    ∙ ap (λ (l : List ℕ). take p l) (drop-drop at from s)

-- ---- the pixels of an area

-- where a pixel of a line is
pixel-place : (p line column wide : ℕ) → (line * wide + column) * p ≡ line * (wide * p) + column * p
pixel-place p line column wide =
    add-mul (line * wide) column p ∙ ap (λ n. n + column * p) (mul_assoc line wide p)

-- the lines of an area have as many bytes as its pixels
line-room : (area : Area) (picture : Decoded) (y : ℕ) → area.left + area.width ≤ picture.info.width
    → area.top + area.height ≤ picture.info.height
    → length picture.pixels ≡ picture.info.width * picture.info.height * pixel_bytes picture.info picture.precision
    → y < area.height
    → length (part_line area picture y) ≡ area.width * pixel_bytes picture.info picture.precision
unfolding part_line
line-room area picture y right bottom count low =
    let p : ℕ = pixel_bytes picture.info picture.precision in
    let w : ℕ = picture.info.width in
    let lines : (area.top + y + 1) * w ≤ picture.info.height * w = mul-le-mul_right w (omega (arith, bottom, low)) in
    let pixels : (area.top + y) * w + area.left + area.width ≤ picture.info.height * w =
    omega (arith, lines, add-mul (area.top + y) 1 w, right) in
    let all : ((area.top + y) * w + area.left + area.width) * p ≤ picture.info.height * w * p =
    mul-le-mul_right p pixels in
    let same : length picture.pixels ≡ picture.info.height * w * p =
    count ∙ ap (λ n. n * p) (mul_comm w picture.info.height) in
    length-take-le (area.width * p) (drop (((area.top + y) * w + area.left) * p) picture.pixels)
    (omega (arith, length-drop {A = ℕ}, all, same, add-mul ((area.top + y) * w + area.left) area.width p))

-- a pixel of an area is one of the picture
area-pixel : (area : Area) (picture : Decoded) (column line : ℕ) → area.left + area.width ≤ picture.info.width
    → area.top + area.height ≤ picture.info.height
    → length picture.pixels ≡ picture.info.width * picture.info.height * pixel_bytes picture.info picture.precision
    → column < area.width → line < area.height
    → take (pixel_bytes picture.info picture.precision)
    (drop ((line * area.width + column) * pixel_bytes picture.info picture.precision)
    (texts_below area.height (part_line area picture)))
    ≡ take (pixel_bytes picture.info picture.precision)
    (drop (((area.top + line) * picture.info.width + (area.left + column)) * pixel_bytes picture.info picture.precision)
    picture.pixels)
unfolding part_line
area-pixel area picture column line right bottom count c l =
    let p : ℕ = pixel_bytes picture.info picture.precision in
    let w : ℕ = picture.info.width in
    let pixel : (column + 1) * p ≤ area.width * p = mul-le-mul_right p (omega (arith, c)) in
    let fits : column * p + p ≤ area.width * p = omega (arith, pixel, add-mul column 1 p) in
    let there : ((area.top + line) * w + area.left) * p + column * p ≡ ((area.top + line) * w + (area.left + column)) * p =
    sym (add-mul ((area.top + line) * w + area.left) column p)
    ∙ ap (λ n. n * p) (omega arith) in
    ap (λ n. take p (drop n (texts_below area.height (part_line area picture)))) (pixel-place p line column area.width)
    ∙ in-text area.height (area.width * p) p (column * p) line (part_line area picture)
    (λ y low. line-room area picture y right bottom count low) l fits
    ∙ of-part (column * p) p (area.width * p) (((area.top + line) * w + area.left) * p) picture.pixels fits
    ∙ ap (λ n. take p (drop n picture.pixels)) there

-- ---- the pixels of a part that is turned

mirrored-below : (flips : Bool) (side index : ℕ) → index < side → mirrored flips side index < side
mirrored-below true side index h = omega arith
mirrored-below false side index h = h

-- a pixel of the area that becomes another is stored inside
column-inside : (side flips : Bool) (area : Area) (across down : ℕ) → across < area.width → down < area.height
    → mirrored flips (if side then area.height else area.width) (if side then down else across)
    < (if side then area.height else area.width)
column-inside true flips area across down a d = mirrored-below flips area.height down d
column-inside false flips area across down a d = mirrored-below flips area.width across a

line-inside : (side flips : Bool) (area : Area) (across down : ℕ) → across < area.width → down < area.height
    → mirrored flips (if side then area.width else area.height) (if side then across else down)
    < (if side then area.width else area.height)
line-inside true flips area across down a d = mirrored-below flips area.width across a
line-inside false flips area across down a d = mirrored-below flips area.height down d

pub part-of-picture : (area : Area) (orientation : ℕ) (picture : Decoded) (across down : ℕ)
    → has_part (Some area) orientation picture.info ≡ true
    → length picture.pixels ≡ picture.info.width * picture.info.height * pixel_bytes picture.info picture.precision
    → across < area.width → down < area.height
    → shown_pixel orientation (stored_part (Some area) orientation picture) across down
    ≡ shown_pixel orientation picture (area.left + across) (area.top + down)
unfolding upright_pixel
part-of-picture area orientation picture across down inside count a d =
    let turn : Turn = turn_by picture.info orientation in
    let stored : Area = stored_area turn area in
    let part : Turn = turn_of_part turn stored in
    let p : ℕ = pixel_bytes picture.info picture.precision in
    let i = inside-parts stored turn.width turn.height (stored-inside turn area inside) in
    let column = column-inside (is_on_side orientation) (flips_x orientation) area across down a d in
    let line = line-inside (is_on_side orientation) (flips_y orientation) area across down a d in
    area-pixel stored picture (stored_column part across down) (stored_line part across down) i.right i.bottom count
    column line
    ∙ (λ j. take p (drop ((sym (line-of-part turn area across down inside a d) j * turn.width
    + sym (column-of-part turn area across down inside a d) j) * p) picture.pixels))
