-- A pixel of a part of a picture is one of the picture.
use Rattle.std.proofs.Common.{arith, ◌≡◌, ◌∙◌, ◌+◌, ◌-◌, ◌*◌, ◌<◌, ◌≤◌, ℕ, zero, suc, Bool, true, false, List}
use Rattle.std.proofs.Common.{◌++◌, add-mul, ap, drop, length, length-drop, length-take, refl, subst, sym}
use Rattle.std.proofs.Common.{take, mul-le-mul_right, mul_assoc, mul_comm}
use Rattle.std.proofs.lemmas.List.{drop-append-le, drop-drop, drop-take, take-append-le, take-take}
use Rattle.std.proofs.Math.Seq.{drop-append-add}
use Rattle.std.specs.Prelude.{if◌then◌else◌}
use Rattle.jpeg_meaning.specs.declared.images.ImageInfo.{ImageInfo}
use Rattle.jpeg_orientation.proofs.Parts.{column-of-part, inside-parts, line-of-part, stored-inside}
use Rattle.jpeg_orientation.specs.Areas.{is_inside, stored_area, turn_of_part}
use Rattle.jpeg_orientation.specs.Turns.{flips_x, flips_y, is_on_side, mirrored, stored_column, stored_line}
use Rattle.jpeg_orientation.specs.Turns.{stored_offset}
use Rattle.jpeg_orientation.specs.Turns.{upright_height, upright_width}
use Rattle.jpeg_orientation.specs.declared.areas.Area.{Area}
use Rattle.jpeg_orientation.specs.declared.turns.Turn.{Turn}
use Rattle.zaxbriar_calls.proofs.Smaller.{own-turn}
use Rattle.zaxbriar_calls.proofs.TurnedPlaces.{mirrored-below}
use Rattle.zaxbriar_calls.specs.Boxed.{is_fitted}
use Rattle.zaxbriar_calls.specs.Crops.{IsInPicture, cut_lines, is_cropped, part_samples}
use Rattle.zaxbriar_calls.specs.Lines.{lines_by, part_given, stored_bytes, turn_given, turn_of, turn_uncut}
use Rattle.zaxbriar_calls.specs.Upright.{upright_pixel}
use Rattle.zaxbriar_calls.specs.Worked.{crop_at}
use Rattle.zaxbriar_calls.specs.declared.layouts.Conversion.{Conversion}
use Rattle.zaxbriar_calls.specs.declared.options.Options.{Options}

-- some bytes of a part of others
of-part : (n p bytes : ℕ) (s others : List ℕ) → n + p ≤ bytes → bytes ≤ length s
    → take p (drop n (take bytes s ++ others)) ≡ take p (drop n s)
of-part n p bytes s others fits room =
    let count : length (take bytes s) ≡ bytes = omega (arith, room, length-take {A = ℕ}) in
    let few : n ≤ length (take bytes s) = omega (arith, count, fits) in
    let left : p ≤ length (drop n (take bytes s)) = omega (arith, count, fits, length-drop {A = ℕ}) in
    let is : bytes ≡ n + (bytes - n) = omega (arith, fits) in
    ap (λ (l : List ℕ). take p l) (drop-append-le n (take bytes s) others few)
    ∙ take-append-le p (drop n (take bytes s)) others left
    ∙ ap (λ m. take p (drop n (take m s))) is
    ∙ ap (λ (l : List ℕ). take p l) (drop-take n (bytes - n) s)
    ∙ take-take p (bytes - n) (drop n s) (omega (arith, fits))

-- a pixel of lines that are cut, by its line
cut-pixel : (line from bytes n p height y : ℕ) (s : List ℕ) → y < height → n + p ≤ bytes → from + bytes ≤ line
    → height * line ≤ length s
    → take p (drop (y * bytes + n) (cut_lines line from bytes height s)) ≡ take p (drop (y * line + (from + n)) s)
unfolding cut_lines
cut-pixel line from bytes n p zero y s low fits inside room = absurd (omega (arith, low))
cut-pixel line from bytes n p (suc height) zero s low fits inside room =
    let whole : suc height * line ≡ line + height * line = omega arith in
    let enough : bytes ≤ length (drop from s) = omega (arith, room, whole, inside, length-drop {A = ℕ}) in
    let first : 0 * bytes + n ≡ n = omega arith in
    let begins : from + n ≡ 0 * line + (from + n) = omega arith in
    ap (λ m. take p (drop m (take bytes (drop from s) ++ cut_lines line from bytes height (drop line s)))) first
    ∙ of-part n p bytes (drop from s) (cut_lines line from bytes height (drop line s)) fits enough
    ∙ ap (λ (l : List ℕ). take p l) (drop-drop n from s)
    ∙ ap (λ m. take p (drop m s)) begins
cut-pixel line from bytes n p (suc height) (suc y) s low fits inside room =
    let whole : suc height * line ≡ line + height * line = omega arith in
    let enough : bytes ≤ length (drop from s) = omega (arith, room, whole, inside, length-drop {A = ℕ}) in
    let count : length (take bytes (drop from s)) ≡ bytes = omega (arith, enough, length-take {A = ℕ}) in
    let left : height * line ≤ length (drop line s) = omega (arith, room, whole, length-drop {A = ℕ}) in
    let at : suc y * bytes + n ≡ length (take bytes (drop from s)) + (y * bytes + n) = omega (arith, count) in
    let before : line + (y * line + (from + n)) ≡ suc y * line + (from + n) = omega arith in
    ap (λ m. take p (drop m (take bytes (drop from s) ++ cut_lines line from bytes height (drop line s)))) at
    ∙ ap (λ (l : List ℕ). take p l) (drop-append-add (take bytes (drop from s))
    (cut_lines line from bytes height (drop line s)) (y * bytes + n))
    ∙ cut-pixel line from bytes n p height y (drop line s) (omega (arith, low)) fits inside left
    ∙ ap (λ (l : List ℕ). take p l) (drop-drop (y * line + (from + n)) line s)
    ∙ ap (λ m. take p (drop m s)) before

-- the same by its column and its line in the part of a picture
part-pixel : (p width height left top wide high column line : ℕ) (s : List ℕ) → column < wide → line < high
    → left + wide ≤ width → top + high ≤ height → length s ≡ width * height * p
    → take p (drop ((line * wide + column) * p)
    (cut_lines (width * p) (left * p) (wide * p) high (drop (top * (width * p)) s)))
    ≡ take p (drop (((top + line) * width + (left + column)) * p) s)
part-pixel p width height left top wide high column line s c l right bottom count =
    let here : (line * wide + column) * p ≡ line * (wide * p) + column * p =
    add-mul (line * wide) column p ∙ ap (λ n. n + column * p) (mul_assoc line wide p) in
    let pixel : (column + 1) * p ≤ wide * p = mul-le-mul_right p (omega (arith, c)) in
    let fits : column * p + p ≤ wide * p = omega (arith, pixel, add-mul column 1 p) in
    let inside : (left + wide) * p ≤ width * p = mul-le-mul_right p right in
    let few : left * p + wide * p ≤ width * p = omega (arith, inside, add-mul left wide p) in
    let lines : (top + high) * (width * p) ≤ height * (width * p) = mul-le-mul_right (width * p) bottom in
    let all : length s ≡ height * (width * p) =
    count ∙ ap (λ n. n * p) (mul_comm width height) ∙ mul_assoc height width p in
    let room : high * (width * p) ≤ length (drop (top * (width * p)) s) =
    omega (arith, lines, all, add-mul top high (width * p), length-drop {A = ℕ}) in
    let there : top * (width * p) + (line * (width * p) + (left * p + column * p))
    ≡ ((top + line) * width + (left + column)) * p =
    omega (arith, add-mul top line (width * p))
    ∙ (λ i. sym (mul_assoc (top + line) width p) i + sym (add-mul left column p) i)
    ∙ sym (add-mul ((top + line) * width) (left + column) p) in
    ap (λ n. take p (drop n (cut_lines (width * p) (left * p) (wide * p) high (drop (top * (width * p)) s)))) here
    ∙ cut-pixel (width * p) (left * p) (wide * p) (column * p) p high line (drop (top * (width * p)) s) l fits few room
    ∙ ap (λ (x : List ℕ). take p x)
    (drop-drop (line * (width * p) + (left * p + column * p)) (top * (width * p)) s)
    ∙ ap (λ n. take p (drop n s)) there

-- a pixel that is shown is stored inside
column-below : (turn : Turn) (across down : ℕ) → across < upright_width turn → down < upright_height turn
    → stored_column turn across down < turn.width
column-below turn across down a d = go (is_on_side turn.orientation) a d
  where
    go : (side : Bool) → across < (if side then turn.height else turn.width)
        → down < (if side then turn.width else turn.height)
        → mirrored (flips_x turn.orientation) turn.width (if side then down else across) < turn.width
    go true a d = mirrored-below (flips_x turn.orientation) turn.width down d
    go false a d = mirrored-below (flips_x turn.orientation) turn.width across a

line-below : (turn : Turn) (across down : ℕ) → across < upright_width turn → down < upright_height turn
    → stored_line turn across down < turn.height
line-below turn across down a d = go (is_on_side turn.orientation) a d
  where
    go : (side : Bool) → across < (if side then turn.height else turn.width)
        → down < (if side then turn.width else turn.height)
        → mirrored (flips_y turn.orientation) turn.height (if side then across else down) < turn.height
    go true a d = mirrored-below (flips_y turn.orientation) turn.height across a
    go false a d = mirrored-below (flips_y turn.orientation) turn.height down d

-- a part is as wide and as high as it is shown
part-across : (turn : Turn) (area : Area)
    → upright_width (turn_of_part turn (stored_area turn area)) ≡ area.width
part-across turn area = go (is_on_side turn.orientation)
  where
    go : (side : Bool) → (if side then (if side then area.width else area.height)
        else (if side then area.height else area.width)) ≡ area.width
    go true = refl
    go false = refl

part-down : (turn : Turn) (area : Area)
    → upright_height (turn_of_part turn (stored_area turn area)) ≡ area.height
part-down turn area = go (is_on_side turn.orientation)
  where
    go : (side : Bool) → (if side then (if side then area.height else area.width)
        else (if side then area.width else area.height)) ≡ area.height
    go true = refl
    go false = refl

-- the width and the height of what is given
pub part-width : (o : Options) (info : ImageInfo) (orientation : ℕ) (cropped : Bool) → is_cropped o ≡ cropped
    → cropped ≡ true → is_fitted o ≡ false → upright_width (turn_given o info orientation) ≡ o.crop.width
part-width o info orientation false is asked whole = absurd cc
part-width o info orientation true is asked whole =
    let part : upright_width (turn_uncut o info orientation) ≡ o.crop.width =
    rw is (part-across (turn_of o info orientation) o.crop) in
    ap (λ (t : Turn). upright_width t) (own-turn o info (turn_uncut o info orientation) whole) ∙ part

pub part-height : (o : Options) (info : ImageInfo) (orientation : ℕ) (cropped : Bool) → is_cropped o ≡ cropped
    → cropped ≡ true → is_fitted o ≡ false → upright_height (turn_given o info orientation) ≡ o.crop.height
part-height o info orientation false is asked whole = absurd cc
part-height o info orientation true is asked whole =
    let part : upright_height (turn_uncut o info orientation) ≡ o.crop.height =
    rw is (part-down (turn_of o info orientation) o.crop) in
    ap (λ (t : Turn). upright_height t) (own-turn o info (turn_uncut o info orientation) whole) ∙ part

pub whole-width : (o : Options) (info : ImageInfo) (orientation : ℕ) (cropped : Bool) → is_cropped o ≡ cropped
    → cropped ≡ false → is_fitted o ≡ false
    → upright_width (turn_given o info orientation) ≡ upright_width (turn_of o info orientation)
whole-width o info orientation true is unasked whole = absurd cc
whole-width o info orientation false is unasked whole =
    let all : upright_width (turn_uncut o info orientation) ≡ upright_width (turn_of o info orientation) =
    rw is refl in
    ap (λ (t : Turn). upright_width t) (own-turn o info (turn_uncut o info orientation) whole) ∙ all

-- the pixel of an area, in the area and in the picture
area-pixel : (turn : Turn) (area : Area) (p across down : ℕ) (s : List ℕ)
    → is_inside area (upright_width turn) (upright_height turn) ≡ true → across < area.width → down < area.height
    → length s ≡ turn.width * turn.height * p
    → take p (drop ((stored_line (turn_of_part turn (stored_area turn area)) across down * (stored_area turn area).width
    + stored_column (turn_of_part turn (stored_area turn area)) across down) * p)
    (cut_lines (turn.width * p) ((stored_area turn area).left * p) ((stored_area turn area).width * p)
    (stored_area turn area).height (drop ((stored_area turn area).top * (turn.width * p)) s)))
    ≡ take p (drop ((stored_line turn (area.left + across) (area.top + down) * turn.width
    + stored_column turn (area.left + across) (area.top + down)) * p) s)
area-pixel turn area p across down s inside a d count =
    let stored = stored_area turn area in
    let part = turn_of_part turn stored in
    let i = inside-parts stored turn.width turn.height (stored-inside turn area inside) in
    let column = column-below part across down (subst (λ n. across < n) (sym (part-across turn area)) a)
    (subst (λ n. down < n) (sym (part-down turn area)) d) in
    let line = line-below part across down (subst (λ n. across < n) (sym (part-across turn area)) a)
    (subst (λ n. down < n) (sym (part-down turn area)) d) in
    part-pixel p turn.width turn.height stored.left stored.top stored.width stored.height
    (stored_column part across down) (stored_line part across down) s column line i.right i.bottom count
    ∙ (λ j. take p (drop ((sym (line-of-part turn area across down inside a d) j * turn.width
    + sym (column-of-part turn area across down inside a d) j) * p) s))

-- and by the options, with a crop and without one
crop-pixel : (cropped : Bool) (o : Options) (info : ImageInfo) (precision orientation : ℕ) (conversion : Conversion)
    (s : List ℕ) (across down : ℕ) → is_cropped o ≡ cropped → cropped ≡ true → is_fitted o ≡ false
    → IsInPicture o (turn_of o info orientation)
    → length s ≡ info.width * info.height * stored_bytes info precision
    → across < o.crop.width → down < o.crop.height
    → upright_pixel (lines_by o info precision orientation conversion)
    (part_samples (part_given o info orientation) (stored_bytes info precision) s) across down
    ≡ upright_pixel (lines_by (record o { crop = crop_at 0 0 0 0 }) info precision orientation conversion) s
    (o.crop.left + across) (o.crop.top + down)
crop-pixel false o info precision orientation conversion s across down is asked whole inside count a d = absurd cc
crop-pixel true o info precision orientation conversion s across down is asked whole inside count a d =
    let p : ℕ = stored_bytes info precision in
    let all = record o { crop = crop_at 0 0 0 0 } in
    let part : List ℕ = part_samples (part_given o info orientation) p s in
    let pixel : take p (drop (stored_offset (turn_uncut o info orientation) across down * p) part)
    ≡ take p (drop (stored_offset (turn_of o info orientation) (o.crop.left + across) (o.crop.top + down) * p) s) =
    rw is (area-pixel (turn_of o info orientation) o.crop p across down s (inside is) a d count) in
    ap (λ (t : Turn). take p (drop (stored_offset t across down * p) part))
    (own-turn o info (turn_uncut o info orientation) whole)
    ∙ pixel
    ∙ ap (λ (t : Turn). take p (drop (stored_offset t (o.crop.left + across) (o.crop.top + down) * p) s))
    (sym (own-turn all info (turn_of o info orientation) whole))

pub part-of-picture : (o : Options) (info : ImageInfo) (precision orientation : ℕ) (conversion : Conversion)
    (s : List ℕ) (across down : ℕ) → is_cropped o ≡ true → is_fitted o ≡ false
    → IsInPicture o (turn_of o info orientation)
    → length s ≡ info.width * info.height * stored_bytes info precision
    → across < o.crop.width → down < o.crop.height
    → upright_pixel (lines_by o info precision orientation conversion)
    (part_samples (part_given o info orientation) (stored_bytes info precision) s) across down
    ≡ upright_pixel (lines_by (record o { crop = crop_at 0 0 0 0 }) info precision orientation conversion) s
    (o.crop.left + across) (o.crop.top + down)
part-of-picture o info precision orientation conversion s across down is =
    crop-pixel true o info precision orientation conversion s across down is refl
