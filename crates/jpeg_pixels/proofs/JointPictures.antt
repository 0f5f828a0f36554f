-- Planes in one room: the lines of rows of MCUs, the plane of a component, and the picture.
use Rattle.std.proofs.lemmas.Grind.{common_steps, elements}
use Rattle.std.proofs.Common.{◌≡◌, ℕ, ◌+◌, ◌-◌, ◌*◌, ◌/◌, ◌%◌, ◌<◌, ◌≤◌, List, [], ◌∷◌, ◌++◌, length, map, min, take}
use Rattle.std.proofs.Common.{drop, get_or, ap, ◌∙◌, sym, refl, Ok, arith, rules, length-drop, length-take, zero, suc}
use Rattle.std.proofs.Common.{slice_index, length-append}
use Rattle.std.proofs.Math.Nat.{add-mul, lt_of_mul-lt-mul_left, mod-lt, mul_assoc}
use Rattle.std.proofs.Math.Nat.{mul-div_cancel_left, mul-le-mul, mul-le-mul_left, mul-le-mul_right}
use Rattle.std.proofs.lemmas.Bool.{eq-eqb}
use Rattle.std.proofs.lemmas.List.{drop-drop, get_or-drop, length-take-le, places, append-nil, get_or-take}
use Rattle.std.proofs.lemmas.List.Folds.{concat-append}
use Rattle.std.proofs.lemmas.List.FromFn.{get_or-map-range_with_len, length-map-range_with_len, map-range_with_len_more}
use Rattle.std.proofs.lemmas.Nat.{div-add-mod', div_below, div-mul-add, mod-mul-add, mul-add-lt, row_fits}
use Rattle.std.proofs.lemmas.Slice.{take-put_mid, drop-put_mid}
use Rattle.std.specs.List.{AllByRecursion, concat, range_with_len}
use borrow.Rule.Slice.PartMut.{mid_of, put_mid}
use Rattle.jpeg_bits.specs.declared.color_transform.ColorTransform.{ColorTransform}
use Rattle.jpeg_segments.specs.Checks.{gathered as results}
use Rattle.jpeg_segments.specs.Frame.{AllHaveSampling, Component, Factors, greatest}
use Rattle.jpeg_pixels.specs.Colour.{conversion_of, line_bytes}
use Rattle.jpeg_pixels.specs.JointPlanes.{AreAlike, IsShapeOf, converted, gathered, joint_bytes, joint_plane}
use Rattle.jpeg_pixels.specs.JointPlanes.{joint_planes, joint_row_size, strip_lines, strip_size, strips_at, HaveWidth}
use Rattle.jpeg_pixels.specs.Pictures.{Source, image_of, line_of, lines_of, converted_picture}
use Rattle.jpeg_pixels.specs.Pictures.{picture_line, source_of, sources_of}
use Rattle.jpeg_pixels.specs.Upsampling.{rule_of, upsampled}
use Rattle.jpeg_pixels.specs.declared.upsample_rows.UpsampleRule.TheVariants.{H1V1}
use Rattle.jpeg_pixels.specs.declared.joint_planes.JointShape.{JointShape}
use Rattle.jpeg_pixels.specs.declared.color_convert.ColorConvert.{ColorConvert}
use Rattle.jpeg_pixels.proofs.ComponentLines.{line_by_samples}
use Rattle.jpeg_pixels.proofs.SourceLists.{source_with}
use Rattle.jpeg_pixels.proofs.Sums.{range-split}
use Rattle.jpeg_pixels.proofs.WholePictures.{image-is}
use Rattle.std.proofs.Math.Seq.{drop-append-add, take-append_seam}
use Rattle.jpeg_pixels.proofs.JoinedLines.{AreLong-more, joined-length}

-- the lists that a function gives for the first numbers, one after the other
abbrev pub joined : (ℕ → List ℕ) → ℕ → List ℕ
joined f n = concat (map f (range_with_len 0 n))

-- one list more
pub joined-more : (f : ℕ → List ℕ) (n : ℕ) → joined f (n + 1) ≡ joined f n ++ f n
joined-more f n =
    ap concat (map-range_with_len_more f 0 n n (omega arith))
    ∙ concat-append (map f (range_with_len 0 n)) (f n ∷ [])
    ∙ ap (λ (l : List ℕ). joined f n ++ l) (append-nil (f n))

-- one list more, written after those before it
pub joined-put : (f : ℕ → List ℕ) (n all line size k : ℕ) (now new : List ℕ) → n < all
    → line ≡ size → length now ≡ all * size → length new ≡ line → new ≡ f n
    → take (n * line) now ≡ joined f n
    → take ((n + 1) * line) (put_mid (n * line) k now new) ≡ joined f (n + 1)
joined-put f n all line size k now new h same room long is before =
    grind (arith, common_steps, row_fits, joined-more, take-put_mid)

-- one of several lines of one length, by its number
joined-part : (n : ℕ) (lines : List (List ℕ)) (k : ℕ) → HaveWidth n lines → k < length lines
    → take n (drop (k * n) (concat lines)) ≡ get_or lines k []
joined-part n [] k long h = absurd (omega arith)
joined-part n (l ∷ lines) zero long h =
    let first : length l ≡ n = long.each 0 (omega arith) in
    let e : 0 * n ≡ 0 = omega arith in
    rw e (search (rules, take-append_seam))
joined-part n (l ∷ lines) (suc k) long h =
    let first : length l ≡ n = long.each 0 (omega arith) in
    let e : suc k * n ≡ n + k * n = omega arith in
    let rest = joined-part n lines k (AreLong-more n l lines long) (omega arith) in
    rw e (search (rules, drop-append-add, rest))

-- a part of a row is within the rows
pub part-fits : (row rows part parts size : ℕ) → row < rows → part < parts
    → row * (parts * size) + part * size + size ≤ rows * (parts * size)
part-fits row rows part parts size h lt = grind (arith, common_steps, row_fits)

-- the part of a line that a strip has
abbrev pub strip_line : JointShape → ℕ → List ℕ → ℕ → ℕ → List ℕ
strip_line shape width strips line slot =
    take width (drop (slot * strip_size shape + line * shape.stride) strips)

-- there is such a part for each component
pub strip_lines-count : (shape : JointShape) (width : ℕ) (strips : List ℕ) (line : ℕ)
    → length (strip_lines shape width strips line) ≡ shape.count
unfolding strip_lines
strip_lines-count shape width strips line = grind (arith, common_steps, length-map-range_with_len)

-- each is as wide as the picture
pub strip_lines-long : (shape : JointShape) (width : ℕ) (strips : List ℕ) (line : ℕ)
    → line < shape.lines → width ≤ shape.stride → length strips ≡ joint_row_size shape
    → HaveWidth width (strip_lines shape width strips line)
unfolding strip_lines
strip_lines-long shape width strips line lt wide long =
    grind (arith, common_steps, length-map-range_with_len, part-fits, get_or-map-range_with_len)

-- a line of those that were gathered
pub gathered-line : (shape : JointShape) (width : ℕ) (strips given : List ℕ) (count line size : ℕ)
    → line < count → count ≤ shape.lines → width ≤ shape.stride → length strips ≡ joint_row_size
    shape
    → size ≡ shape.count * width → given ≡ gathered shape width strips count
    → take (line * size + size - line * size) (drop (line * size) given)
    ≡ concat (strip_lines shape width strips line)
unfolding gathered
gathered-line shape width strips given count line size lt high wide long is from =
    let f = λ (k : ℕ). concat (strip_lines shape width strips k) in
    let lines = map f (range_with_len 0 count) in
    let counted : length lines ≡ count = length-map-range_with_len f 0 count in
    let at : (k : ℕ) → k < count → get_or lines k [] ≡ f k = λ k h.
    get_or-map-range_with_len f 0 count k k [] h (omega arith) in
    let longs : HaveWidth size lines = record {
      each = λ k h. ap length (at k (omega arith))
          ∙ joined-length width (strip_lines shape width strips k)
          (strip_lines-long shape width strips k (omega arith) wide long)
          ∙ ap (λ m. m * width) (strip_lines-count shape width strips k) ∙ sym is;
    } in
    let same : line * size + size - line * size ≡ size = omega arith in
    rw (same, from) (joined-part size lines line longs (omega arith) ∙ at line lt)

-- the first values of a function, and some more
values-more : (f : ℕ → ℕ) (xs ys : List ℕ) (a n : ℕ) → xs ≡ map f (range_with_len 0 a)
    → length ys ≡ n → ((k : ℕ) → k < n → get_or ys k 0 ≡ f (a + k))
    → xs ++ ys ≡ map f (range_with_len 0 (a + n))
values-more f xs ys a n is own each =
    grind (arith, elements, length-append, length-map-range_with_len, get_or-map-range_with_len)

-- the first samples of the plane of the component in a slot
abbrev pub first_samples : JointShape → List ℕ → ℕ → ℕ → List ℕ
first_samples shape samples slot n =
    map (λ i. slice_index samples (i / strip_size shape * joint_row_size shape + (slot * strip_size
    shape
    + i % strip_size shape))) (range_with_len 0 n)

-- one strip more of a plane
pub samples-more : (shape : JointShape) (samples given plane : List ℕ) (slot row size long : ℕ)
    → row < shape.rows → slot < shape.count → length samples ≡ shape.rows * joint_row_size shape
    → size ≡ strip_size shape → long ≡ joint_row_size shape → given ≡ samples
    → plane ≡ first_samples shape samples slot (row * size)
    → plane ++ take (row * long + slot * size + size - (row * long + slot * size))
    (drop (row * long + slot * size) given) ≡ first_samples shape samples slot ((row + 1) * size)
samples-more shape samples given plane slot row size long h lt whole is_size is_long is before =
    let n = strip_size shape in
    let f = λ (i : ℕ). slice_index samples (i / n * joint_row_size shape + (slot * n + i % n)) in
    let start = row * joint_row_size shape + slot * n in
    let all : (row + 1) * n ≡ row * n + n = omega arith in
    let same : start + n - start ≡ n = omega arith in
    let fits = part-fits row shape.rows slot shape.count n h lt in
    rw (is_size, is_long, is, same, all)
    (values-more f plane (take n (drop start samples)) (row * n) n (rw is_size at before)
    (simp (length-take, length-drop) (omega (arith, fits)))
    (λ k below. get_or-take n (drop start samples) k 0 below ∙ get_or-drop start samples k 0
    ∙ rw (div-mul-add row n k below, mod-mul-add row n k below)
    (ap (λ m. get_or samples m 0) (omega arith))))

-- all strips
pub samples-all : (shape : JointShape) (samples : List ℕ) (slot : ℕ) → slot < shape.count
    → length samples ≡ shape.rows * joint_row_size shape
    → first_samples shape samples slot (shape.rows * strip_size shape)
    ≡ joint_plane shape samples slot
unfolding joint_plane
samples-all shape samples slot lt long =
    let some : 0 < shape.count = omega arith in
    let size = shape.rows * strip_size shape in
    let e : length samples ≡ shape.count * size = omega arith in
    ap (first_samples shape samples slot)
    (sym (ap (λ n. n / shape.count) e ∙ mul-div_cancel_left size some))

pub ruleset strips = (common_steps, samples-more)

-- ---- lines one after the other

-- the lines that a function gives, and n more of them, which another one gives from its beginning
lines-after : (f g : ℕ → List ℕ) (a n end : ℕ) → end ≡ a + n
    → ((k : ℕ) → k < n → f (a + k) ≡ g k)
    → concat (map f (range_with_len 0 end))
    ≡ concat (map f (range_with_len 0 a)) ++ concat (map g (range_with_len 0 n))
lines-after f g a n end e same =
    rw (e, range-split f g a n same) (concat-append (map f (range_with_len 0 a)) (map g (range_with_len 0 n)))

-- ---- rows of MCUs

-- the lines of the picture above a row of MCUs, and those of that row
lines-more : (height row lines : ℕ)
    → min height ((row + 1) * lines) ≡ min height (row * lines) + min lines (height - row * lines)
lines-more height row lines = omega (arith, add-mul)

-- the strips of a row of MCUs are in the room
pub strips-inside : (shape : JointShape) (row first size long whole : ℕ)
    → first ≡ joint_row_size shape → size ≡ joint_row_size shape → row < shape.rows → long ≡ whole
    → whole ≡ shape.rows * joint_row_size shape → row * first + size ≤ long
strips-inside shape row first size long whole e f lt g is = search (rules, row_fits)

-- and the samples have all of them
pub strips-long : (shape : JointShape) (samples : List ℕ) (row : ℕ) → row < shape.rows
    → length samples ≡ shape.rows * joint_row_size shape
    → length (strips_at shape samples row) ≡ joint_row_size shape
strips-long shape samples row lt full =
    let inside = strips-inside shape row _ _ _ _ refl refl lt full refl in
    let left = length-drop (row * joint_row_size shape) samples in
    length-take-le (joint_row_size shape) (drop (row * joint_row_size shape) samples) (omega arith)

-- the lines of the picture above a row of MCUs stand in a list
abbrev pub AreWritten : ColorConvert → JointShape → ℕ → List ℕ → ℕ → ℕ → List ℕ → Type 0
AreWritten convert shape width samples height row out =
    take (min height (row * shape.lines) * (shape.count * width)) out
    ≡ joint_bytes convert shape width samples (min height (row * shape.lines))

-- after the last row of MCUs all lines do
pub all-written : (convert : ColorConvert) (shape : JointShape) (width : ℕ) (samples : List ℕ)
    (height row : ℕ) (out : List ℕ) → height ≤ shape.rows * shape.lines → shape.rows ≤ row
    → AreWritten convert shape width samples height row out
    → take (height * (shape.count * width)) out ≡ joint_bytes convert shape width samples height
all-written convert shape width samples height row out high end is =
    grind (arith, common_steps, mul-le-mul_right)

-- The lines of a row of MCUs are written after those above it. They are made of the strips that are
-- read, which are those of the samples.
pub row-written : (convert : ColorConvert) (shape : JointShape) (width : ℕ) (samples : List ℕ)
    (height row : ℕ) (out room lines new : List ℕ) (start count size whole whole' k : ℕ)
    → start ≡ min height (row * shape.lines)
    → count ≡ min shape.lines (height - row * shape.lines)
    → size ≡ shape.count * width → whole ≡ joint_row_size shape → whole' ≡ joint_row_size shape
    → row < shape.rows → length samples ≡ shape.rows * joint_row_size shape
    → drop (row * joint_row_size shape) room ≡ drop (row * joint_row_size shape) samples
    → length new ≡ count * size → start * size ≤ length out
    → lines ≡ gathered shape width
    (take (row * whole + whole' - row * whole) (drop (row * whole) room)) count
    → ((strips : List ℕ) → length strips ≡ joint_row_size shape
    → lines ≡ gathered shape width strips count
    → new ≡ converted convert shape width strips count)
    → AreWritten convert shape width samples height row out
    → AreWritten convert shape width samples height (row + 1) (put_mid (start * size) k out new)
unfolding joint_bytes converted
row-written convert shape width samples height row out room lines new start count size whole
    whole' k starts counts sizes wholes wholes' lt full same long inside read made before =
    let next : min height ((row + 1) * shape.lines) * (shape.count * width)
    ≡ start * size + length new =
    cc (lines-more height row shape.lines, add-mul start count size) in
    let some : row * whole + whole' - row * whole ≡ joint_row_size shape = omega arith in
    let strips = strips_at shape samples row in
    let here = made strips (strips-long shape samples row lt full) (read ∙ cc) in
    let more : joint_bytes convert shape width samples (start + count)
    ≡ joint_bytes convert shape width samples start
    ++ converted convert shape width strips count = lines-after _ _ start count _ refl (λ k h.
    let first : start ≡ row * shape.lines = omega arith in
    let below : k < shape.lines = omega arith in
    rw (first, div-mul-add row shape.lines k below, mod-mul-add row shape.lines k below) refl) in
    take-put_mid (start * size) k out new _ next inside ∙ cc (lines-more height row shape.lines)

-- the strips after those of the row are as they were
pub unread-more : (shape : JointShape) (row start k : ℕ) (room samples new : List ℕ)
    → length new ≡ length (mid_of start k room) → start + k ≤ (row + 1) * joint_row_size shape
    → (row + 1) * joint_row_size shape ≤ length room
    → drop (row * joint_row_size shape) room ≡ drop (row * joint_row_size shape) samples
    → drop ((row + 1) * joint_row_size shape) (put_mid start k room new)
    ≡ drop ((row + 1) * joint_row_size shape) samples
unread-more shape row start k room samples new long below inside same =
    let size = joint_row_size shape in
    let next : (row + 1) * size ≡ row * size + size = omega (arith, add-mul) in
    let some : length new ≡ k =
    omega (arith, length-take k (drop start room), length-drop start room) in
    drop-put_mid start k room new _ below (omega arith) some
    ∙ rw next (sym (drop-drop size (row * size) room) ∙ ap (drop size) same
    ∙ drop-drop size (row * size) samples)

-- the lines of a row of MCUs end before the strips of the next one
pub lines-end : (shape : JointShape) (width height row start count size long whole : ℕ)
    → width ≤ shape.stride → start ≡ min height (row * shape.lines)
    → count ≡ min shape.lines (height - row * shape.lines) → size ≡ shape.count * width
    → row < shape.rows → long ≡ whole → whole ≡ shape.rows * joint_row_size shape
    → (start * size + count * size ≤ (row + 1) * joint_row_size shape)
    × ((row + 1) * joint_row_size shape ≤ long)
lines-end shape width height row start count size long whole wide first some is lt e full =
    let within : start + count ≤ (row + 1) * shape.lines =
    omega (arith, lines-more height row shape.lines) in
    let wider : size ≤ shape.count * shape.stride =
    omega (arith, mul-le-mul_left shape.count wide) in
    let most : (start + count) * size ≤ ((row + 1) * shape.lines) * (shape.count * shape.stride) =
    mul-le-mul within wider in
    (omega (arith, add-mul, mul_assoc), omega (arith, mul-le-mul_right (joint_row_size shape) lt))

-- ---- sources of components alike

-- the samples of a component are those of the picture
abbrev plain : Component → Source
plain c = source_with c H1V1

-- the greatest factor is the one that all have
greatest-alike : (f : Factors → ℕ) (n : ℕ) (P : Component → Type 0)
    → ((c : Component) → P c → f c.factors ≡ n) → 1 ≤ n → (c : Component) (more : List Component)
    → P c → AllByRecursion P more → greatest f (map (λ (d : Component). d.factors) (c ∷ more)) ≡ n
greatest-alike f n P each some c [] here all = omega (arith, each c here)
greatest-alike f n P each some c (d ∷ more) here all =
    omega (arith, each c here, greatest-alike f n P each some d more all.0 all.1)

-- components of the greatest factors are not upsampled
sources-plain : (h v width height : ℕ) (cs : List Component)
    → AllByRecursion (λ c. (c.factors.horizontal ≡ h) × (c.factors.vertical ≡ v)) cs
    → results (source_of h v width height) cs ≡ Ok (map plain cs)
unfolding rule_of results source_of
sources-plain h v width height [] all = refl
sources-plain h v width height (c ∷ more) all =
    let rest = sources-plain h v width height more all.1 in
    rw (all.0.0, all.0.1, eq-eqb h h refl, eq-eqb v v refl, rest) refl

-- nor are components alike
sources-alike : (components : List Component) (width height stride : ℕ) → 0 < length components
    → AllHaveSampling components → AreAlike components stride
    → sources_of components width height ≡ Ok (map plain components)
unfolding AllHaveSampling
sources-alike [] width height stride some factors alike = absurd (omega arith)
sources-alike (c ∷ more) width height stride some factors alike =
    let h = alike.horizontal in
    let v = alike.vertical in
    let P = λ (d : Component). (d.factors.horizontal ≡ h) × (d.factors.vertical ≡ v) in
    let here = alike.factors.0 in
    let rest = alike.factors.1 in
    let sampling = factors.0 in
    let most_h = greatest-alike (λ f. f.horizontal) h P (λ d e. e.0) (omega arith) c more here rest
    in
    let most_v = greatest-alike (λ f. f.vertical) v P (λ d e. e.1) (omega arith) c more here rest in
    (λ i. results (source_of (most_h i) (most_v i) width height) (c ∷ more))
    ∙ sources-plain h v width height (c ∷ more) alike.factors

-- ---- lines of planes in one room

module _ (shape : JointShape) (samples : List ℕ)
    (full : length samples ≡ shape.rows * joint_row_size shape) where
  -- the sample of a plane
  plane-at : (slot i : ℕ) → slot < shape.count → i < shape.rows * strip_size shape
      → get_or (joint_plane shape samples slot) i 0
      ≡ get_or samples (i / strip_size shape * joint_row_size shape
      + (slot * strip_size shape + i % strip_size shape)) 0
  unfolding joint_plane
  plane-at slot i inside lt =
      let size = shape.rows * strip_size shape in
      let all : length samples ≡ shape.count * size = omega arith in
      let some : length samples / shape.count ≡ size =
      rw all (mul-div_cancel_left size (omega arith)) in
      rw some (get_or-map-range_with_len _ 0 size i i 0 lt (omega arith))

  -- the part of a line of the picture that the strip in a slot has
  abbrev part : ℕ → ℕ → ℕ → List ℕ
  part width row slot =
      take width (drop (slot * strip_size shape + row % shape.lines * shape.stride)
      (strips_at shape samples (row / shape.lines)))

  -- it is the line of the component
  line-plain : (width row slot : ℕ) (c : Component) → width ≤ shape.stride
      → row < shape.rows * shape.lines → slot < shape.count
      → c.blocks_wide * c.scale ≡ shape.stride
      → line_of (plain c) (joint_plane shape samples slot) width row ≡ part width row slot
  unfolding upsampled
  line-plain width row slot c wide lt inside stride =
      let size = strip_size shape in
      let mcu = row / shape.lines in
      let line = row % shape.lines in
      let none : shape.rows * 0 ≡ 0 = omega arith in
      let some : 0 < shape.lines = lt_of_mul-lt-mul_left shape.rows (omega arith) in
      let above : mcu < shape.rows = div_below row shape.lines shape.rows some lt in
      let below : line < shape.lines = mod-lt row some in
      let low = row_fits line shape.stride shape.lines shape.stride below (omega arith) in
      let high = row_fits slot size shape.count size inside (omega arith) in
      let long = strips-long shape samples mcu above full in
      let first = slot * size + line * shape.stride in
      let left = length-drop first (strips_at shape samples mcu) in
      sym (line_by_samples (plain c) (joint_plane shape samples slot) width row
      (part width row slot) (length-take-le width _ (omega arith)) (λ x h.
      let rest = line * shape.stride + x in
      let at : first + x ≡ slot * size + rest = omega arith in
      let read : get_or (part width row slot) x 0
      ≡ get_or samples (mcu * joint_row_size shape + (first + x)) 0 = search (rules, places) in
      let lines = ap (λ n. n * shape.stride) (div-add-mod' row shape.lines) in
      let is : mcu * size + rest ≡ row * (c.blocks_wide * c.scale) + x =
      omega (arith, add-mul, mul_assoc, lines, ap (λ n. row * n) stride) in
      let in_strip : rest < size = omega arith in
      let in_plane = mul-add-lt mcu size rest shape.rows above in_strip in
      cc (
        plane-at slot (mcu * size + rest) inside (omega arith),
        div-mul-add mcu size rest in_strip,
        mod-mul-add mcu size rest in_strip,
      )))

  -- and so are the lines of all components, from a slot on
  lines-plain : (width row slot n : ℕ) (cs : List Component) → n ≡ length cs
      → AllByRecursion (λ c. c.blocks_wide * c.scale ≡ shape.stride) cs → width ≤ shape.stride
      → row < shape.rows * shape.lines → slot + n ≤ shape.count
      → lines_of (map plain cs) (map (joint_plane shape samples) (range_with_len slot n)) width row
      ≡ map (part width row) (range_with_len slot n)
  unfolding lines_of
  lines-plain width row slot n [] count strides wide lt inside = rw count refl
  lines-plain width row slot n (c ∷ more) count strides wide lt inside =
      let here = line-plain width row slot c wide lt (omega arith) strides.0 in
      let left : slot + 1 + length more ≤ shape.count = omega arith in
      let rest = lines-plain width row (slot + 1) (length more) more refl strides.1 wide lt left in
      rw count (cc)

  -- so the picture is made line by line of the strips
  picture-joint : (convert : ColorConvert) (width height : ℕ) (cs : List Component)
      → shape.count ≡ length cs → AllByRecursion (λ c. c.blocks_wide * c.scale ≡ shape.stride) cs
      → width ≤ shape.stride → height ≤ shape.rows * shape.lines
      → converted_picture convert (map plain cs) (joint_planes shape samples) width height
      ≡ joint_bytes convert shape width samples height
  unfolding converted_picture picture_line joint_bytes joint_planes strip_lines
  picture-joint convert width height cs count strides wide high =
      lines-after _ _ 0 height height (omega arith) (λ row h.
      let from : 0 + row ≡ row = omega arith in
      rw from (ap (line_bytes convert width) (lines-plain width row 0 shape.count cs count strides
      wide (omega arith) (omega arith))))

  -- what `image_of` gives for components alike, by the bytes that are made of their strips
  pub image-joint : (components : List Component) (width height : ℕ) (transform : ColorTransform)
      (convert : ColorConvert) (bytes : List ℕ) → AllHaveSampling components
      → IsShapeOf components width height shape
      → conversion_of (length components) transform ≡ Ok convert
      → bytes ≡ joint_bytes convert shape width samples height
      → image_of components (joint_planes shape samples) width height transform ≡ Ok bytes
  image-joint components width height transform convert bytes factors is fits made =
      let some : 0 < length components = omega (arith, is.count, is.some) in
      let sources = sources-alike components width height shape.stride some factors is.alike in
      image-is components (joint_planes shape samples) width height transform convert
      (map plain components) bytes fits sources
      (made ∙ sym (picture-joint convert width height components is.count is.alike.strides is.wide
      is.high))
