-- The lines of a picture: each by its number, how long it is, and all of them together.
use Rattle.std.proofs.lemmas.Grind.{common_steps}
use Rattle.std.proofs.Common.{◌≡◌, ℕ, zero, suc, ◌+◌, ◌*◌, ◌/◌, ◌%◌, ◌<◌, ◌≤◌, List, [], ◌∷◌}
use Rattle.std.proofs.Common.{length, get_or, map, take, drop, sym, ap, ◌∙◌, arith, length-append}
use Rattle.std.proofs.Common.{length-drop, length-take, slice_index, mul_comm, refl, subst}
use Rattle.std.proofs.Math.Nat.{div-add-mod, div-lt_iff_lt-mul, lt_of_mul-lt-mul_left, mod-lt, mul-le-mul_right}
use Rattle.std.proofs.lemmas.List.{get_or-drop, get_or-take, length-map}
use Rattle.std.proofs.lemmas.List.FromFn.{fill_by_all, get_or-map-range_with_len}
use Rattle.std.proofs.lemmas.List.FromFn.{length-map-range_with_len, length-range_with_len}
use Rattle.std.proofs.lemmas.Nat.{div_below}
use Rattle.std.specs.List.{AllByRecursion, concat, range_with_len}
use Rattle.jpeg_pixels.specs.declared.color_convert.ColorConvert.{ColorConvert}
use Rattle.jpeg_pixels.specs.declared.joint_planes.JointShape.{JointShape}
use Rattle.jpeg_pixels.specs.Colour.{colour_of, line_bytes}
use Rattle.jpeg_pixels.specs.JointPlanes.{HaveWidth, joint_bytes, joint_line, joint_row_size, strip_lines, strips_at}
use Rattle.jpeg_pixels.specs.Lines.{cropped_lines, joint_lines, upsampled_lines}
use Rattle.jpeg_pixels.specs.Pictures.{Source, converted_picture, lines_of, picture_line}
use Rattle.jpeg_pixels.specs.PicturesView.{IsFor}
use Rattle.jpeg_pixels.specs.Planes.{cropped}
use Rattle.jpeg_pixels.proofs.ComponentLines.{lines_of-length, lines_of-long}
use Rattle.jpeg_pixels.proofs.JoinedLines.{joined-at, joined-length}
use Rattle.jpeg_pixels.proofs.JointPictures.{strip_lines-count, strip_lines-long, strips-long}
use Rattle.jpeg_pixels.proofs.LinesOfColour.{line-none}
use Rattle.jpeg_pixels.proofs.PlaneRows.{some-left}

-- ---- lists that a function gives for the first numbers

-- how many there are
pub made-count : (f : ℕ → List ℕ) (n : ℕ) (lines : List (List ℕ)) → map f (range_with_len 0 n) ≡ lines
    → n ≡ length lines
made-count f n lines is = sym (length-map-range_with_len f 0 n) ∙ ap length is

-- each of them is as the function says
pub made-line : (f : ℕ → List ℕ) (n row : ℕ) (lines : List (List ℕ)) → map f (range_with_len 0 n) ≡ lines
    → row < length lines → (row < n) × (get_or lines row [] ≡ f row)
made-line f n row lines is h =
    let count = made-count f n lines is in
    let lt : row < n = omega arith in
    (lt, ap (λ (l : List (List ℕ)). get_or l row []) (sym is) ∙ get_or-map-range_with_len f 0 n row row [] lt (omega arith))

-- what is true of each of them
each-from : (P : List ℕ → Type 0) (f : ℕ → List ℕ) (n a : ℕ) → ((k : ℕ) → k < a + n → P (f k))
    → AllByRecursion P (map f (range_with_len a n))
each-from P f zero a each = tt
each-from P f (suc n) a each =
    (each a (omega arith), each-from P f n (a + 1) (λ k h. each k (omega arith)))

each-line : (f : ℕ → List ℕ) (n size : ℕ) → ((k : ℕ) → k < n → length (f k) ≡ size)
    → AllByRecursion (λ (l : List ℕ). length l ≡ size) (map f (range_with_len 0 n))
each-line f n size each = each-from (λ (l : List ℕ). length l ≡ size) f n 0 (λ k h. each k (omega arith))

-- lists of one length
made-wide : (f : ℕ → List ℕ) (n size : ℕ) → ((k : ℕ) → k < n → length (f k) ≡ size)
    → HaveWidth size (map f (range_with_len 0 n))
made-wide f n size each =
    let count : length (map f (range_with_len 0 n)) ≡ n = length-map-range_with_len f 0 n in
    record {
      each = λ k h.
          let lt : k < n = omega arith in
          ap length (get_or-map-range_with_len f 0 n k k [] lt (omega arith)) ∙ each k lt;
    }

-- ---- how long a line is

-- pieces of n entries each, put together
pub each-length : {A : Type 0} (f : A → List ℕ) (n : ℕ) (xs : List A) → ((x : A) → length (f x) ≡ n)
    → length (concat (map f xs)) ≡ length xs * n
each-length f n [] sizes = let e : 0 ≡ 0 * n = omega arith in e
each-length f n (x ∷ xs) sizes =
    grind (arith, common_steps, length-append, sizes x, each-length f n xs sizes)

pub made-length : (n width : ℕ) (line : ℕ → List ℕ) → ((x : ℕ) → length (line x) ≡ n)
    → length (concat (map line (range_with_len 0 width))) ≡ width * n
made-length n width line sizes =
    each-length line n (range_with_len 0 width) sizes ∙ ap (λ m. m * n) (length-range_with_len 0 width)

-- the bytes of a line, by the lines of its components
pub bytes-long : (convert : ColorConvert) (width : ℕ) (lines : List (List ℕ)) → HaveWidth width lines
    → IsFor (length lines) convert → length (line_bytes convert width lines) ≡ length lines * width
unfolding line_bytes colour_of
bytes-long convert width lines long fits =
    grind (arith, common_steps, line-none, joined-length, made-length, length-map, mul_comm)

-- a line of planes that stand apart
pub picture_line-long : (convert : ColorConvert) (sources : List Source) (planes : List (List ℕ)) (width row : ℕ)
    → length planes ≡ length sources → IsFor (length sources) convert
    → length (picture_line convert sources planes width row) ≡ length sources * width
unfolding picture_line
picture_line-long convert sources planes width row counts fits =
    let count = lines_of-length sources planes width row counts in
    bytes-long convert width (lines_of sources planes width row) (lines_of-long sources planes width row counts)
    (rw count fits) ∙ ap (λ n. n * width) count

-- where a line of planes in one buffer stands: there are such lines, in a row of MCUs and there
pub row-place : (rows lines row : ℕ) → row < rows * lines → (0 < lines) × (row / lines < rows) × (row % lines < lines)
row-place rows lines row h =
    let none : rows * 0 ≡ 0 = omega arith in
    let some : 0 < lines = lt_of_mul-lt-mul_left rows (omega arith) in
    (some, div_below row lines rows some h, mod-lt row some)

-- a line of planes in one buffer
pub joint_line-long : (convert : ColorConvert) (shape : JointShape) (width : ℕ) (samples : List ℕ) (row : ℕ)
    → width ≤ shape.stride → length samples ≡ shape.rows * joint_row_size shape
    → IsFor shape.count convert → row < shape.rows * shape.lines
    → length (joint_line convert shape width samples row) ≡ shape.count * width
joint_line-long convert shape width samples row wide full fits h =
    let place = row-place shape.rows shape.lines row h in
    let strips = strips_at shape samples (row / shape.lines) in
    let lines = strip_lines shape width strips (row % shape.lines) in
    let count = strip_lines-count shape width strips (row % shape.lines) in
    bytes-long convert width lines (strip_lines-long shape width strips (row % shape.lines) place.2 wide
    (strips-long shape samples (row / shape.lines) place.1 full)) (rw count fits) ∙ ap (λ n. n * width) count

-- ---- the picture

-- the lines of a plane that is cropped
module _ (stride width height : ℕ) (plane : List ℕ) (narrow : width ≤ stride)
    (room : height * stride ≤ length plane) where
  abbrev part : ℕ → List ℕ
  part row = take width (drop (row * stride) plane)

  pub part-inside : (row : ℕ) → row < height → row * stride + width ≤ length plane
  part-inside row h = omega (arith, mul-le-mul_right stride h)

  pub part-long : (row : ℕ) → row < height → length (take width (drop (row * stride) plane)) ≡ width
  part-long row h = omega (arith, part-inside row h, length-take {A = ℕ}, length-drop {A = ℕ})

  pub cropped-joined : concat (cropped_lines stride width height plane) ≡ cropped stride width height plane
  unfolding cropped
  cropped-joined =
      let lines = map part (range_with_len 0 height) in
      let count : length lines ≡ height = length-map-range_with_len part 0 height in
      let long : HaveWidth width lines = made-wide part height width part-long in
      let turned : width * height ≡ height * width = mul_comm width height in
      fill_by_all (λ i. slice_index plane (i / width * stride + i % width)) (concat lines) (width * height) 0
      (joined-length width lines long ∙ ap (λ n. n * width) count ∙ sym turned)
      (λ i h.
      let some : 0 < width = some-left width height i h in
      let after : i < height * width = omega (arith, turned) in
      let row : i / width < height = (div-lt_iff_lt-mul {k = width} {x = i} {y = height} some).1 after in
      let column : i % width < width = mod-lt i some in
      let is : i / width * width + i % width ≡ i = (λ j. mul_comm (i / width) width j + i % width)
      ∙ div-add-mod i width in
      ap (λ n. get_or (concat lines) n 0) (sym is)
      ∙ joined-at width lines (i / width) (i % width) long (omega (arith, count)) column
      ∙ ap (λ (l : List ℕ). get_or l (i % width) 0)
      (get_or-map-range_with_len part 0 height (i / width) (i / width) [] row (omega arith))
      ∙ get_or-take width (drop (i / width * stride) plane) (i % width) 0 column
      ∙ get_or-drop (i / width * stride) plane (i % width) 0)

-- the lines of planes that stand apart
pub upsampled-joined : (convert : ColorConvert) (sources : List Source) (planes : List (List ℕ)) (width height : ℕ)
    → concat (upsampled_lines convert sources planes width height)
    ≡ converted_picture convert sources planes width height
unfolding converted_picture
upsampled-joined convert sources planes width height = refl

-- and of planes in one buffer
pub joint-joined : (convert : ColorConvert) (shape : JointShape) (width : ℕ) (samples : List ℕ) (height : ℕ)
    → concat (joint_lines convert shape width samples height) ≡ joint_bytes convert shape width samples height
unfolding joint_bytes
joint-joined convert shape width samples height = refl

-- what is asked of the lines of a picture: how many there are, and how long each is
abbrev pub AreLines : ℕ → ℕ → List (List ℕ) → Type 0
AreLines height size lines = (length lines ≡ height) × AllByRecursion (λ (l : List ℕ). length l ≡ size) lines

pub lines-are : (f : ℕ → List ℕ) (n size : ℕ) (lines : List (List ℕ)) → lines ≡ map f (range_with_len 0 n)
    → ((k : ℕ) → k < n → length (f k) ≡ size) → AreLines n size lines
lines-are f n size lines is each =
    subst (AreLines n size) (sym is) (length-map-range_with_len f 0 n, each-line f n size each)
