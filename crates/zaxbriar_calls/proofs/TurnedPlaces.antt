-- Where the bytes of a picture stand that is turned upright.
use Rattle.std.proofs.Common.{◌≡◌, ◌∙◌, ℕ, zero, suc, ◌+◌, ◌*◌, ◌/◌, ◌%◌, ◌<◌, ◌≤◌, ◌⊎◌, Bool, true}
use Rattle.std.proofs.Common.{false, refl, ◌&&◌, if◌then◌else◌, List, ap, arith, drop, inl, inr}
use Rattle.std.proofs.Common.{le_refl, nat_lt, slice_index_or, subst, sym, take}
use Rattle.std.proofs.lemmas.Bool.{and_parts, cases_Bool, lt-ltb, ltb-true}
use Rattle.std.proofs.lemmas.Nat.{div-add-mod', div-mul-add, div_below, mod-mul-add, mod_below}
use Rattle.std.proofs.lemmas.Nat.{row_fits}
use Rattle.jpeg_orientation.specs.Turns.{flips_x, flips_y, is_on_side, mirrored, stored_offset}
use Rattle.jpeg_orientation.specs.Turns.{upright_across, upright_down, upright_height}
use Rattle.jpeg_orientation.specs.Turns.{upright_width}
use Rattle.jpeg_orientation.specs.declared.turns.Turn.{Turn}
use Rattle.zaxbriar_calls.specs.Layouts.{pixel_of}
use Rattle.zaxbriar_calls.specs.Upright.{HasRoom, pixel_start, turned_byte, upright_pixel}
use Rattle.zaxbriar_calls.specs.declared.lines.Lines.{Lines}

-- ---- sides

pub mirrored-below : (flips : Bool) (side index : ℕ) → index < side
    → mirrored flips side index < side
mirrored-below true side index h = omega arith
mirrored-below false side index h = h

pub mirrored-twice : (flips : Bool) (side index : ℕ) → index < side
    → mirrored flips side (mirrored flips side index) ≡ index
mirrored-twice true side index h = omega arith
mirrored-twice false side index h = refl

-- a line of the upright picture is at this place
place-is : (bottom_up : Bool) (height down place : ℕ) → (bottom_up ≡ false → place ≡ down)
    → (bottom_up ≡ true → place + down + 1 ≡ height) → place ≡ mirrored bottom_up height down
place-is true height down place below above = omega (arith, above refl)
place-is false height down place below above = below refl

-- a picture that is not turned has its own size
pub stored-width : (turn : Turn) → turn.orientation ≡ 1 → upright_width turn ≡ turn.width
stored-width turn e = λ i. if is_on_side (e i) then turn.height else turn.width

pub stored-height : (turn : Turn) → turn.orientation ≡ 1 → upright_height turn ≡ turn.height
stored-height turn e = λ i. if is_on_side (e i) then turn.width else turn.height

-- ---- pixels of the stored picture in the upright one

-- a pixel of the stored picture stands inside the upright one
stands-inside : (turn : Turn) (x y : ℕ) → x < turn.width → y < turn.height
    → (upright_across turn x y < upright_width turn)
    × (upright_down turn x y < upright_height turn)
stands-inside turn x y hx hy = go (is_on_side turn.orientation)
    (mirrored-below (flips_x turn.orientation) turn.width x hx)
    (mirrored-below (flips_y turn.orientation) turn.height y hy)
  where
    go : {a b m n : ℕ} (side : Bool) → a < m → b < n
        → ((if side then b else a) < (if side then n else m))
        × ((if side then a else b) < (if side then m else n))
    go true across down = (down, across)
    go false across down = (across, down)

-- the pixel that stands there is this one
offset-is : (turn : Turn) (x y : ℕ) → x < turn.width → y < turn.height
    → stored_offset turn (upright_across turn x y) (upright_down turn x y) ≡ y * turn.width + x
offset-is turn x y hx hy = go (is_on_side turn.orientation)
  where
    go : (side : Bool) → mirrored (flips_y turn.orientation) turn.height
        (if side
        then (if side then mirrored (flips_y turn.orientation) turn.height y
        else mirrored (flips_x turn.orientation) turn.width x)
        else (if side then mirrored (flips_x turn.orientation) turn.width x
        else mirrored (flips_y turn.orientation) turn.height y)) * turn.width
        + mirrored (flips_x turn.orientation) turn.width
        (if side
        then (if side then mirrored (flips_x turn.orientation) turn.width x
        else mirrored (flips_y turn.orientation) turn.height y)
        else (if side then mirrored (flips_y turn.orientation) turn.height y
        else mirrored (flips_x turn.orientation) turn.width x))
        ≡ y * turn.width + x
    go true = λ i. mirrored-twice (flips_y turn.orientation) turn.height y hy i * turn.width
        + mirrored-twice (flips_x turn.orientation) turn.width x hx i
    go false = λ i. mirrored-twice (flips_y turn.orientation) turn.height y hy i * turn.width
        + mirrored-twice (flips_x turn.orientation) turn.width x hx i

-- a pixel that stands there is one of the stored picture
pixel-of-place : (turn : Turn) (across down : ℕ) → across < upright_width turn
    → down < upright_height turn
    → (x : ℕ) × (y : ℕ) × (x < turn.width) × (y < turn.height) × (upright_across turn x y ≡ across)
    × (upright_down turn x y ≡ down)
pixel-of-place turn across down ha hd =
    go (is_on_side turn.orientation) (flips_x turn.orientation)
    (flips_y turn.orientation) turn.width turn.height ha hd
  where
    go : (side fx fy : Bool) (width height : ℕ) → across < (if side then height else width)
        → down < (if side then width else height)
        → (x : ℕ) × (y : ℕ) × (x < width) × (y < height)
        × ((if side then mirrored fy height y else mirrored fx width x) ≡ across)
        × ((if side then mirrored fx width x else mirrored fy height y) ≡ down)
    go true fx fy width height ha hd = (
      mirrored fx width down,
      mirrored fy height across,
      mirrored-below fx width down hd,
      mirrored-below fy height across ha,
      mirrored-twice fy height across ha,
      mirrored-twice fx width down hd,
    )
    go false fx fy width height ha hd = (
      mirrored fx width across,
      mirrored fy height down,
      mirrored-below fx width across ha,
      mirrored-below fy height down hd,
      mirrored-twice fx width across ha,
      mirrored-twice fy height down hd,
    )

-- ---- bytes of lines

sum-fits : (place stride row across width bytes all : ℕ) → place * stride + row ≤ all
    → row ≡ width * bytes
    → across * bytes + bytes ≤ width * bytes → place * stride + across * bytes + bytes ≤ all
sum-fits place stride row across width bytes all room line inside = omega arith

-- what is asked of a pixel's place: its column, its line and its bytes are inside
across-room : (lines : Lines) (bytes x y : ℕ) → HasRoom lines bytes → x < lines.turn.width
    → y < lines.turn.height
    → upright_across lines.turn x y * lines.pixel_bytes + lines.pixel_bytes
    ≤ lines.width * lines.pixel_bytes
across-room lines bytes x y room hx hy =
    let across : upright_across lines.turn x y < lines.width =
    subst (λ n. upright_across lines.turn x y < n) (sym room.width)
    (stands-inside lines.turn x y hx hy).0 in
    row_fits (upright_across lines.turn x y) lines.pixel_bytes lines.width lines.pixel_bytes across
    (le_refl lines.pixel_bytes)

pub down-inside : (lines : Lines) (bytes x y : ℕ) → HasRoom lines bytes → x < lines.turn.width
    → y < lines.turn.height
    → upright_down lines.turn x y < lines.height
down-inside lines bytes x y room hx hy =
    subst (λ n. upright_down lines.turn x y < n) (sym room.height)
    (stands-inside lines.turn x y hx hy).1

pub pixel-fits : (lines : Lines) (bytes x y : ℕ) → HasRoom lines bytes → x < lines.turn.width
    → y < lines.turn.height
    → pixel_start lines x y + lines.pixel_bytes ≤ bytes
pixel-fits lines bytes x y room hx hy =
    let place : ℕ = mirrored lines.bottom_up lines.height (upright_down lines.turn x y) in
    let low : place < lines.height = mirrored-below lines.bottom_up lines.height
    (upright_down lines.turn x y)
    (down-inside lines bytes x y room hx hy) in
    sum-fits place lines.stride lines.row_bytes
    (upright_across lines.turn x y) lines.width lines.pixel_bytes bytes
    (room.room place low) room.line (across-room lines bytes x y room hx hy)

-- a pixel begins at this place
pub start-is : (lines : Lines) (x y across down place bytes : ℕ)
    → across ≡ upright_across lines.turn x y
    → down ≡ upright_down lines.turn x y → (lines.bottom_up ≡ false → place ≡ down)
    → (lines.bottom_up ≡ true → place + down + 1 ≡ lines.height) → bytes ≡ lines.pixel_bytes
    → place * lines.stride + across * bytes ≡ pixel_start lines x y
start-is lines x y across down place bytes a d below above b =
    let p : place ≡ mirrored lines.bottom_up lines.height (upright_down lines.turn x y) =
    place-is lines.bottom_up lines.height down place below above
    ∙ ap (λ n. mirrored lines.bottom_up lines.height n) d in
    λ i. p i * lines.stride + a i * b i

-- a byte of the upright picture, by its place among the lines, its byte there, its pixel, and its
-- byte in that
byte-at : (lines : Lines) (samples old : List ℕ) (index place byte across part : ℕ)
    → index / lines.stride ≡ place → index % lines.stride ≡ byte → byte / lines.pixel_bytes ≡ across
    → byte % lines.pixel_bytes ≡ part → place < lines.height → byte < lines.row_bytes
    → turned_byte lines samples old index ≡ slice_index_or (pixel_of lines.conversion
    (upright_pixel lines samples across (mirrored lines.bottom_up lines.height place))) part 0
unfolding turned_byte
byte-at lines samples old index place byte across part p b a k low inside =
    let a' : (index % lines.stride) / lines.pixel_bytes ≡ across =
    ap (λ n. n / lines.pixel_bytes) b ∙ a in
    let k' : (index % lines.stride) % lines.pixel_bytes ≡ part =
    ap (λ n. n % lines.pixel_bytes) b ∙ k in
    let t : nat_lt place lines.height ≡ true = lt-ltb place lines.height low in
    let u : nat_lt byte lines.row_bytes ≡ true = lt-ltb byte lines.row_bytes inside in
    (λ i. if nat_lt (p i) lines.height && nat_lt (b i) lines.row_bytes
    then slice_index_or (pixel_of lines.conversion
    (upright_pixel lines samples (a' i) (mirrored lines.bottom_up lines.height (p i)))) (k' i) 0
    else slice_index_or old index 0)
    ∙ (λ i. if t i && u i
    then slice_index_or (pixel_of lines.conversion
    (upright_pixel lines samples across (mirrored lines.bottom_up lines.height place))) part 0
    else slice_index_or old index 0)

byte-outside : (lines : Lines) (samples old : List ℕ) (index : ℕ)
    → (nat_lt (index / lines.stride) lines.height && nat_lt (index % lines.stride) lines.row_bytes)
    ≡ false
    → turned_byte lines samples old index ≡ slice_index_or old index 0
unfolding turned_byte
byte-outside lines samples old index outside =
    λ i. if outside i
    then slice_index_or (pixel_of lines.conversion
    (upright_pixel lines samples ((index % lines.stride) / lines.pixel_bytes)
    (mirrored lines.bottom_up lines.height (index / lines.stride))))
    ((index % lines.stride) % lines.pixel_bytes) 0
    else slice_index_or old index 0

pub joined : (a b c : ℕ) → a + b + c ≡ a + (b + c)
joined a b c = omega arith

byte-inside : (across width bytes row byte : ℕ) → row ≡ width * bytes
    → across * bytes + bytes ≤ width * bytes
    → byte < bytes → across * bytes + byte < row
byte-inside across width bytes row byte line inside low = omega arith

-- the bytes of a pixel of the stored picture, where it stands
pub byte-of-pixel : (lines : Lines) (samples old : List ℕ) (bytes x y byte : ℕ)
    → HasRoom lines bytes → x < lines.turn.width → y < lines.turn.height
    → byte < lines.pixel_bytes
    → turned_byte lines samples old (pixel_start lines x y + byte)
    ≡ slice_index_or (pixel_of lines.conversion
    (take lines.stored (drop ((y * lines.turn.width + x) * lines.stored) samples))) byte 0
byte-of-pixel lines samples old bytes x y byte room hx hy hb =
    let across : ℕ = upright_across lines.turn x y in
    let down : ℕ = upright_down lines.turn x y in
    let place : ℕ = mirrored lines.bottom_up lines.height down in
    let hd : down < lines.height = down-inside lines bytes x y room hx hy in
    let hp : place < lines.height = mirrored-below lines.bottom_up lines.height down hd in
    let inside : across * lines.pixel_bytes + byte < lines.row_bytes =
    byte-inside across lines.width lines.pixel_bytes lines.row_bytes byte room.line
    (across-room lines bytes x y room hx hy) hb in
    let short : across * lines.pixel_bytes + byte < lines.stride =
    omega (arith, inside, room.wide) in
    let join : place * lines.stride + across * lines.pixel_bytes + byte
    ≡ place * lines.stride + (across * lines.pixel_bytes + byte) =
    joined (place * lines.stride) (across * lines.pixel_bytes) byte in
    byte-at lines samples old (place * lines.stride + across * lines.pixel_bytes + byte) place
    (across * lines.pixel_bytes + byte) across byte
    (ap (λ n. n / lines.stride) join
    ∙ div-mul-add place lines.stride (across * lines.pixel_bytes + byte) short)
    (ap (λ n. n % lines.stride) join
    ∙ mod-mul-add place lines.stride (across * lines.pixel_bytes + byte) short)
    (div-mul-add across lines.pixel_bytes byte hb)
    (mod-mul-add across lines.pixel_bytes byte hb) hp inside
    ∙ ap (λ n. slice_index_or (pixel_of lines.conversion (upright_pixel lines samples across n))
    byte 0)
    (mirrored-twice lines.bottom_up lines.height down hd)
    ∙ ap (λ n. slice_index_or (pixel_of lines.conversion
    (take lines.stored (drop (n * lines.stored) samples))) byte 0)
    (offset-is lines.turn x y hx hy)

-- ---- where a byte of the upright picture comes from

pub record IsOfPixel (lines : Lines) (index : ℕ) : Type 0 where
  pub x : ℕ
  pub y : ℕ
  pub byte : ℕ
  pub across : x < lines.turn.width
  pub down : y < lines.turn.height
  pub inside : byte < lines.pixel_bytes
  pub index_is : index ≡ pixel_start lines x y + byte

some-bytes : (byte width bytes : ℕ) → byte < width * bytes → 0 < bytes
some-bytes byte width zero inside = absurd (let none : width * 0 ≡ 0 = omega arith in
    let n : ⊥ = omega (arith, inside, none) in n)
some-bytes byte width (suc bytes) inside = omega arith

index-parts : (index stride bytes : ℕ) → index ≡ index / stride * stride
    + (index % stride) / bytes * bytes + (index % stride) % bytes
index-parts index stride bytes =
    let line : index / stride * stride + index % stride ≡ index = div-add-mod' index stride in
    let pixel : (index % stride) / bytes * bytes + (index % stride) % bytes ≡ index % stride =
    div-add-mod' (index % stride) bytes in
    omega (arith, line, pixel)

pixel-of-index : (lines : Lines) (bytes index : ℕ) → HasRoom lines bytes
    → index / lines.stride < lines.height
    → index % lines.stride < lines.row_bytes → IsOfPixel lines index
pixel-of-index lines bytes index room low inside =
    let place : ℕ = index / lines.stride in
    let byte : ℕ = index % lines.stride in
    let inside' : byte < lines.width * lines.pixel_bytes = subst (λ n. byte < n) room.line inside in
    let some : 0 < lines.pixel_bytes = some-bytes byte lines.width lines.pixel_bytes inside' in
    let across : ℕ = byte / lines.pixel_bytes in
    let down : ℕ = mirrored lines.bottom_up lines.height place in
    let ha : across < lines.width = div_below byte lines.pixel_bytes lines.width some inside' in
    let hd : down < lines.height = mirrored-below lines.bottom_up lines.height place low in
    let p = pixel-of-place lines.turn across down (subst (λ n. across < n) room.width ha)
    (subst (λ n. down < n) room.height hd) in
    let back : place ≡ mirrored lines.bottom_up lines.height (upright_down lines.turn p.0 p.1) =
    sym (ap (λ n. mirrored lines.bottom_up lines.height n) p.5
    ∙ mirrored-twice lines.bottom_up lines.height place low) in
    record {
      x = p.0;
      y = p.1;
      byte = byte % lines.pixel_bytes;
      across = p.2;
      down = p.3;
      inside = mod_below byte lines.pixel_bytes some;
      index_is = index-parts index lines.stride lines.pixel_bytes
          ∙ (λ i. back i * lines.stride + sym p.4 i * lines.pixel_bytes + byte % lines.pixel_bytes);
    }

-- a byte of the upright picture is the one that was there, or one of a pixel of the stored picture
pub byte-from : (lines : Lines) (samples old : List ℕ) (bytes index : ℕ) → HasRoom lines bytes
    → (turned_byte lines samples old index ≡ slice_index_or old index 0) ⊎ IsOfPixel lines index
byte-from lines samples old bytes index room =
    let low : Bool = nat_lt (index / lines.stride) lines.height in
    let inside : Bool = nat_lt (index % lines.stride) lines.row_bytes in
    elim (cases_Bool (low && inside)) [
      | inl within ↦ inr (pixel-of-index lines bytes index room
          (ltb-true (index / lines.stride) lines.height (and_parts low inside within).0)
          (ltb-true (index % lines.stride) lines.row_bytes (and_parts low inside within).1))
      | inr outside ↦ inl (byte-outside lines samples old index outside)
    ]
