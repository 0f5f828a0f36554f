-- Runs of pixels that are written where they stand in an upright picture.
use Rattle.std.proofs.Common.{◌≡◌, ◌∙◌, ℕ, zero, suc, ◌+◌, ◌-◌, ◌*◌, ◌/◌, ◌%◌, ◌<◌, ◌≤◌, Bool, true}
use Rattle.std.proofs.Common.{false, List, add-mul, ap, arith, drop, if◌then◌else◌, inl, inr}
use Rattle.std.proofs.Common.{le_refl, length, length-take, slice_index_or, subst, sym, take}
use Rattle.std.proofs.Math.Seq.{take-length}
use Rattle.std.proofs.lemmas.Bool.{cases_lt}
use Rattle.std.proofs.lemmas.List.{get_or-drop, length-drop}
use Rattle.std.proofs.lemmas.Nat.{div-add-mod', div_below, mod_below, row_fits}
use borrow.Rule.Slice.PartMut.{put_mid}
use Rattle.jpeg_orientation.specs.Turns.{flips_x, flips_y, is_on_side, mirrored}
use Rattle.zaxbriar_calls.specs.Upright.{AreMeant, HasRoom, IsRun, Writes, pixel_start}
use Rattle.zaxbriar_calls.specs.declared.lines.Lines.{Lines}
use Rattle.zaxbriar_calls.proofs.TurnedLines.{part-at, put-after, put-before, put-inside}
use Rattle.zaxbriar_calls.proofs.TurnedLines.{writes-both}
use Rattle.zaxbriar_calls.proofs.TurnedPlaces.{mirrored-below, mirrored-twice, pixel-fits}

-- ---- runs

-- the pixels of a run up to a place
abbrev pub IsRunTo : List ℕ → ℕ → ℕ → Bool → ℕ → ℕ → List ℕ → Type 0
IsRunTo source step count flipped pixel_bytes places run = (place byte : ℕ) → place < places
    → byte < pixel_bytes
    → slice_index_or run (place * pixel_bytes + byte) 0
    ≡ slice_index_or source (mirrored flipped count place * step + byte) 0

pub run-none : (source : List ℕ) (step count : ℕ) (flipped : Bool) (bytes : ℕ) (run : List ℕ)
    → IsRunTo source step count flipped bytes 0 run
run-none source step count flipped bytes run =
    λ place byte low hb. absurd (let none : ⊥ = omega (arith, low) in none)

-- one more pixel of a run
pub run-more : (source : List ℕ) (step count : ℕ) (flipped : Bool) (bytes index from k j : ℕ)
    (old : List ℕ)
    → IsRunTo source step count flipped bytes index old → k ≡ bytes → j ≡ bytes
    → from ≡ mirrored flipped count index
    → from * step + bytes ≤ length source
    → index * bytes + bytes ≤ length old
    → IsRunTo source step count flipped bytes (index + 1)
    (put_mid (index * bytes) k old (take j (drop (from * step) source)))
run-more source step count flipped bytes index from k j old was e f at fits room =
    let part : List ℕ = take j (drop (from * step) source) in
    let long : length part ≡ bytes =
    omega (arith, fits, f, length-take {A = ℕ}, length-drop {A = ℕ}) in
    let inside : index * bytes ≤ length old = omega (arith, room) in
    λ place byte low hb. elim (cases_lt place index) [
      | inl before ↦
          let next : place * bytes + bytes ≤ index * bytes =
          row_fits place bytes index bytes before (le_refl bytes) in
          put-before (index * bytes) k old part (place * bytes + byte) inside
          (omega (arith, next, hb))
          ∙ was place byte before hb
      | inr later ↦
          let last : index ≡ place = omega (arith, low, later) in
          let there : from ≡ mirrored flipped count place =
          at ∙ ap (λ n. mirrored flipped count n) last in
          ap (λ n. slice_index_or (put_mid (index * bytes) k old part) (n * bytes + byte) 0)
          (sym last)
          ∙ put-inside (index * bytes) k old part byte inside
          (subst (λ n. byte < n) (sym long) hb)
          ∙ part-at (from * step) j byte source (subst (λ n. byte < n) (sym f) hb)
          ∙ ap (λ n. slice_index_or source (n * step + byte) 0) there
    ]

-- a pixel of a run is inside
pub run-fits : (count bytes index all : ℕ) → index < count → all ≡ count * bytes
    → index * bytes + bytes ≤ all
run-fits count bytes index all low e =
    let fits : index * bytes + bytes ≤ count * bytes =
    row_fits index bytes count bytes low (le_refl bytes) in
    omega (arith, fits, e)

some-bytes : (byte width bytes : ℕ) → byte < width * bytes → 0 < bytes
some-bytes byte width zero inside = absurd (let none : width * 0 ≡ 0 = omega arith in
    let n : ⊥ = omega (arith, inside, none) in n)
some-bytes byte width (suc bytes) inside = omega arith

sum-of : (a b c : ℕ) → a + (b + c) ≡ a + b + c
sum-of a b c = omega arith

-- a run is written
pub run-written : (lines : Lines) (meant : ℕ → ℕ) (AreThese : ℕ → ℕ → Type 0)
    (start k count bytes : ℕ) (old run : List ℕ)
    → bytes ≡ lines.pixel_bytes → k ≡ count * bytes → length run ≡ count * bytes
    → start + count * bytes ≤ length old
    → ((place byte : ℕ) → place < count → byte < bytes
    → slice_index_or run (place * bytes + byte) 0 ≡ meant (start + place * bytes + byte))
    → ((x y : ℕ) → AreThese x y
    → (place : ℕ) × (place < count) × (pixel_start lines x y ≡ start + place * bytes))
    → Writes lines meant AreThese old (put_mid start k old run)
run-written lines meant AreThese start k count bytes old run eb e long room same which =
    let room' : start ≤ length old = omega (arith, room) in
    let long' : length run ≡ k = long ∙ sym e in
    let here : (place byte : ℕ) → place < count → byte < bytes
    → slice_index_or (put_mid start k old run) (start + place * bytes + byte) 0
    ≡ meant (start + place * bytes + byte) =
    λ place byte low hb.
    let fits : place * bytes + bytes ≤ count * bytes =
    row_fits place bytes count bytes low (le_refl bytes) in
    let inside : place * bytes + byte < length run = omega (arith, fits, hb, long) in
    ap (λ n. slice_index_or (put_mid start k old run) n 0)
    (sym (sum-of start (place * bytes) byte))
    ∙ put-inside start k old run (place * bytes + byte) room' inside
    ∙ same place byte low hb in
    record {
      kept = λ index was. elim (cases_lt index start) [
        | inl before ↦ put-before start k old run index room' before ∙ was
        | inr later ↦ elim (cases_lt index (start + k)) [
          | inl inside ↦
              let at : ℕ = index - start in
              let low : at < count * bytes = omega (arith, e, inside, later) in
              let some : 0 < bytes = some-bytes at count bytes low in
              let parts : at / bytes * bytes + at % bytes ≡ at = div-add-mod' at bytes in
              let there : start + at / bytes * bytes + at % bytes ≡ index =
              omega (arith, parts, later) in
              subst (λ n. slice_index_or (put_mid start k old run) n 0 ≡ meant n) there
              (here (at / bytes) (at % bytes) (div_below at bytes count some low)
              (mod_below at bytes some))
          | inr after ↦ put-after start k old run index room' long' after ∙ was
        ]
      ];
      written = λ x y byte these low.
          let place = which x y these in
          subst (λ n. slice_index_or (put_mid start k old run) (n + byte) 0 ≡ meant (n + byte))
          (sym place.2)
          (here place.0 byte place.1 (subst (λ n. byte < n) (sym eb) low));
    }

-- what follows a place
pub rest-of : (start : ℕ) (bytes : List ℕ)
    → take (length bytes - start) (drop start bytes) ≡ drop start bytes
rest-of start bytes = ap (λ n. take n (drop start bytes)) (sym (length-drop start bytes))
    ∙ take-length (drop start bytes)

pub rest-room : (bytes : List ℕ) (start at some : ℕ) → at + start + some ≤ length bytes
    → at + some ≤ length (take (length bytes - start) (drop start bytes))
rest-room bytes start at some room =
    omega (arith, room, length-take {A = ℕ}, length-drop {A = ℕ})

-- ---- where the pixels of a run stand

clash : false ≡ true → ⊥
clash e = let n : ⊥ = cc in n

clash' : true ≡ false → ⊥
clash' e = let n : ⊥ = cc in n

forward-step : (m first place bytes : ℕ)
    → m + (first + place) * bytes ≡ m + (first + 0) * bytes + place * bytes
forward-step m first place bytes =
    let none : first + 0 ≡ first = omega arith in
    ap (λ n. m + n) (add-mul first place bytes) ∙ sum-of m (first * bytes) (place * bytes)
    ∙ ap (λ n. m + n * bytes + place * bytes) (sym none)

backward-step : (m side first count place bytes : ℕ) → first + count ≤ side → place < count
    → m + (side - 1 - (first + (count - 1 - place))) * bytes
    ≡ m + (side - 1 - (first + (count - 1 - 0))) * bytes + place * bytes
backward-step m side first count place bytes inside low =
    let at : ℕ = side - 1 - (first + (count - 1 - 0)) in
    let e : side - 1 - (first + (count - 1 - place)) ≡ at + place = omega (arith, inside, low) in
    ap (λ n. m + n * bytes) e ∙ ap (λ n. m + n) (add-mul at place bytes)
    ∙ sum-of m (at * bytes) (place * bytes)

-- the pixels of a part of a column that becomes a part of a line
pub column-start : (lines : Lines) (x first count place : ℕ)
    → is_on_side lines.turn.orientation ≡ true
    → first + count ≤ lines.turn.height → place < count
    → pixel_start lines x (first + mirrored (flips_y lines.turn.orientation) count place)
    ≡ pixel_start lines x (first + mirrored (flips_y lines.turn.orientation) count 0)
    + place * lines.pixel_bytes
column-start lines x first count place side inside low =
    go (is_on_side lines.turn.orientation) (flips_y lines.turn.orientation) side
  where
    go : (side fy : Bool) → side ≡ true
        → mirrored lines.bottom_up lines.height (if side
        then mirrored (flips_x lines.turn.orientation) lines.turn.width x
        else mirrored fy lines.turn.height (first + mirrored fy count place)) * lines.stride
        + (if side then mirrored fy lines.turn.height (first + mirrored fy count place)
        else mirrored (flips_x lines.turn.orientation) lines.turn.width x) * lines.pixel_bytes
        ≡ mirrored lines.bottom_up lines.height (if side
        then mirrored (flips_x lines.turn.orientation) lines.turn.width x
        else mirrored fy lines.turn.height (first + mirrored fy count 0)) * lines.stride
        + (if side then mirrored fy lines.turn.height (first + mirrored fy count 0)
        else mirrored (flips_x lines.turn.orientation) lines.turn.width x) * lines.pixel_bytes
        + place * lines.pixel_bytes
    go true true e = backward-step (mirrored lines.bottom_up lines.height
        (mirrored (flips_x lines.turn.orientation) lines.turn.width x) * lines.stride)
        lines.turn.height first count place lines.pixel_bytes inside low
    go true false e = forward-step (mirrored lines.bottom_up lines.height
        (mirrored (flips_x lines.turn.orientation) lines.turn.width x) * lines.stride)
        first place lines.pixel_bytes
    go false fy e = absurd (clash e)

row-step : (m place bytes : ℕ) → m + place * bytes ≡ m + 0 * bytes + place * bytes
row-step m place bytes =
    let none : 0 * bytes ≡ 0 = omega arith in omega (arith, none)

-- the pixels of a line that stays one
pub row-start : (lines : Lines) (y place : ℕ) → is_on_side lines.turn.orientation ≡ false
    → place < lines.turn.width
    → pixel_start lines (mirrored (flips_x lines.turn.orientation) lines.turn.width place) y
    ≡ pixel_start lines (mirrored (flips_x lines.turn.orientation) lines.turn.width 0) y
    + place * lines.pixel_bytes
row-start lines y place side low =
    go (is_on_side lines.turn.orientation) (flips_x lines.turn.orientation) side
  where
    go : (side fx : Bool) → side ≡ false
        → mirrored lines.bottom_up lines.height (if side
        then mirrored fx lines.turn.width (mirrored fx lines.turn.width place)
        else mirrored (flips_y lines.turn.orientation) lines.turn.height y) * lines.stride
        + (if side then mirrored (flips_y lines.turn.orientation) lines.turn.height y
        else mirrored fx lines.turn.width (mirrored fx lines.turn.width place))
        * lines.pixel_bytes
        ≡ mirrored lines.bottom_up lines.height (if side
        then mirrored fx lines.turn.width (mirrored fx lines.turn.width 0)
        else mirrored (flips_y lines.turn.orientation) lines.turn.height y) * lines.stride
        + (if side then mirrored (flips_y lines.turn.orientation) lines.turn.height y
        else mirrored fx lines.turn.width (mirrored fx lines.turn.width 0)) * lines.pixel_bytes
        + place * lines.pixel_bytes
    go true fx e = absurd (clash' e)
    go false fx e =
        let m : ℕ = mirrored lines.bottom_up lines.height
        (mirrored (flips_y lines.turn.orientation) lines.turn.height y) * lines.stride in
        let first : 0 < lines.turn.width = omega (arith, low) in
        ap (λ n. m + n * lines.pixel_bytes) (mirrored-twice fx lines.turn.width place low)
        ∙ row-step m place lines.pixel_bytes
        ∙ ap (λ n. m + n * lines.pixel_bytes + place * lines.pixel_bytes)
        (sym (mirrored-twice fx lines.turn.width 0 first))

all-but-last : (count bytes start all : ℕ) → 0 < count
    → start + (count - 1) * bytes + bytes ≤ all
    → start + count * bytes ≤ all
all-but-last count bytes start all some room =
    let e : count ≡ count - 1 + 1 = omega (arith, some) in
    let m : count * bytes ≡ (count - 1) * bytes + bytes =
    ap (λ n. n * bytes) e ∙ add-mul (count - 1) 1 bytes
    ∙ (let one : (count - 1) * bytes + 1 * bytes ≡ (count - 1) * bytes + bytes = omega arith
    in one) in
    omega (arith, m, room)

-- a run is inside
pub column-fits : (lines : Lines) (all x first count : ℕ) → HasRoom lines all
    → is_on_side lines.turn.orientation ≡ true → x < lines.turn.width → 0 < count
    → first + count ≤ lines.turn.height
    → pixel_start lines x (first + mirrored (flips_y lines.turn.orientation) count 0)
    + count * lines.pixel_bytes ≤ all
column-fits lines all x first count room side hx some inside =
    let last : count - 1 < count = omega (arith, some) in
    let below : mirrored (flips_y lines.turn.orientation) count (count - 1) < count =
    mirrored-below (flips_y lines.turn.orientation) count (count - 1) last in
    let y : first + mirrored (flips_y lines.turn.orientation) count (count - 1)
    < lines.turn.height = omega (arith, below, inside) in
    all-but-last count lines.pixel_bytes
    (pixel_start lines x (first + mirrored (flips_y lines.turn.orientation) count 0)) all some
    (subst (λ n. n + lines.pixel_bytes ≤ all)
    (column-start lines x first count (count - 1) side inside last)
    (pixel-fits lines all x
    (first + mirrored (flips_y lines.turn.orientation) count (count - 1)) room hx y))

pub row-fits : (lines : Lines) (all y : ℕ) → HasRoom lines all
    → is_on_side lines.turn.orientation ≡ false → 0 < lines.turn.width → y < lines.turn.height
    → pixel_start lines (mirrored (flips_x lines.turn.orientation) lines.turn.width 0) y
    + lines.turn.width * lines.pixel_bytes ≤ all
row-fits lines all y room side some hy =
    let width : ℕ = lines.turn.width in
    let last : width - 1 < width = omega (arith, some) in
    let below : mirrored (flips_x lines.turn.orientation) width (width - 1) < width =
    mirrored-below (flips_x lines.turn.orientation) width (width - 1) last in
    all-but-last width lines.pixel_bytes
    (pixel_start lines (mirrored (flips_x lines.turn.orientation) width 0) y) all some
    (subst (λ n. n + lines.pixel_bytes ≤ all) (row-start lines y (width - 1) side last)
    (pixel-fits lines all (mirrored (flips_x lines.turn.orientation) width (width - 1)) y
    room below hy))

pub line-fits : (lines : Lines) (all y width bytes start : ℕ) → HasRoom lines all
    → is_on_side lines.turn.orientation ≡ false → width ≡ lines.turn.width
    → bytes ≡ lines.pixel_bytes → 0 < width → y < lines.turn.height
    → start ≡ pixel_start lines (mirrored (flips_x lines.turn.orientation) width 0) y
    → start + width * bytes ≤ all
line-fits lines all y width bytes start room side ew eb some hy at =
    let start' : start ≡ pixel_start lines
    (mirrored (flips_x lines.turn.orientation) lines.turn.width 0) y =
    at ∙ ap (λ n. pixel_start lines (mirrored (flips_x lines.turn.orientation) n 0) y) ew in
    subst (λ n. n ≤ all) (λ i. sym start' i + sym ew i * sym eb i)
    (row-fits lines all y room side (subst (λ n. 0 < n) ew some) hy)

in-column : (a b c : ℕ) → a + (b + c) ≡ b + a + c
in-column a b c = omega arith

-- a column of a band is written
pub column-written : (lines : Lines) (meant : ℕ → ℕ) (x first count start k bytes step : ℕ)
    (band old run : List ℕ)
    → is_on_side lines.turn.orientation ≡ true → x < lines.turn.width
    → first + count ≤ lines.turn.height
    → bytes ≡ lines.pixel_bytes → step ≡ lines.turn.width * lines.pixel_bytes
    → start ≡ pixel_start lines x (first + mirrored (flips_y lines.turn.orientation) count 0)
    → k ≡ count * bytes → length run ≡ count * bytes → start + count * bytes ≤ length old
    → IsRun (drop (x * bytes) band) step count (flips_y lines.turn.orientation) bytes run
    → AreMeant lines meant first count band
    → Writes lines meant (λ column line. (column ≡ x) × (first ≤ line) × (line < first + count))
    old (put_mid start k old run)
column-written lines meant x first count start k bytes step band old run side hx inside eb es at e
    long room is are =
    let flips : Bool = flips_y lines.turn.orientation in
    let place-at : (place : ℕ) → place < count
    → pixel_start lines x (first + mirrored flips count place) ≡ start + place * bytes =
    λ place low. column-start lines x first count place side inside low
    ∙ (λ i. sym at i + place * sym eb i) in
    run-written lines meant
    (λ column line. (column ≡ x) × (first ≤ line) × (line < first + count))
    start k count bytes old run eb e long room
    (λ place byte low hb.
    let index : ℕ = mirrored flips count place in
    let hi : index < count = mirrored-below flips count place low in
    is place byte low hb
    ∙ get_or-drop (x * bytes) band (index * step + byte) 0
    ∙ ap (λ n. slice_index_or band n 0) (in-column (x * bytes) (index * step) byte)
    ∙ (λ i. slice_index_or band (index * es i + x * eb i + byte) 0)
    ∙ sym (are x index byte hx hi (subst (λ n. byte < n) eb hb))
    ∙ ap (λ n. meant (n + byte)) (place-at place low))
    (λ column line these.
    let index : ℕ = line - first in
    let low : index < count = omega (arith, these.1, these.2) in
    let place : ℕ = mirrored flips count index in
    let there : first + mirrored flips count place ≡ line =
    ap (λ n. first + n) (mirrored-twice flips count index low)
    ∙ (let back : first + (line - first) ≡ line = omega (arith, these.1) in back) in (
      place,
      mirrored-below flips count index low,
      (λ i. pixel_start lines (these.0 i) (sym there i))
          ∙ place-at place (mirrored-below flips count index low),
    ))

-- a line is written
pub line-written : (lines : Lines) (meant : ℕ → ℕ) (y width start k bytes step : ℕ)
    (line old run : List ℕ)
    → is_on_side lines.turn.orientation ≡ false → width ≡ lines.turn.width
    → bytes ≡ lines.pixel_bytes → step ≡ lines.pixel_bytes
    → start ≡ pixel_start lines (mirrored (flips_x lines.turn.orientation) width 0) y
    → k ≡ width * bytes → length run ≡ width * bytes → start + width * bytes ≤ length old
    → IsRun line step width (flips_x lines.turn.orientation) bytes run
    → ((x byte : ℕ) → x < lines.turn.width → byte < lines.pixel_bytes
    → meant (pixel_start lines x y + byte) ≡ slice_index_or line (x * lines.pixel_bytes + byte) 0)
    → Writes lines meant (λ column row. (column < lines.turn.width) × (row ≡ y))
    old (put_mid start k old run)
line-written lines meant y width start k bytes step line old run side ew eb es at e long room is
    are =
    let flips : Bool = flips_x lines.turn.orientation in
    let place-at : (place : ℕ) → place < width
    → pixel_start lines (mirrored flips width place) y ≡ start + place * bytes =
    λ place low. ap (λ n. pixel_start lines (mirrored flips n place) y) ew
    ∙ row-start lines y place side (subst (λ n. place < n) ew low)
    ∙ ap (λ n. pixel_start lines (mirrored flips n 0) y + place * lines.pixel_bytes) (sym ew)
    ∙ (λ i. sym at i + place * sym eb i) in
    run-written lines meant (λ column row. (column < lines.turn.width) × (row ≡ y))
    start k width bytes old run eb e long room
    (λ place byte low hb.
    let x : ℕ = mirrored flips width place in
    let hx : x < lines.turn.width =
    subst (λ n. x < n) ew (mirrored-below flips width place low) in
    is place byte low hb
    ∙ ap (λ n. slice_index_or line (x * n + byte) 0) es
    ∙ sym (are x byte hx (subst (λ n. byte < n) eb hb))
    ∙ ap (λ n. meant (n + byte)) (place-at place low))
    (λ column row these.
    let low : column < width = subst (λ n. column < n) (sym ew) these.0 in
    let place : ℕ = mirrored flips width column in (
      place,
      mirrored-below flips width column low,
      (λ i. pixel_start lines (sym (mirrored-twice flips width column low) i) (these.1 i))
          ∙ place-at place (mirrored-below flips width column low),
    ))

-- a byte of a line of a band
pub part-of-line : (index width bytes x byte line k : ℕ) (band : List ℕ) → line ≡ width * bytes
    → k ≡ width * bytes → x < width → byte < bytes
    → slice_index_or band (index * (width * bytes) + x * bytes + byte) 0
    ≡ slice_index_or (take k (drop (index * line) band)) (x * bytes + byte) 0
part-of-line index width bytes x byte line k band el ek hx hb =
    let fits : x * bytes + bytes ≤ width * bytes =
    row_fits x bytes width bytes hx (le_refl bytes) in
    let inside : x * bytes + byte < k = omega (arith, fits, hb, ek) in
    ap (λ n. slice_index_or band n 0) (sym (sum-of (index * (width * bytes)) (x * bytes) byte))
    ∙ ap (λ n. slice_index_or band (index * n + (x * bytes + byte)) 0) (sym el)
    ∙ sym (part-at (index * line) k (x * bytes + byte) band inside)

-- one more line of a band
pub row-more : (lines : Lines) (meant : ℕ → ℕ) (from index : ℕ) (a b c : List ℕ)
    → Writes lines meant (λ column line. (column < lines.turn.width) × (from ≤ line)
    × (line < from + index)) a b
    → Writes lines meant (λ column line. (column < lines.turn.width) × (line ≡ from + index)) b c
    → Writes lines meant (λ column line. (column < lines.turn.width) × (from ≤ line)
    × (line < from + (index + 1))) a c
row-more lines meant from index a b c before now =
    writes-both lines meant (λ column line. (column < lines.turn.width) × (from ≤ line)
    × (line < from + index))
    (λ column line. (column < lines.turn.width) × (line ≡ from + index))
    (λ column line. (column < lines.turn.width) × (from ≤ line)
    × (line < from + (index + 1))) a b c before now
    (λ column line these. elim (cases_lt line (from + index)) [
      | inl low ↦ inl (these.0, these.1, low)
      | inr high ↦ inr (
        these.0,
        let last : line ≡ from + index =
            omega (arith, high, these.2) in last,
      )
    ])
