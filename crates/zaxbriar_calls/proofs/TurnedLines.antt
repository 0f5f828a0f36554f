-- Pixels that are written where they stand in an upright picture.
use Rattle.std.proofs.Common.{◌≡◌, ◌∙◌, ℕ, suc, ◌+◌, ◌-◌, ◌*◌, ◌<◌, ◌≤◌, ◌⊎◌, List, [], ◌++◌}
use Rattle.std.proofs.Common.{add-mul, ap, arith, drop, inl, inr, length, length-take, le_refl, map}
use Rattle.std.proofs.Common.{min, mul_assoc, slice_index_or, subst, sym, take}
use Rattle.std.proofs.Math.Nat.{mul-le-mul_right}
use Rattle.std.proofs.lemmas.Bool.{cases_lt}
use Rattle.std.proofs.lemmas.List.{drop-drop, drop-take, get_or-append-add, get_or-append_right}
use Rattle.std.proofs.lemmas.List.{get_or-drop, get_or-take, get_or_append_left, take-take}
use Rattle.std.proofs.lemmas.List.FromFn.{fill_by_all}
use Rattle.std.proofs.lemmas.Nat.{row_fits}
use Rattle.std.proofs.lemmas.Slice.{between-put_mid, take-put_mid_below}
use Rattle.std.specs.List.{concat, range_with_len}
use borrow.Rule.Slice.PartMut.{put_mid}
use Rattle.jpeg_decoder.proofs.Pictures.LinesTogether.{line-long}
use Rattle.zaxbriar_calls.specs.Layouts.{converted_bytes, full_of, layout_bytes, layout_line}
use Rattle.zaxbriar_calls.specs.Layouts.{pixel_of, pixels_of, colour_of}
use Rattle.zaxbriar_calls.specs.Upright.{AreLines, AreMeant, HasRoom, TakesLines, Writes}
use Rattle.zaxbriar_calls.specs.Upright.{pixel_start, turned_byte}
use Rattle.zaxbriar_calls.specs.declared.layouts.Conversion.{Conversion}
use Rattle.zaxbriar_calls.specs.declared.layouts.Conversion.TheVariants.{Stored, InColour}
use Rattle.zaxbriar_calls.specs.declared.lines.Lines.{Lines}
use Rattle.zaxbriar_calls.proofs.Laid.{colour-bytes, line-of-all, pixels-length, pixels-more}
use Rattle.zaxbriar_calls.proofs.Laid.{stored-line}
use Rattle.zaxbriar_calls.proofs.TurnedPlaces.{byte-from, byte-of-pixel, joined}

-- ---- bytes that are written over others

pub put-inside : (start k : ℕ) (old new : List ℕ) (byte : ℕ) → start ≤ length old
    → byte < length new
    → slice_index_or (put_mid start k old new) (start + byte) 0 ≡ slice_index_or new byte 0
put-inside start k old new byte room low =
    let front : length (take start old) ≡ start = omega (arith, length-take {A = ℕ}) in
    ap (λ n. slice_index_or (put_mid start k old new) (n + byte) 0) (sym front)
    ∙ get_or-append-add (take start old) (new ++ drop k (drop start old)) byte 0
    ∙ get_or_append_left new (drop k (drop start old)) 0 byte low

pub put-before : (start k : ℕ) (old new : List ℕ) (index : ℕ) → start ≤ length old
    → index < start
    → slice_index_or (put_mid start k old new) index 0 ≡ slice_index_or old index 0
put-before start k old new index room low =
    let front : index < length (take start old) = omega (arith, length-take {A = ℕ}) in
    get_or_append_left (take start old) (new ++ drop k (drop start old)) 0 index front
    ∙ get_or-take start old index 0 low

pub put-after : (start k : ℕ) (old new : List ℕ) (index : ℕ) → start ≤ length old → length new ≡ k
    → start + k ≤ index → slice_index_or (put_mid start k old new) index 0
    ≡ slice_index_or old index 0
put-after start k old new index room long high =
    let front : length (take start old) ≡ start = omega (arith, length-take {A = ℕ}) in
    let past : start ≤ index = omega arith in
    let past' : k ≤ index - start = omega arith in
    let there : start + (k + (index - start - k)) ≡ index = omega arith in
    get_or-append_right (take start old) (new ++ drop k (drop start old)) start index 0 front past
    ∙ get_or-append_right new (drop k (drop start old)) k (index - start) 0 long past'
    ∙ get_or-drop k (drop start old) (index - start - k) 0
    ∙ get_or-drop start old (k + (index - start - k)) 0
    ∙ ap (λ n. slice_index_or old n 0) there

-- ---- pixels that are written

pub writes-none : (lines : Lines) (meant : ℕ → ℕ) (AreThese : ℕ → ℕ → Type 0) (old : List ℕ)
    → ((x y : ℕ) → AreThese x y → ⊥) → Writes lines meant AreThese old old
writes-none lines meant AreThese old none = record {
  kept = λ index was. was;
  written = λ x y byte these low. absurd (none x y these);
}

pub writes-both : (lines : Lines) (meant : ℕ → ℕ) (First Then Both : ℕ → ℕ → Type 0)
    (a b c : List ℕ)
    → Writes lines meant First a b → Writes lines meant Then b c
    → ((x y : ℕ) → Both x y → First x y ⊎ Then x y) → Writes lines meant Both a c
writes-both lines meant First Then Both a b c before now which = record {
  kept = λ index was. now.kept index (before.kept index was);
  written = λ x y byte these low. elim (which x y these) [
    | inl first ↦ now.kept (pixel_start lines x y + byte) (before.written x y byte first low)
    | inr last ↦ now.written x y byte last low
  ];
}

-- one more column of a band, and one more band
pub column-more : (lines : Lines) (meant : ℕ → ℕ) (x from count : ℕ) (a b c : List ℕ)
    → Writes lines meant (λ column line. (column < x) × (from ≤ line) × (line < from + count)) a b
    → Writes lines meant (λ column line. (column ≡ x) × (from ≤ line) × (line < from + count)) b c
    → Writes lines meant (λ column line. (column < x + 1) × (from ≤ line)
    × (line < from + count)) a c
column-more lines meant x from count a b c before now =
    writes-both lines meant (λ column line. (column < x) × (from ≤ line) × (line < from + count))
    (λ column line. (column ≡ x) × (from ≤ line) × (line < from + count))
    (λ column line. (column < x + 1) × (from ≤ line) × (line < from + count)) a b c before now
    (λ column line these. elim (cases_lt column x) [
      | inl low ↦ inl (low, these.1, these.2)
      | inr high ↦ inr (
        let last : column ≡ x =
            omega (arith, high, these.0) in last,
        these.1,
        these.2,
      )
    ])

-- the pixels of the lines of so many bands
abbrev pub AreAbove : Lines → ℕ → ℕ → ℕ → Type 0
AreAbove lines bands column line =
    (column < lines.turn.width) × (line < lines.turn.height) × (line < bands * 32)

pub band-more : (lines : Lines) (meant : ℕ → ℕ) (bands from count : ℕ) (a b c : List ℕ)
    → from ≡ bands * 32 → count ≡ min 32 (lines.turn.height - from)
    → Writes lines meant (AreAbove lines bands) a b
    → Writes lines meant (λ column line. (column < lines.turn.width) × (from ≤ line)
    × (line < from + count)) b c
    → Writes lines meant (AreAbove lines (bands + 1)) a c
band-more lines meant bands from count a b c e n before now =
    writes-both lines meant (AreAbove lines bands)
    (λ column line. (column < lines.turn.width) × (from ≤ line) × (line < from + count))
    (AreAbove lines (bands + 1)) a b c before now
    (λ column line these. elim (cases_lt line from) [
      | inl low ↦ inl (
        these.0,
        these.1,
        let above : line < bands * 32 =
            omega (arith, low, e) in above,
      )
      | inr high ↦ inr (
        these.0,
        high,
        let below : line < from + count = omega (arith, e, n, these.1, these.2) in below,
      )
    ])

-- all pixels were written
pub all-written : (lines : Lines) (samples old new : List ℕ) (bands : ℕ)
    → HasRoom lines (length old)
    → length new ≡ length old → lines.turn.height ≤ bands * 32
    → Writes lines (turned_byte lines samples old) (AreAbove lines bands) old new
    → new ≡ map (turned_byte lines samples old) (range_with_len 0 (length old))
all-written lines samples old new bands room long all writes =
    fill_by_all (turned_byte lines samples old) new (length old) 0 long
    (λ index low. elim (byte-from lines samples old (length old) index room) [
      | inl same ↦ writes.kept index (sym same)
      | inr pixel ↦
          let above : pixel.y < bands * 32 = omega (arith, all, pixel.down) in
          subst (λ n. slice_index_or new n 0 ≡ turned_byte lines samples old n) (sym pixel.index_is)
          (writes.written pixel.x pixel.y pixel.byte (pixel.across, pixel.down, above) pixel.inside)
    ])

-- ---- bytes of pixels in lines

pixels-at : (pixel : List ℕ → List ℕ) (stored bytes width x byte : ℕ) (row : List ℕ)
    → ((p : List ℕ) → length (pixel p) ≡ bytes) → x < width → byte < bytes
    → slice_index_or (pixels_of pixel stored width row) (x * bytes + byte) 0
    ≡ slice_index_or (pixel (take stored (drop (x * stored) row))) byte 0
unfolding pixels_of
pixels-at pixel stored bytes width x byte row each hx hb =
    let rest : ℕ = width - x - 1 in
    let more : x + suc rest ≡ width = omega (arith, hx) in
    let front : length (pixels_of pixel stored x row) ≡ x * bytes =
    pixels-length pixel stored bytes x row each in
    let here : List ℕ = drop (x * stored) row in
    let low : byte < length (pixel (take stored here)) =
    subst (λ n. byte < n) (sym (each (take stored here))) hb in
    ap (λ n. slice_index_or (pixels_of pixel stored n row) (x * bytes + byte) 0) (sym more)
    ∙ ap (λ (l : List ℕ). slice_index_or l (x * bytes + byte) 0)
    (pixels-more pixel stored x (suc rest) row)
    ∙ ap (λ n. slice_index_or
    (pixels_of pixel stored x row ++ pixels_of pixel stored (suc rest) here) (n + byte) 0)
    (sym front)
    ∙ get_or-append-add (pixels_of pixel stored x row)
    (pixels_of pixel stored (suc rest) here) byte 0
    ∙ get_or_append_left (pixel (take stored here))
    (pixels_of pixel stored rest (drop stored here)) 0 byte low

line-pixel : (conversion : Conversion) (stored width x byte : ℕ) (row : List ℕ)
    → length row ≡ width * stored
    → x < width → byte < converted_bytes conversion stored
    → slice_index_or (layout_line conversion stored width row)
    (x * converted_bytes conversion stored + byte) 0
    ≡ slice_index_or (pixel_of conversion (take stored (drop (x * stored) row))) byte 0
line-pixel Stored stored width x byte row long hx hb =
    ap (λ (l : List ℕ). slice_index_or l (x * stored + byte) 0)
    (sym (stored-line stored width row long))
    ∙ sym (get_or-take stored (drop (x * stored) row) byte 0 hb
    ∙ get_or-drop (x * stored) row byte 0)
line-pixel (InColour format precision layout) stored width x byte row long hx hb =
    pixels-at (pixel_of (InColour format precision layout)) stored
    (layout_bytes layout) width x byte row
    (λ p. colour-bytes layout (colour_of (full_of layout) format precision p)) hx hb

-- a pixel of a line of a picture
pixel-of-line : (stored width x before : ℕ) (samples : List ℕ) → x < width
    → take stored (drop (x * stored) (take (width * stored) (drop before samples)))
    ≡ take stored (drop (before + x * stored) samples)
pixel-of-line stored width x before samples hx =
    let room : x * stored + stored ≤ width * stored =
    row_fits x stored width stored hx (le_refl stored) in
    let rest : ℕ = width * stored - x * stored in
    let whole : width * stored ≡ x * stored + rest = omega (arith, room) in
    let inside : stored ≤ rest = omega (arith, room) in
    ap (λ n. take stored (drop (x * stored) (take n (drop before samples)))) whole
    ∙ ap (λ (l : List ℕ). take stored l) (drop-take (x * stored) rest (drop before samples))
    ∙ take-take stored rest (drop (x * stored) (drop before samples)) inside
    ∙ ap (λ (l : List ℕ). take stored l) (drop-drop (x * stored) before samples)

offset-of-line : (y width stored x : ℕ) → y * (width * stored) + x * stored
    ≡ (y * width + x) * stored
offset-of-line y width stored x =
    omega (arith, add-mul (y * width) x stored, mul_assoc y width stored)

-- a part of bytes, and of a part of them
pub part-at : (start count byte : ℕ) (bytes : List ℕ) → byte < count
    → slice_index_or (take count (drop start bytes)) byte 0 ≡ slice_index_or bytes (start + byte) 0
part-at start count byte bytes low =
    get_or-take count (drop start bytes) byte 0 low ∙ get_or-drop start bytes byte 0

byte-of-line : (x width bytes byte : ℕ) → x < width → byte < bytes
    → x * bytes + byte < width * bytes
byte-of-line x width bytes byte hx hb =
    let room : x * bytes + bytes ≤ width * bytes =
    row_fits x bytes width bytes hx (le_refl bytes) in
    omega (arith, room, hb)

-- a pixel of a line of a band is inside
pub pixel-in-band : (index count x width bytes line part all : ℕ) → line ≡ width * bytes
    → part ≡ bytes → index < count → x < width → count * (width * bytes) ≤ all
    → index * line + x * part + part ≤ all
pixel-in-band index count x width bytes line part all e f hi hx room =
    let across : x * bytes + bytes ≤ width * bytes =
    row_fits x bytes width bytes hx (le_refl bytes) in
    let down : index * (width * bytes) + width * bytes ≤ count * (width * bytes) =
    row_fits index (width * bytes) count (width * bytes) hi (le_refl (width * bytes)) in
    subst (λ n. index * line + x * n + n ≤ all) (sym f)
    (subst (λ n. index * n + x * bytes + bytes ≤ all) (sym e) (omega (arith, across, down, room)))

-- a line of a band is inside
pub line-in-band : (index count bytes line all : ℕ) → line ≡ bytes → index < count
    → count * bytes ≤ all
    → index * line + line ≤ all
line-in-band index count bytes line all e low room =
    let down : index * bytes + bytes ≤ count * bytes =
    row_fits index bytes count bytes low (le_refl bytes) in
    subst (λ n. index * n + n ≤ all) (sym e) (omega (arith, down, room))

-- the lines that are left are no more than a band
pub band-room : (count height from bytes all : ℕ) → count ≡ min 32 (height - from)
    → all ≡ min 32 height * bytes → count * bytes ≤ all
band-room count height from bytes all e a =
    let few : count ≤ min 32 height = omega (arith, e) in
    omega (arith, mul-le-mul_right bytes few, a)

-- lines of a picture are those that are meant
pub lines-meant : (lines : Lines) (picture : List (List ℕ)) (old band : List ℕ)
    (row_bytes all from count : ℕ)
    → TakesLines lines picture row_bytes → HasRoom lines all → from + count ≤ lines.turn.height
    → AreLines lines picture from count band
    → AreMeant lines (turned_byte lines (concat picture) old) from count band
lines-meant lines picture old band row_bytes all from count takes room fits are =
    λ x index byte hx hi hb.
    let y : ℕ = from + index in
    let hy : y < lines.turn.height = omega (arith, hi, fits) in
    let low : y < length picture = subst (λ n. y < n) (sym takes.count) hy in
    let samples : List ℕ = concat picture in
    let row : List ℕ = slice_index_or picture y [] in
    let line_stored : ℕ = lines.turn.width * lines.stored in
    let line_bytes : ℕ = lines.turn.width * lines.pixel_bytes in
    let at : ℕ = x * lines.pixel_bytes + byte in
    let inside : at < line_bytes = byte-of-line x lines.turn.width lines.pixel_bytes byte hx hb in
    let long : length row ≡ line_stored = line-long line_stored y picture [] takes.stored low in
    let part : take lines.stored (drop ((y * lines.turn.width + x) * lines.stored) samples)
    ≡ take lines.stored (drop (x * lines.stored) row) =
    ap (λ n. take lines.stored (drop n samples))
    (sym (offset-of-line y lines.turn.width lines.stored x))
    ∙ sym (pixel-of-line lines.stored lines.turn.width x (y * line_stored) samples hx)
    ∙ ap (λ (l : List ℕ). take lines.stored (drop (x * lines.stored) l))
    (line-of-all line_stored y picture takes.stored low) in
    byte-of-pixel lines samples old all x y byte room hx hy hb
    ∙ ap (λ (l : List ℕ). slice_index_or (pixel_of lines.conversion l) byte 0) part
    ∙ sym (line-pixel lines.conversion lines.stored lines.turn.width x byte row long hx
    (subst (λ n. byte < n) takes.pixel hb))
    ∙ ap (λ n. slice_index_or (layout_line lines.conversion lines.stored lines.turn.width row)
    (x * n + byte) 0)
    (sym takes.pixel)
    ∙ ap (λ (l : List ℕ). slice_index_or l at 0) (sym (are index hi))
    ∙ part-at (index * line_bytes) line_bytes at band inside
    ∙ ap (λ n. slice_index_or band n 0)
    (sym (joined (index * line_bytes) (x * lines.pixel_bytes) byte))

-- ---- lines that are read

-- a part that stands before another that is written
part-before : (from count start k : ℕ) (old new : List ℕ) → from + count ≤ start
    → start ≤ length old
    → take count (drop from (put_mid start k old new)) ≡ take count (drop from old)
part-before from count start k old new before room =
    sym (drop-take from count (put_mid start k old new))
    ∙ ap (λ (l : List ℕ). drop from l)
    (take-put_mid_below start k old new (from + count) before room)
    ∙ drop-take from count old

-- one more line of a band
pub line-more : (lines : Lines) (picture : List (List ℕ)) (from index k : ℕ) (now new : List ℕ)
    → AreLines lines picture from index now
    → index * (lines.turn.width * lines.pixel_bytes) + lines.turn.width * lines.pixel_bytes
    ≤ length now
    → k ≡ lines.turn.width * lines.pixel_bytes → length new ≡ lines.turn.width * lines.pixel_bytes
    → new ≡ layout_line lines.conversion lines.stored lines.turn.width
    (slice_index_or picture (from + index) [])
    → AreLines lines picture from (index + 1)
    (put_mid (index * (lines.turn.width * lines.pixel_bytes)) k now new)
line-more lines picture from index k now new are room e long is =
    let bytes : ℕ = lines.turn.width * lines.pixel_bytes in
    let inside : index * bytes ≤ length now = omega (arith, room) in
    λ place low. elim (cases_lt place index) [
      | inl before ↦
          let next : place * bytes + bytes ≤ index * bytes =
          row_fits place bytes index bytes before (le_refl bytes) in
          part-before (place * bytes) bytes (index * bytes) k now new next inside ∙ are place before
      | inr later ↦
          let last : place ≡ index = omega (arith, low, later) in
          let count : index * bytes + bytes - index * bytes ≡ bytes = omega arith in
          ap (λ n. take bytes (drop (n * bytes) (put_mid (index * bytes) k now new))) last
          ∙ ap (λ n. take n (drop (index * bytes) (put_mid (index * bytes) k now new))) (sym count)
          ∙ between-put_mid (index * bytes) k now new (index * bytes + bytes) inside
          (long ∙ sym count) ∙ is
          ∙ ap (λ n. layout_line lines.conversion lines.stored lines.turn.width
          (slice_index_or picture (from + n) []))
          (sym last)
    ]
