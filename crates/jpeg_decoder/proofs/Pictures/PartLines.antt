-- The lines of a part of a picture, and of a part of a part.
use Rattle.std.proofs.Common.{◌≡◌, ◌∙◌, ℕ, zero, suc, ◌+◌, ◌-◌, ◌^◌, ◌<◌, ◌≤◌, List, [], ◌∷◌, ap, sym, subst, refl, arith}
use Rattle.std.proofs.Common.{length, take, drop, map, Option, None, Some, min}
use Rattle.std.proofs.lemmas.List.{drop-drop, drop-map, drop-take, length-drop, length-map}
use Rattle.std.proofs.lemmas.List.{length-take-le, take-map, take-take}
use Rattle.jpeg_bits.proofs.ReadIntervals.{all-drop, all-take}
use Rattle.jpeg_decoder.specs.Bytes.{HaveBytes}
use Rattle.jpeg_decoder.specs.LinesView.{AreAtLeast, IsCropOf, IsInside, IsPartOf, crop_of, lines_given}
use Rattle.jpeg_decoder.specs.declared.picture.lines.Crop.{Crop}

-- what a part has of a line
abbrev part : ℕ → ℕ → List ℕ → List ℕ
part from bytes line = take bytes (drop from line)

-- ---- the lines of a part

rows-length : (top height : ℕ) (lines : List (List ℕ)) → top + height ≤ length lines
    → length (take height (drop top lines)) ≡ height
rows-length top height lines h = length-take-le height (drop top lines) (omega (arith, length-drop top lines))

part-length : (top height from bytes : ℕ) (lines : List (List ℕ)) → top + height ≤ length lines
    → length (crop_of top height from bytes lines) ≡ height
part-length top height from bytes lines h =
    length-map (take height (drop top lines)) (part from bytes) ∙ rows-length top height lines h

-- ---- its bytes

part-bytes : (from bytes : ℕ) (lines : List (List ℕ)) → AreAtLeast (from + bytes) lines
    → HaveBytes bytes (map (part from bytes) lines)
part-bytes from bytes [] all = tt
part-bytes from bytes (line ∷ lines) all = (
  length-take-le bytes (drop from line) (omega (arith, length-drop from line, all.0)),
  part-bytes from bytes lines all.1,
)

part-have : (top height from bytes : ℕ) (lines : List (List ℕ)) → AreAtLeast (from + bytes) lines
    → HaveBytes bytes (crop_of top height from bytes lines)
part-have top height from bytes lines all =
    let P : List ℕ → Type 0 = λ line. from + bytes ≤ length line in
    part-bytes from bytes (take height (drop top lines)) (all-take P height _ (all-drop P top lines all))

-- lines of one length that have at least these bytes
long-enough : (n bytes : ℕ) (lines : List (List ℕ)) → HaveBytes n lines → AreAtLeast bytes lines → 0 < length lines
    → bytes ≤ n
long-enough n bytes [] have all some = absurd (omega arith)
long-enough n bytes (line ∷ lines) have all some = omega (arith, have.0, all.0)

-- ---- a part of all lines

whole-part : (c : Crop) (n bytes : ℕ) (lines : List (List ℕ)) → HaveBytes n lines → length c.row.items ≡ n
    → n < 2 ^ 64 → c.top + c.height ≤ length lines → length lines < 2 ^ 64 → AreAtLeast (c.from + bytes) lines
    → IsInside c bytes lines
whole-part c n bytes lines have room small height fits all = record {
  small = omega (arith, room, small);
  height = height;
  fits = omega arith;
  room = subst (λ k. HaveBytes k lines) (sym room) have;
  width = λ some. omega (arith, room, long-enough n (c.from + bytes) lines have all (omega arith));
}

-- ---- a part of a part

narrower : (from bytes outer n : ℕ) (lines : List (List ℕ)) → from + bytes ≤ n
    → map (part from bytes) (map (part outer n) lines) ≡ map (part (outer + from) bytes) lines
narrower from bytes outer n [] le = refl
narrower from bytes outer n (line ∷ lines) le =
    let k = n - from in
    let is : n ≡ from + k = omega arith in
    let long : bytes ≤ k = omega arith in
    let first : part from bytes (part outer n line) ≡ part (outer + from) bytes line =
    ap (λ m. part from bytes (take m (drop outer line))) is ∙ ap (take bytes) (drop-take from k (drop outer line))
    ∙ take-take bytes k (drop from (drop outer line)) long ∙ ap (take bytes) (drop-drop from outer line) in
    rw (first, narrower from bytes outer n lines le) refl

rows-inside : (top height outer more : ℕ) (lines : List (List ℕ)) → top + height ≤ more
    → take height (drop top (take more (drop outer lines))) ≡ take height (drop (outer + top) lines)
rows-inside top height outer more lines le =
    let k = more - top in
    let is : more ≡ top + k = omega arith in
    ap (λ m. take height (drop top (take m (drop outer lines)))) is ∙ ap (take height) (drop-take top k (drop outer lines))
    ∙ take-take height k (drop top (drop outer lines)) (omega arith) ∙ ap (take height) (drop-drop top outer lines)

part-of-part : (top height from bytes c-top c-height c-from n : ℕ) (lines : List (List ℕ)) → top + height ≤ c-height
    → from + bytes ≤ n
    → crop_of top height from bytes (crop_of c-top c-height c-from n lines)
    ≡ crop_of (c-top + top) height (c-from + from) bytes lines
part-of-part top height from bytes c-top c-height c-from n lines le wide =
    let rows = take c-height (drop c-top lines) in
    ap (λ xs. map (part from bytes) (take height xs)) (drop-map (part c-from n) top rows)
    ∙ ap (map (part from bytes)) (take-map (part c-from n) height (drop top rows))
    ∙ narrower from bytes c-from n (take height (drop top rows)) wide
    ∙ ap (map (part (c-from + from) bytes)) (rows-inside top height c-top c-height lines le)

-- of no lines it is empty, wherever it is
inner-rows : (top height from bytes c-top c-height c-from n d-top d-from : ℕ) (lines whole : List (List ℕ))
    → whole ≡ crop_of c-top c-height c-from n lines → top + height ≤ c-height → d-top ≡ c-top + top
    → (0 < height → from + bytes ≤ n) → (0 < height → d-from ≡ c-from + from)
    → crop_of d-top height d-from bytes lines ≡ crop_of top height from bytes whole
inner-rows top zero from bytes c-top c-height c-from n d-top d-from lines whole is le at wide near = refl
inner-rows top (suc h) from bytes c-top c-height c-from n d-top d-from lines whole is le at wide near =
    let some : 0 < suc h = omega arith in
    let e = near some in
    rw (is, at, e) (sym (part-of-part top (suc h) from bytes c-top c-height c-from n lines le (wide some)))

-- how far a part of it reaches
reaches : (c : Crop) (n bytes top height from : ℕ) (lines whole : List (List ℕ)) → IsInside c n lines
    → whole ≡ crop_of c.top c.height c.from n lines → HaveBytes n whole → top + height ≤ length whole
    → AreAtLeast (from + bytes) whole → 0 < height
    → (from + bytes ≤ n) × (c.from + from + bytes ≤ length c.row.items)
reaches c n bytes top height from lines whole inside is have le all some =
    let long = ap (length {A = List ℕ}) is ∙ part-length c.top c.height c.from n lines inside.height in
    let wide : from + bytes ≤ n = long-enough n (from + bytes) whole have all (omega arith) in
    let room = inside.width (omega (arith, long)) in
    (wide, omega (arith, wide, room))

-- What a part of a part is.
record IsInner (c d : Crop) (down across : ℕ) : Type 0 where
  top : d.top ≡ c.top + down
  from : d.from ≡ min (c.from + across) (2 ^ 64 - 1)
  room : length d.row.items ≡ length c.row.items

inner-lines : (c d : Crop) (n bytes top from : ℕ) (lines whole : List (List ℕ)) → IsInner c d top from
    → IsInside c n lines → whole ≡ crop_of c.top c.height c.from n lines → HaveBytes n whole
    → top + d.height ≤ length whole → AreAtLeast (from + bytes) whole
    → crop_of d.top d.height d.from bytes lines ≡ crop_of top d.height from bytes whole
inner-lines c d n bytes top from lines whole inner inside is have le all =
    let long = ap (length {A = List ℕ}) is ∙ part-length c.top c.height c.from n lines inside.height in
    inner-rows top d.height from bytes c.top c.height c.from n d.top d.from lines whole is (omega (arith, long)) inner.top
    (λ some. (reaches c n bytes top d.height from lines whole inside is have le all some).0)
    (λ some. let r = (reaches c n bytes top d.height from lines whole inside is have le all some).1 in
    omega (arith, r, inner.from, inside.small))

inner-inside : (c d : Crop) (n bytes top from : ℕ) (lines whole : List (List ℕ)) → IsInner c d top from
    → IsInside c n lines → whole ≡ crop_of c.top c.height c.from n lines → HaveBytes n whole
    → top + d.height ≤ length whole → AreAtLeast (from + bytes) whole
    → IsInside d bytes lines
inner-inside c d n bytes top from lines whole inner inside is have le all =
    let long = ap (length {A = List ℕ}) is ∙ part-length c.top c.height c.from n lines inside.height in
    record {
      height = omega (arith, long, inner.top, inside.height);
      fits = omega (arith, long, inner.top, inside.fits);
      room = rw inner.room inside.room;
      width = λ some. let r = (reaches c n bytes top d.height from lines whole inside is have le all some).1 in
          rw inner.room (omega (arith, r, inner.from, inside.small));
      small = rw inner.room inside.small;
    }

-- ---- a part of what is given

inner-of : (c d : Crop) (n top height from : ℕ) → IsPartOf (Some c) n top height from d → IsInner c d top from
inner-of c d n top height from is = record { top = is.0; from = is.2; room = is.3 }

-- It lies in the lines of the source, and has the bytes of the part.
pub record IsPart (d : Crop) (top height from bytes : ℕ) (lines whole : List (List ℕ)) : Type 0 where
  pub inside : IsInside d bytes lines
  pub is : crop_of d.top d.height d.from bytes lines ≡ crop_of top height from bytes whole
  pub have : HaveBytes bytes (crop_of d.top d.height d.from bytes lines)

pub part-made : (o : Option Crop) (d : Crop) (n top height from bytes : ℕ) (lines whole : List (List ℕ))
    → IsPartOf o n top height from d → IsCropOf o n lines → lines_given o n lines ≡ whole → HaveBytes n (lines_given o n lines)
    → length whole < 2 ^ 64 → top + height ≤ length whole
    → AreAtLeast (from + bytes) whole → IsPart d top height from bytes lines whole
part-made None d n top height from bytes lines whole made inside is given few le all =
    let have = subst (HaveBytes n) is given in
    record {
      inside = subst (λ (l : List (List ℕ)). IsInside d bytes l) (sym is)
          (whole-part d n bytes whole have made.3 made.4 (omega (arith, made.0, made.1)) few (rw made.2 all));
      is = rw (made.0, made.1, made.2, is) refl;
      have = rw (made.0, made.1, made.2, is) (part-have top height from bytes whole all);
    }
part-made (Some c) d n top height from bytes lines whole made inside is given few le all =
    let have = subst (HaveBytes n) is given in
    let inner = inner-of c d n top height from made in
    let fits : top + d.height ≤ length whole = omega (arith, made.1) in
    let same = inner-lines c d n bytes top from lines whole inner inside (sym is) have fits all
    ∙ ap (λ (k : ℕ). crop_of top k from bytes whole) made.1 in record {
      inside = inner-inside c d n bytes top from lines whole inner inside (sym is) have fits all;
      is = same;
      have = rw same (part-have top height from bytes whole all);
    }
