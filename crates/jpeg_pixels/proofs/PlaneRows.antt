-- Planes at a scale by their rows of blocks, which are written block by block, and lines that are moved together.
use Rattle.std.proofs.Common.{◌≡◌, ℕ, zero, suc, ◌+◌, ◌*◌, ◌<◌, ◌/◌, ◌%◌, ℤ, List, [], ◌++◌, length, get_or, map, sym}
use Rattle.std.proofs.Common.{ap, ◌∙◌, arith, rules, ◌-◌, ◌≤◌, slice_index, slice_index_or, take, drop, length-take}
use Rattle.std.proofs.Common.{length-drop, length-append, refl, subst}
use Rattle.std.proofs.lemmas.List.FromFn.{fill_by_all, length-map-range_with_len, get_or-map-range_with_len}
use Rattle.std.proofs.Math.Nat.{mul_comm, mul-add, div-lt_iff_lt-mul, mod-lt, mul-add-div, mul-add-mod_self_left}
use Rattle.std.proofs.Math.Nat.{mod-eq_of_lt, mul-le-mul_right, div-add-mod, mul-le-mul_left}
use Rattle.std.specs.List.{range_with_len, CopiedTo, SameBelow, SameFrom}
use Rattle.jpeg_pixels.specs.Scaled.{sample_at}
use Rattle.jpeg_pixels.specs.Planes.{plane_of, plane_sample, strip_of, zero_coefficients, cropped}
use Rattle.jpeg_pixels.proofs.Sums.{range-split}
use Rattle.std.proofs.lemmas.List.{get_or_default, ext_get_or, get_or-take, get_or-drop}
use Rattle.std.proofs.lemmas.List.{get_or-append-add, get_or_append_left, append-nil}
use Rattle.std.proofs.lemmas.Bool.{cases_lt}
use Rattle.std.proofs.Math.Logic.{⊎_elim}
use borrow.Rule.Slice.PartMut.{put_mid, mid_of}
use Rattle.jpeg_pixels.specs.Blocks.{WritesBlock}
use Rattle.std.proofs.lemmas.Grind.{common_steps}
use Rattle.std.proofs.Math.Seq.{take-append_seam, take-append-add, take-length}
use Rattle.std.proofs.Math.ListN.{drop_of_length-le}

abbrev area : ℕ → ℕ → ℕ → ℕ
area s wide high = s * wide * (s * high)

pub length_plane_of : (s : ℕ) (table : List ℕ) (wide high : ℕ) (block_at : ℕ → ℕ → List ℤ)
    → length (plane_of s table wide high block_at) ≡ area s wide high
unfolding plane_of
length_plane_of s table wide high block_at = length-map-range_with_len _ 0 (area s wide high)

-- the number at an index of a plane
plane_of_at : (s : ℕ) (table : List ℕ) (wide high : ℕ) (block_at : ℕ → ℕ → List ℤ) (i : ℕ) → i < area s wide high →
    get_or (plane_of s table wide high block_at) i 0 ≡ plane_sample s table block_at (i % (s * wide)) (i / (s * wide))
unfolding plane_of
plane_of_at s table wide high block_at i h = get_or-map-range_with_len _ 0 (area s wide high) i i 0 h (omega arith)

pub some-left : (n m i : ℕ) → i < n * m → 0 < n
some-left zero m i h = absurd (let e : 0 * m ≡ 0 = omega arith in omega arith)
some-left (suc n) m i h = omega arith

pub line_lt : (w n i : ℕ) → i < w * n → i / w < n
line_lt w n i h = search (rules, div-lt_iff_lt-mul, mul_comm, some-left)

-- a plane depends on its blocks alone
pub plane-same : (s : ℕ) (table : List ℕ) (wide high : ℕ) (f g : ℕ → ℕ → List ℤ)
    → ((r c : ℕ) → r < high → c < wide → f r c ≡ g r c) → plane_of s table wide high f ≡ plane_of s table wide high g
unfolding plane_of
plane-same s table wide high f g same =
    fill_by_all (λ i. plane_sample s table g (i % (s * wide)) (i / (s * wide))) (plane_of s table wide high f)
    (area s wide high) 0 (length_plane_of s table wide high f)
    (λ i lt.
    let some : 0 < s * wide = some-left (s * wide) (s * high) i lt in
    let line : i / (s * wide) < s * high = line_lt (s * wide) (s * high) i lt in
    let column : i % (s * wide) < s * wide = mod-lt i some in
    plane_of_at s table wide high f i lt
    ∙ ap (λ (b : List ℤ). sample_at s b table (i % (s * wide) % s) (i / (s * wide) % s))
    (same (i / (s * wide) / s) (i % (s * wide) / s) (line_lt s high (i / (s * wide)) line)
    (line_lt s wide (i % (s * wide)) column)))

-- a row of blocks
pub one-row : (s : ℕ) (table : List ℕ) (blocks : List (List ℤ)) → plane_of s table (length blocks) 1
    (λ row column. slice_index_or blocks (row * length blocks + column) zero_coefficients) ≡ strip_of s table blocks
one-row s table blocks = plane-same s table (length blocks) 1
    (λ row column. slice_index_or blocks (row * length blocks + column) zero_coefficients)
    (λ row column. slice_index_or blocks column zero_coefficients)
    (λ r c hr hc.
    let first : r ≡ 0 = omega arith in
    let none : 0 * length blocks + c ≡ c = omega arith in
    ap (λ (n : ℕ). slice_index_or blocks n zero_coefficients) (ap (λ (k : ℕ). k * length blocks + c) first ∙ none))

pub plane-none : (s : ℕ) (table : List ℕ) (wide : ℕ) (block_at : ℕ → ℕ → List ℤ) → plane_of s table wide 0 block_at ≡ []
unfolding plane_of
plane-none s table wide block_at = search rules

-- a sample of the rows of blocks below
rows_after : (s : ℕ) (table : List ℕ) (wide high : ℕ) (block_at : ℕ → ℕ → List ℤ) (j : ℕ) → 0 < s * wide → 0 < s →
    plane_sample s table block_at ((area s wide high + j) % (s * wide)) ((area s wide high + j) / (s * wide))
    ≡ plane_sample s table (λ row column. block_at (high + row) column) (j % (s * wide)) (j / (s * wide))
rows_after s table wide high block_at j some some-s = simp (mul-add-mod_self_left, mul-add-div)

-- the rows of blocks above and those below
pub plane-joined : (s : ℕ) (table : List ℕ) (wide high more : ℕ) (block_at : ℕ → ℕ → List ℤ) →
    plane_of s table wide (high + more) block_at
    ≡ plane_of s table wide high block_at ++ plane_of s table wide more (λ row column. block_at (high + row) column)
unfolding plane_of
plane-joined s table wide high more block_at =
    let all : area s wide (high + more) ≡ area s wide high + area s wide more = omega (arith, mul-add) in
    rw all (range-split _ _ (area s wide high) (area s wide more) (λ j h.
    let some = some-left (s * wide) (s * more) j h in
    rows_after s table wide high block_at j some (some-left s wide 0 (omega arith))))

-- one more row of blocks
pub plane-more : (s : ℕ) (table : List ℕ) (wide high : ℕ) (block_at : ℕ → ℕ → List ℤ) →
    plane_of s table wide (high + 1) block_at
    ≡ plane_of s table wide high block_at ++ strip_of s table (map (block_at high) (range_with_len 0 wide))
plane-more s table wide high block_at =
    plane-joined s table wide high 1 block_at ∙ ap (λ (l : List ℕ). plane_of s table wide high block_at ++ l)
    (rw (length-map-range_with_len (block_at high) 0 wide) (plane-same s table wide 1 _ _ (λ r c hr hc.
    let first : high + r ≡ high = omega arith in
    ap (λ n. block_at n c) first
    ∙ sym (get_or-map-range_with_len (block_at high) 0 wide c c zero_coefficients hc (omega arith)))))

pub ruleset planes = (plane-none, plane-more, plane-joined, plane-same)

-- a write to all from index a on: the indices below a stay
pub put_tail_below : (a k : ℕ) (xs ys : List ℕ) (i : ℕ) → a ≤ length xs → i < a
    → get_or (put_mid a k xs ys) i 0 ≡ get_or xs i 0
put_tail_below a k xs ys i le lt = search (rules, get_or-take, get_or_append_left, length-take)

-- and from a on stands what was written
pub put_tail_at : (a k : ℕ) (xs ys : List ℕ) (j : ℕ) → a ≤ length xs → k ≡ length xs - a
    → get_or (put_mid a k xs ys) (a + j) 0 ≡ get_or ys j 0
put_tail_at a k xs ys j le whole =
    search (rules, append-nil, drop_of_length-le, get_or, get_or-append-add, length-drop, length-take)

-- what was lent from index a on
pub tail_was : (a k : ℕ) (xs : List ℕ) (j : ℕ) → k ≡ length xs - a → get_or (mid_of a k xs) j 0 ≡ get_or xs (a + j) 0
tail_was a k xs j whole = grind (arith, common_steps, get_or, get_or-drop, length-drop, take-length)

-- one more row, written at the front of what begins at its first index
pub WritesBlock-next : (width last y stride : ℕ) (sample_at : ℕ → ℕ → ℕ) (old now new : List ℕ) (k : ℕ) → width ≤ stride
    → y ≤ last → last * stride ≤ length now → k ≡ length now - y * stride
    → ((x : ℕ) → x < width → slice_index new x ≡ sample_at x y)
    → ((i : ℕ) → width ≤ i → slice_index new i ≡ slice_index (mid_of (y * stride) k now) i)
    → WritesBlock width y stride sample_at old now
    → WritesBlock width (y + 1) stride sample_at old (put_mid (y * stride) k now new)
WritesBlock-next width last y stride sample_at old now new k wide low enough whole written kept before = record {
  inside = λ x r hx hr. by_row r hr
      (λ lt. put_tail_below a k now new (r * stride + x) room (earlier r x lt (omega arith)) ∙ before.inside x r hx lt)
      (λ e. ap (λ (m : ℕ). get_or (put_mid a k now new) (m * stride + x) 0) e ∙ put_tail_at a k now new x room whole
      ∙ written x hx ∙ ap (sample_at x) (sym e));
  right = λ x r hx hs hr. by_row r hr
      (λ lt. put_tail_below a k now new (r * stride + x) room (earlier r x lt hs) ∙ before.right x r hx hs lt)
      (λ e. ap (λ (m : ℕ). get_or (put_mid a k now new) (m * stride + x) 0) e ∙ put_tail_at a k now new x room whole
      ∙ kept x hx ∙ tail_was a k now x whole
      ∙ before.below (a + x) (omega arith) ∙ ap (λ (m : ℕ). get_or old (m * stride + x) 0) (sym e));
  below = λ i hi.
      let j = i - a in
      let is : a + j ≡ i = omega arith in
      let past : width ≤ j = omega arith in
      ap (λ (m : ℕ). get_or (put_mid a k now new) m 0) (sym is) ∙ put_tail_at a k now new j room whole ∙ kept j past
      ∙ tail_was a k now j whole
      ∙ before.below (a + j) (omega arith) ∙ ap (λ (m : ℕ). get_or old m 0) is;
}
  where
    room : y * stride ≤ length now
    room = omega (arith, mul-le-mul_right stride low)

    a : ℕ
    a = y * stride

    earlier : (r x : ℕ) → r < y → x < stride → r * stride + x < y * stride
    earlier r x lt hs = omega (arith, mul-le-mul_right stride lt)

    by_row : {P : Type 0} (r : ℕ) → r < y + 1 → (r < y → P) → (r ≡ y → P) → P
    by_row r hr f g = ⊎_elim f (λ le. g (omega arith)) (cases_lt r y)

put_mid_long : (a : ℕ) (xs ys : List ℕ) → a ≤ length xs → length ys ≡ length xs - a
    → length (put_mid a (length xs - a) xs ys) ≡ length xs
put_mid_long a xs ys low long = grind (arith, common_steps, length-take, length-drop, length-append)

-- one more row of eight, where the bytes before it are eight rows long
pub WritesBlock-line : (y stride a : ℕ) (sample_at : ℕ → ℕ → ℕ) (old now new : List ℕ) → a ≡ y * stride → y < 8
    → 8 ≤ stride → 7 * stride + 8 ≤ length old → length new ≡ length now - a
    → ((x : ℕ) → x < 8 → slice_index new x ≡ sample_at x y)
    → ((i : ℕ) → 8 ≤ i → slice_index new i ≡ slice_index (mid_of a (length now - a) now) i)
    → WritesBlock 8 y stride sample_at old now × (length now ≡ length old)
    → WritesBlock 8 (y + 1) stride sample_at old (put_mid a (length now - a) now new)
    × (length (put_mid a (length now - a) now new) ≡ length old)
WritesBlock-line y stride a sample_at old now new e few wide room long written kept before =
    let low : a ≤ length now = omega (arith, e, few, room, before.1, mul-le-mul_right stride few) in
    let block = subst (λ (m : ℕ). ((i : ℕ) → 8 ≤ i → slice_index new i ≡ slice_index (mid_of m (length now - m) now) i)
    → WritesBlock 8 (y + 1) stride sample_at old (put_mid m (length now - m) now new)) (sym e)
    (λ kept'. WritesBlock-next 8 7 y stride sample_at old now new (length now - y * stride) wide (omega (arith, few))
    (omega (arith, room, before.1)) refl written kept' before.0) kept in
    (block, put_mid_long a now new low long ∙ before.1)

-- the first columns of samples of some lines
pub record HoldsSamples (lines stride columns : ℕ) (at : ℕ → ℕ → ℕ) (strip : List ℕ) : Type 0 where
  pub kept : (x y : ℕ) → x < columns → y < lines → slice_index strip (y * stride + x) ≡ at x y

-- one more block, written at the front of what begins at its first sample
HoldsSamples-next : (s stride column k : ℕ) (at block_at : ℕ → ℕ → ℕ) (now new : List ℕ)
    → s * column + s ≤ stride → s * column ≤ length now → k ≡ length now - s * column
    → ((x y : ℕ) → x < s → y < s → block_at x y ≡ at (s * column + x) y)
    → WritesBlock s s stride block_at (mid_of (s * column) k now) new
    → HoldsSamples s stride (s * column) at now
    → HoldsSamples s stride (s * (column + 1)) at (put_mid (s * column) k now new)
HoldsSamples-next s stride column k at block_at now new wide room whole same written before =
    record {
      kept = λ x y hx hy. ⊎_elim (left x y hy) (λ le. here x y hx hy le) (cases_lt x (s *
          column));
    }
  where
    a : ℕ
    a = s * column

    here : (x y : ℕ) → x < s * (column + 1) → y < s → s * column ≤ x
        → get_or (put_mid (s * column) k now new) (y * stride + x) 0 ≡ at x y
    here x y hx hy le =
        let more : s * (column + 1) ≡ s * column + s = omega arith in
        let index : y * stride + x ≡ s * column + (y * stride + (x - s * column)) = omega arith in
        let back : s * column + (x - s * column) ≡ x = omega arith in
        ap (λ i. get_or (put_mid (s * column) k now new) i 0) index
        ∙ put_tail_at (s * column) k now new (y * stride + (x - s * column)) room whole
        ∙ written.inside (x - s * column) y (omega (arith, more)) hy
        ∙ same (x - s * column) y (omega (arith, more)) hy
        ∙ ap (λ i. at i y) back

    left : (x y : ℕ) → y < s → x < s * column → get_or (put_mid (s * column) k now new) (y * stride + x) 0 ≡ at x y
    left x zero hy lt = put_tail_below (s * column) k now new (0 * stride + x) room (omega arith)
        ∙ before.kept x 0 lt hy
    left x (suc y) hy lt =
        let across = x + stride - s * column in
        let index : suc y * stride + x ≡ s * column + (y * stride + across) = omega arith in
        ap (λ i. get_or (put_mid (s * column) k now new) i 0) index
        ∙ put_tail_at (s * column) k now new (y * stride + across) room whole
        ∙ written.right across y (omega arith) (omega arith) (omega arith)
        ∙ tail_was (s * column) k now (y * stride + across) whole
        ∙ ap (λ i. get_or now i 0) (sym index)
        ∙ before.kept x (suc y) lt hy

-- a block of a row is at its column
block_in_row : (s : ℕ) (table : List ℕ) (blocks : List (List ℤ)) (column : ℕ) (block : List ℤ)
    → block ≡ slice_index_or blocks column zero_coefficients → (x y : ℕ) → x < s → y < s
    → sample_at s block table x y ≡ plane_sample s table (λ row index. slice_index_or blocks index
    zero_coefficients)
    (s * column + x) y
block_in_row s table blocks column block is x y hx hy =
    search (rules, line_lt, mod-eq_of_lt, mul-add-div, mul-add-mod_self_left, slice_index_or)

-- one more block of a row
pub HoldsSamples-block : (s : ℕ) (table : List ℕ) (blocks : List (List ℤ)) (column k : ℕ) (now new : List ℕ) → 1 ≤ s
    → column < length blocks → length now ≡ s * s * length blocks → k ≡ length now - s * column
    → WritesBlock s s (s * length blocks) (sample_at s (slice_index_or blocks column []) table)
    (mid_of (s * column) k now) new
    → HoldsSamples s (s * length blocks) (s * column)
    (plane_sample s table (λ row index. slice_index_or blocks index zero_coefficients)) now
    → HoldsSamples s (s * length blocks) (s * (column + 1))
    (plane_sample s table (λ row index. slice_index_or blocks index zero_coefficients)) (put_mid (s * column) k now new)
HoldsSamples-block s table blocks column k now new some lt whole rest written before =
    let room : (s * column + s ≤ s * length blocks) × (s * column ≤ length now) = search (rules, mul-le-mul_right) in
    HoldsSamples-next s (s * length blocks) column k _ (sample_at s (slice_index_or blocks column []) table) now new
    room.0 room.1 rest
    (block_in_row s table blocks column _ (get_or_default blocks column [] zero_coefficients lt)) written before

-- all columns
pub HoldsSamples-all : (s : ℕ) (table : List ℕ) (blocks : List (List ℤ)) (strip : List ℕ)
    (column : ℕ) → column ≡ length blocks → length strip ≡ s * s * length blocks
    → HoldsSamples s (s * length blocks) (s * column)
    (plane_sample s table (λ row index. slice_index_or blocks index zero_coefficients)) strip
    → strip ≡ strip_of s table blocks
unfolding plane_of
HoldsSamples-all s table blocks strip column whole n before =
    let holds = rw whole at before in
    let stride = s * length blocks in
    let one : s * 1 ≡ s = omega arith in
    fill_by_all (λ i. plane_sample s table (λ row index. slice_index_or blocks index
    zero_coefficients) (i % stride)
    (i / stride)) strip (stride * (s * 1)) 0 (n ∙ omega arith)
    (λ i h.
    let some : 0 < stride = some-left stride (s * 1) i h in
    let line : i / stride < s = omega (arith, line_lt stride (s * 1) i h, one) in
    let is : i / stride * stride + i % stride ≡ i = (λ j. mul_comm (i / stride) stride j + i % stride)
    ∙ div-add-mod i stride in
    ap (λ m. get_or strip m 0) (sym is) ∙ holds.kept (i % stride) (i / stride) (mod-lt i some) line)

-- what stands in front, after a piece was written after it
pub take_next : (a size k : ℕ) (now piece above : List ℕ) → take a now ≡ above → a ≤ length now → length piece ≡ size
    → take (a + size) (put_mid a k now piece) ≡ above ++ piece
take_next a size k now piece above is room e =
    grind (arith, common_steps, length-take, take-append-add, take-append_seam)

-- the blocks of a row
blocks_of_row : (blocks : List (List ℤ)) (first wide k : ℕ) → k ≡ wide → first + wide ≤ length blocks
    → take k (drop first blocks) ≡ map (λ column. slice_index_or blocks (first + column) zero_coefficients)
    (range_with_len 0 wide)
blocks_of_row blocks first wide k e room =
    let at = λ (column : ℕ). slice_index_or blocks (first + column) zero_coefficients in
    let count : length (take k (drop first blocks))
    ≡ wide = omega (arith, length-take {A = List ℤ}, length-drop {A = List ℤ}) in
    ext_get_or zero_coefficients (take k (drop first blocks)) (map at (range_with_len 0 wide))
    (count ∙ sym (length-map-range_with_len at 0 wide))
    (λ i h.
    get_or-take k (drop first blocks) i zero_coefficients (omega arith)
    ∙ get_or-drop first blocks i zero_coefficients
    ∙ sym (get_or-map-range_with_len at 0 wide i i zero_coefficients (omega arith) (omega arith)))

-- one more row of blocks
pub rows_next : (s : ℕ) (table : List ℕ) (blocks : List (List ℤ)) (wide row k m : ℕ) (now piece : List ℕ)
    → take (row * (s * s * wide)) now ≡ plane_of s table wide row
    (λ r column. slice_index_or blocks (r * wide + column) zero_coefficients)
    → row * (s * s * wide) ≤ length now → length piece ≡ s * s * wide
    → m ≡ wide → row * wide + wide ≤ length blocks
    → piece ≡ strip_of s table (take m (drop (row * wide) blocks))
    → take ((row + 1) * (s * s * wide)) (put_mid (row * (s * s * wide)) k now piece)
    ≡ plane_of s table wide (row + 1) (λ r column. slice_index_or blocks (r * wide + column) zero_coefficients)
rows_next s table blocks wide row k m now piece is room size e inside written =
    let next : (row + 1) * (s * s * wide) ≡ row * (s * s * wide) + s * s * wide = omega arith in
    ap (λ (n : ℕ). take n (put_mid (row * (s * s * wide)) k now piece)) next
    ∙ take_next (row * (s * s * wide)) (s * s * wide) k now piece _ is room size
    ∙ ap (λ (l : List ℕ). plane_of s table wide row
    (λ r column. slice_index_or blocks (r * wide + column) zero_coefficients) ++ l)
    (written ∙ ap (strip_of s table) (blocks_of_row blocks (row * wide) wide m e inside))
    ∙ sym (plane-more s table wide row (λ r column. slice_index_or blocks (r * wide + column) zero_coefficients))

-- a row that is left has room
pub row_has_room : (s wide row rows room count : ℕ) → row < rows → room ≡ s * wide * (s * rows) → count ≡ wide * rows
    → (row * (s * s * wide) + s * s * wide ≤ room) × (row * wide + wide ≤ count)
row_has_room s wide row rows room count h is e =
    let lines : row * (s * s * wide) + s * s * wide ≤ rows * (s * s * wide) = omega
    (arith, mul-le-mul_right (s * s * wide) h) in
    let all : rows * (s * s * wide) ≡ room = omega arith in
    (omega (arith, lines, all), omega (arith, mul-le-mul_right wide h))

-- one more line
pub next_line : (stride width y end : ℕ) (old now new : List ℕ) → width ≤ stride → end ≡ y * stride + width
    → CopiedTo now new (y * stride) (y * width) (end - y * stride) × SameBelow now new (y * width)
    × SameFrom now new (y * width + (end - y * stride))
    → ((r x : ℕ) → r < y → x < width → slice_index now (r * width + x) ≡ slice_index old (r * stride + x))
    × ((i : ℕ) → y * width ≤ i → slice_index now i ≡ slice_index old i)
    → ((r x : ℕ) → r < y + 1 → x < width → slice_index new (r * width + x) ≡ slice_index old (r * stride + x))
    × ((i : ℕ) → (y + 1) * width ≤ i → slice_index new i ≡ slice_index old i)
next_line stride width y end old now new narrow is copied before = (
  λ r x hr hx. ⊎_elim (earlier r x hx) (λ le. here r x hx (omega arith)) (cases_lt r y),
  λ i h. copied.2 i 0 (omega arith) ∙ before.1 i (omega arith),
)
  where
    earlier : (r x : ℕ) → x < width → r < y → slice_index new (r * width + x) ≡ slice_index old (r * stride + x)
    earlier r x hx lt = copied.1 (r * width + x) 0 (omega (arith, mul-le-mul_right width lt)) ∙ before.0 r x lt hx

    here : (r x : ℕ) → x < width → r ≡ y → slice_index new (r * width + x) ≡ slice_index old (r * stride + x)
    here r x hx e =
        let from : y * stride + (y * width + x - y * width) ≡ y * stride + x = omega arith in
        let after : y * width ≤ y * stride + x = omega (arith, mul-le-mul_left y narrow) in
        ap (λ n. get_or new (n * width + x) 0) e
        ∙ copied.0 (y * width + x) 0 (omega arith) (omega arith)
        ∙ ap (λ i. get_or now i 0) from
        ∙ before.1 (y * stride + x) after
        ∙ ap (λ n. get_or old (n * stride + x) 0) (sym e)

-- all lines, and nothing after them
pub all_lines : (stride width height : ℕ) (old new : List ℕ) → width ≤ stride → height * stride ≤ length new
    → ((y x : ℕ) → y < height → x < width → slice_index new (y * width + x) ≡ slice_index old (y * stride + x))
    → take (width * height) new ≡ cropped stride width height old
unfolding cropped
all_lines stride width height old new narrow room each =
    let turned : width * height ≡ height * width = mul_comm width height in
    let enough : width * height ≤ length new = omega (arith, turned, mul-le-mul_left height narrow) in
    fill_by_all (λ i. slice_index old (i / width * stride + i % width)) (take (width * height) new) (width * height) 0
    (omega (arith, length-take {A = ℕ}))
    (λ i h.
    let some : 0 < width = some-left width height i h in
    let after : i < height * width = omega (arith, turned) in
    let line : i / width < height = (div-lt_iff_lt-mul {k = width} {x = i} {y = height} some).1 after in
    let is : i / width * width + i % width ≡ i = (λ j. mul_comm (i / width) width j + i % width)
    ∙ div-add-mod i width in
    get_or-take (width * height) new i 0 h ∙ ap (λ n. get_or new n 0) (sym is)
    ∙ each (i / width) (i % width) line (mod-lt i some))

-- lines that stand together already
pub same_lines : (stride width height : ℕ) (old : List ℕ) → width ≡ stride → height * stride ≤ length old
    → take (width * height) old ≡ cropped stride width height old
same_lines stride width height old e room = search (rules, all_lines, get_or)
