-- A scan from zeros is its rows of MCUs, each read into blocks of its own.
use Rattle.std.proofs.Common.{rules, ◌≡◌, ℕ, zero, suc, ◌+◌, ◌-◌, ◌*◌, ◌/◌, ◌≤◌, ◌<◌, List, [], ◌∷◌, ◌++◌, map, length}
use Rattle.std.proofs.Common.{set, get_or, Result, Ok, Err, refl, sym, ap, ap₂, ◌∙◌, append_assoc, append-nil, arith}
use Rattle.std.proofs.Common.{length-set, length-append, ℤ, false}
use Rattle.std.proofs.lemmas.Grind.{common_steps, flat_map-append}
use Rattle.std.specs.Prelude.{min, ◌&&◌, if◌then◌else◌}
use Rattle.std.specs.List.{AllByRecursion, range_with_len, flat_map}
use Rattle.jpeg_bits.specs.Reading.{Fault}
use Rattle.jpeg_bits.specs.Entropy.{Text, upcoming, fresh}
use Rattle.jpeg_bits.specs.Readers.{Reads, read_on, gives}
use Rattle.jpeg_segments.specs.Frame.{Frame, Component}
use Rattle.jpeg_bits.specs.Passes.{Pass, Via, Block, zero_block}
use Rattle.jpeg_meaning.specs.Order.{Spot, grid_of, own_spots, part_spots, mcu_spots, all_spots, spots_of, mcu_size}
use Rattle.jpeg_meaning.specs.Scans.{Arrays, zero_arrays, put_block}
use Rattle.jpeg_meaning.specs.InTurn.{Reached, turn_from, Counted, begun_from, next_from, blocks_from, IsIn, IsInside}
use Rattle.jpeg_meaning.specs.InTurn.{Fits, counted_at_start, scan_from, AreArrays}
use Rattle.jpeg_meaning.specs.McuRows.{zero_rows, row_size, own_row, mcu_row, rows_of}
use Rattle.jpeg_meaning.specs.McuRows.{each_with_more, on_arrays, mcu_rows_from, scan_by_rows}
use Rattle.jpeg_meaning.proofs.Order.CountedScans.{put-inside, finished, on-on, blocks-append, some-product, frame-scans}
use Rattle.std.proofs.Math.Nat.{add-mul, mul_assoc, div-lt_iff_lt-mul}
use Rattle.jpeg_meaning.proofs.Order.Apart.{At, at-all, in-flat-back, mcu-tells, own-within, placed}
use Rattle.jpeg_meaning.proofs.Order.Apart.{map-same, get-at, sized, zeros-sized}
use Rattle.std.proofs.lemmas.List.{map-append, set-append_left, set-append_right, length-replicate}
use Rattle.std.proofs.lemmas.List.{replicate-append-replicate, get_or-map, ext_get_or}
use Rattle.std.proofs.lemmas.List.{get_or-append_right, get_or_append_left, length-map}
use Rattle.std.proofs.lemmas.List.FromFn.{length-map-range_with_len, get_or-map-range_with_len}
use Rattle.std.proofs.lemmas.Nat.{div-mul-add}
use Rattle.jpeg_pixels.specs.Planes.{plane_of, strip_of}
use Rattle.jpeg_meaning.specs.Rasters.{ordered, in_raster}
use Rattle.jpeg_pixels.proofs.PlaneRows.{plane-more, plane-same}
use Rattle.jpeg_segments.specs.ScanHeader.{Scan}
use Rattle.jpeg_meaning.specs.ScanSegments.{Coding, components_of, pass_of, vias_from, codings_of}
use Rattle.jpeg_meaning.specs.ScanSegments.{put_arrays, is_progressive, arrays_before, scan_arrays}
use Rattle.jpeg_meaning.specs.Found.{Found}
use Rattle.jpeg_meaning.proofs.Written.BroughtLevels.{zero-at as zeros-at}
use Rattle.jpeg_meaning.proofs.Written.ReadTurns.{codings-each}

-- ---- a list inside another

set-inside : {A : Type 0} (x y z : List A) (i : ℕ) (b : A) → i < length y → set (x ++ (y ++ z)) (length x + i) b
    ≡ x ++ (set y i b ++ z)
set-inside x y z i b h = set-append_right x (y ++ z) (length x) (length x + i) b refl (omega arith)
    ∙ ap (λ (k : ℕ). x ++ set (y ++ z) k b) (let e : length x + i - length x ≡ i = omega arith in e)
    ∙ ap (λ l. x ++ l) (set-append_left y z i b h)

get-inside : {A : Type 0} (x y z : List A) (i : ℕ) (d : A) → i < length y → get_or (x ++ (y ++ z)) (length x + i) d
    ≡ get_or y i d
get-inside {A} x y z i d h = grind (arith, common_steps)

-- ---- arrays inside others

-- arrays with some in front and the rest after
abbrev pub around : Arrays → Arrays → Arrays → Arrays
around (x ∷ front) (y ∷ arrays) (z ∷ rest) = (x ++ (y ++ z)) ∷ around front arrays rest
around _ _ _ = []

pub record Aligned (front arrays rest : Arrays) : Type 0 where
  pub before : length front ≡ length arrays
  pub after : length rest ≡ length arrays

get-around : (front arrays rest : Arrays) (slot : ℕ) → Aligned front arrays rest → slot < length arrays
    → get_or (around front arrays rest) slot [] ≡ get_or front slot [] ++ (get_or arrays slot [] ++ get_or rest slot [])
get-around (x ∷ front) (y ∷ arrays) (z ∷ rest) (suc slot) a h =
    search (rules, get-around front arrays rest slot)
get-around front arrays rest slot a h = search rules

set-around : (front arrays rest : Arrays) (slot : ℕ) (y : List Block) → Aligned front arrays rest
    → set (around front arrays rest) slot (get_or front slot [] ++ (y ++ get_or rest slot []))
    ≡ around front (set arrays slot y) rest
set-around (x ∷ front) (b ∷ arrays) (z ∷ rest) (suc slot) y a =
    search (rules, set-around front arrays rest slot y)
set-around front arrays rest slot y a = search rules

-- a spot after those in front
abbrev pub shifted : Arrays → Spot → Spot
shifted front s = record { slot = s.slot; index = length (get_or front s.slot []) + s.index }

put-shifted : (front arrays rest : Arrays) (s : Spot) (b : Block) → Aligned front arrays rest → IsInside arrays s
    → put_block (shifted front s) b (around front arrays rest) ≡ around front (put_block s b arrays) rest
put-shifted front arrays rest s b a h = search (rules, get-around, set-inside, set-around)

-- ---- reading

abbrev pub wrapped : Arrays → Arrays → Reached → Reached
wrapped front rest r = record { arrays = around front r.arrays rest; predictors = r.predictors; run = r.run }

abbrev pub wrapped_count : Arrays → Arrays → Counted → Counted
wrapped_count front rest c = record { reached = wrapped front rest c.reached; left = c.left; number = c.number; beyond = c.beyond }

-- what holds of arrays that reading keeps
pub record Holds (front rest : Arrays) (spots : List Spot) (arrays : Arrays) : Type 0 where
  pub aligned : Aligned front arrays rest
  pub inside : (s : Spot) → IsIn s spots → IsInside arrays s

-- What is read in blocks that stand inside others is read in those. The blocks that are kept keep what holds of them.
abbrev pub Keeps : (Arrays → Type 0) → Result (Reached × Text) Fault → Type 0
Keeps P (Ok r) = P r.0.arrays
Keeps P (Err e) = Unit {0}

abbrev pub KeepsCounted : (Arrays → Type 0) → Result (Counted × Text) Fault → Type 0
KeepsCounted P (Ok r) = P r.0.reached.arrays
KeepsCounted P (Err e) = Unit {0}

begun-keeps : (P : Arrays → Type 0) (n : ℕ) (old : Counted) (t : Text) → P old.reached.arrays
    → KeepsCounted P (begun_from n old t)
unfolding begun_from
begun-keeps P n old t h = search rules

abbrev pub after_turn : Counted → Reached → Counted
after_turn now r = record { reached = r; left = now.left - 1; number = now.number; beyond = now.beyond }

counted-on : (P : Arrays → Type 0) (f : Counted → Reads Counted) → ((r : Counted) (t : Text) → P r.reached.arrays
    → KeepsCounted P (f r t))
    → (o : Result (Counted × Text) Fault) → KeepsCounted P o → KeepsCounted P (read_on f o)
counted-on P f h o k = search rules

-- ---- what reading keeps of the arrays

-- blocks put in keep it
abbrev pub IsKept : (Arrays → Type 0) → Type 0
IsKept P = (arrays : Arrays) (s : Spot) (b : Block) → P arrays → P (put_block s b arrays)

pub next-any : (P : Arrays → Type 0) → IsKept P → (p : Pass) (vias : List Via) (n : ℕ) (s : Spot) (old : Counted)
    (t : Text) → P old.reached.arrays → KeepsCounted P (next_from p vias n s old t)
unfolding next_from turn_from
next-any P kept p vias n s old t h =
    counted-on P (λ now. λ u. read_on (λ r. gives (after_turn now r)) (turn_from p vias s now.reached u))
    (search (rules, one))
    (begun_from n old t) (begun-keeps P n old t h)
  where
    one : (now : Counted) (o : Result (Reached × Text) Fault) → Keeps P o
        → KeepsCounted P (read_on (λ r. gives (after_turn now r)) o)
    one now n k = search rules

pub blocks-any : (P : Arrays → Type 0) → IsKept P → (p : Pass) (vias : List Via) (n : ℕ) (spots : List Spot)
    (old : Counted) (t : Text) → P old.reached.arrays
    → KeepsCounted P (blocks_from p vias n spots old t)
unfolding blocks_from
blocks-any P kept p vias n [] old t h = h
blocks-any P kept p vias n (s ∷ spots) old t h =
    search (rules, counted-on, next-any, blocks-any P kept p vias n spots)

-- ---- blocks inside others

begun-shifted : (n : ℕ) (front rest : Arrays) (old : Counted) (t : Text)
    → begun_from n (wrapped_count front rest old) t ≡ read_on (λ r. gives (wrapped_count front rest r))
    (begun_from n old t)
unfolding begun_from
begun-shifted n front rest old t = search rules

pub counted-where : {A : Type 0} (P : Arrays → Type 0) (f g : Counted → Reads A)
    → ((r : Counted) (t : Text) → P r.reached.arrays → f r t ≡ g r t)
    → (o : Result (Counted × Text) Fault) → KeepsCounted P o → read_on f o ≡ read_on g o
counted-where P f g h o k = search rules

pub next-shifted : (p : Pass) (vias : List Via) (n : ℕ) (front rest : Arrays) (s : Spot) (spots : List Spot)
    (old : Counted) (t : Text) → Holds front rest (s ∷ spots) old.reached.arrays
    → next_from p vias n (shifted front s) (wrapped_count front rest old) t
    ≡ read_on (λ r. gives (wrapped_count front rest r)) (next_from p vias n s old t)
unfolding next_from turn_from
next-shifted p vias n front rest s spots old t h =
    let far : Counted → Reads Counted = λ now. λ u. read_on (λ r. gives (after_turn now r))
    (turn_from p vias (shifted front s) now.reached u) in
    let near : Counted → Reads Counted = λ now. λ u. read_on (λ r. gives (after_turn now r))
    (turn_from p vias s now.reached u) in
    let wrap : Counted → Reads Counted = λ r. gives (wrapped_count front rest r) in
    let all = Holds front rest (s ∷ spots) in
    ap (read_on far) (begun-shifted n front rest old t)
    ∙ on-on wrap far (begun_from n old t)
    ∙ counted-where all (λ now. λ u. far (wrapped_count front rest now) u)
    (λ now. λ u. read_on wrap (near now u))
    (search (rules, get-around, get-inside, put-shifted))
    (begun_from n old t) (begun-keeps all n old t h)
    ∙ sym (on-on near wrap (begun_from n old t))

-- Blocks that are read where they stand inside others are read into those.
pub blocks-shifted : (p : Pass) (vias : List Via) (n : ℕ) (front rest : Arrays) (spots : List Spot) (old : Counted)
    (t : Text) → Holds front rest spots old.reached.arrays
    → blocks_from p vias n (map (shifted front) spots) (wrapped_count front rest old) t
    ≡ read_on (λ r. gives (wrapped_count front rest r)) (blocks_from p vias n spots old t)
unfolding blocks_from
blocks-shifted p vias n front rest [] old t h = refl
blocks-shifted p vias n front rest (s ∷ spots) old t h =
    let next = blocks_from p vias n (map (shifted front) spots) in
    let wrap : Counted → Reads Counted = λ r. gives (wrapped_count front rest r) in
    let all = Holds front rest (s ∷ spots) in
    ap (read_on next) (next-shifted p vias n front rest s spots old t h)
    ∙ on-on wrap next (next_from p vias n s old t)
    ∙ counted-where all (λ r. λ u. next (wrapped_count front rest r) u)
    (λ r. λ u. read_on wrap (blocks_from p vias n spots r u))
    (λ r u k. blocks-shifted p vias n front rest spots r u (search rules))
    (next_from p vias n s old t) (next-any all (λ arrays q b k. search (rules, length-set, put-inside, k.inside)) p vias n s old t h)
    ∙ sym (on-on (blocks_from p vias n spots) wrap (next_from p vias n s old t))

-- ---- rows

-- each component has the blocks of this many rows of MCUs
unfoldable pub AreRows : ℕ → List Component → Arrays → Type 0
AreRows rows [] [] = Unit {0}
AreRows rows [] (a ∷ arrays) = ⊥
AreRows rows (c ∷ more) [] = ⊥
AreRows rows (c ∷ more) (a ∷ arrays) =
    (length a ≡ rows * (c.factors.vertical * c.blocks_wide)) × AreRows rows more arrays

rows-set : (rows : ℕ) (cs : List Component) (arrays : Arrays) (slot : ℕ) (y : List Block)
    → length y ≡ length (get_or arrays slot []) → AreRows rows cs arrays → AreRows rows cs (set arrays slot y)
unfolding AreRows
rows-set rows (c ∷ cs) (a ∷ arrays) (suc slot) y e h = (h.0, rows-set rows cs arrays slot y e h.1)
rows-set rows cs arrays slot y e h = search rules

pub rows-kept : (rows : ℕ) (cs : List Component) → IsKept (AreRows rows cs)
rows-kept rows cs arrays s b h = search (rules, rows-set, length-set)

pub rows-count : (rows : ℕ) (cs : List Component) (arrays : Arrays) → AreRows rows cs arrays → length arrays ≡ length cs
unfolding AreRows
rows-count rows (c ∷ cs) (a ∷ arrays) h = ap suc (rows-count rows cs arrays h.1)
rows-count rows cs arrays h = search rules

rows-at : (rows : ℕ) (cs : List Component) (arrays : Arrays) (j : ℕ) (c : Component) → AreRows rows cs arrays
    → At j cs c
    → (length (get_or arrays j []) ≡ rows * (c.factors.vertical * c.blocks_wide)) × (j < length arrays)
unfolding AreRows
rows-at rows (d ∷ cs) (a ∷ arrays) (suc j) c h k = search (rules, rows-at rows cs arrays j c h.1 k)
rows-at rows cs arrays j c h k = search rules

pub zero-rows : (rows : ℕ) (cs : List Component) → AreRows rows cs (zero_rows rows cs)
unfolding AreRows zero_rows
zero-rows rows [] = tt
zero-rows rows (c ∷ cs) = (length-replicate (rows * (c.factors.vertical * c.blocks_wide)) zero_block, zero-rows rows cs)

pub joined-rows : (r : ℕ) (cs : List Component) (front arrays : Arrays) → AreRows r cs front → AreRows 1 cs arrays
    → AreRows (r + 1) cs (each_with_more front arrays)
unfolding AreRows each_with_more
joined-rows r (c ∷ cs) (a ∷ front) (b ∷ arrays) h k =
    search (rules, length-append, add-mul, joined-rows r cs front arrays h.1 k.1)
joined-rows r cs front arrays h k = search rules

-- a row of zeros, and the others
pub first-row : (rows r : ℕ) (cs : List Component) (front : Arrays) → AreRows r cs front
    → each_with_more front (zero_rows (suc rows) cs) ≡ around front (zero_rows 1 cs) (zero_rows
    rows cs)
unfolding AreRows each_with_more zero_rows
first-row rows r (c ∷ cs) (a ∷ front) h = search (rules, replicate-append-replicate, add-mul, first-row rows r cs front h.1)
first-row rows r cs front h = search rules

-- rows after rows
pub around-joined : (front arrays rest : Arrays) → around front arrays rest ≡ each_with_more
    (each_with_more front arrays) rest
unfolding each_with_more
around-joined (x ∷ front) (y ∷ arrays) (z ∷ rest) = rw (← (append_assoc x y z), around-joined front arrays rest) refl
around-joined front arrays rest = refl

pub no-rows : (r : ℕ) (cs : List Component) (front : Arrays) → AreRows r cs front → each_with_more
    front (zero_rows 0 cs) ≡ front
unfolding AreRows each_with_more zero_rows
no-rows r (c ∷ cs) (a ∷ front) h = search (rules, append-nil, no-rows r cs front h.1)
no-rows r cs front h = search rules

-- ---- the spots of a row

abbrev pub shifted_by : (ℕ → ℕ) → Spot → Spot
shifted_by by s = record { slot = s.slot; index = by s.slot + s.index }

map-line : (f : Spot → Spot) (g h : ℕ → Spot) → ((k : ℕ) → f (g k) ≡ h k) → (ks : List ℕ) → map f (map g ks) ≡ map h ks
map-line f g h e [] = refl
map-line f g h e (k ∷ ks) = ap₂ (λ (s : Spot) (l : List Spot). s ∷ l) (e k) (map-line f g h e ks)

map-grid : (f : Spot → Spot) (g h : ℕ → ℕ → Spot) → ((v k : ℕ) → f (g v k) ≡ h v k) → (ks vs : List ℕ)
    → map f (flat_map (λ v. map (g v) ks) vs) ≡ flat_map (λ v. map (h v) ks) vs
map-grid f g h e ks [] = refl
map-grid f g h e ks (v ∷ vs) = search (rules, map-append, map-line, map-grid f g h e ks vs)

part-shift : (row column slot : ℕ) (c : Component) (by : ℕ → ℕ) → by slot ≡ row * (c.factors.vertical * c.blocks_wide)
    → map (shifted_by by) (part_spots 0 column slot c) ≡ part_spots row column slot c
unfolding part_spots
part-shift row column slot c by e =
    let vt = c.factors.vertical in
    let w = c.blocks_wide in
    let hz = c.factors.horizontal in
    map-grid (shifted_by by) (λ v h. record { slot = slot; index = (0 * vt + v) * w + (column * hz + h) })
    (λ v h. record { slot = slot; index = (row * vt + v) * w + (column * hz + h) })
    (grind (arith, mul_assoc row vt w))
    (range_with_len 0 hz) (range_with_len 0 vt)

mcu-shift : (row column base : ℕ) (cs : List Component) (by : ℕ → ℕ) → ((j : ℕ) (c : Component) → At j cs c
    → by (base + j) ≡ row * (c.factors.vertical * c.blocks_wide))
    → map (shifted_by by) (mcu_spots 0 column base cs) ≡ mcu_spots row column base cs
unfolding mcu_spots
mcu-shift row column base [] by e = refl
mcu-shift row column base (c ∷ cs) by e = (search (rules, map-append))
    ∙ ap₂ (λ l m. l ++ m)
    (part-shift row column base c by (ap by (let z : base ≡ base + 0 = omega arith in z) ∙ e 0 c refl))
    (mcu-shift row column (base + 1) cs by (λ j d h. ap by (let z : base + 1 + j ≡ base + suc j = omega arith in z)
    ∙ e (suc j) d h))

-- the blocks of a row of the component in a slot
abbrev pub size_at : List Component → ℕ → ℕ
size_at cs slot = get_or (map row_size cs) slot 0

size-at : (cs : List Component) (j : ℕ) (c : Component) → At j cs c → size_at cs j ≡ row_size c
size-at (d ∷ cs) (suc j) c h = size-at cs j c h
size-at cs j c h = search rules

pub front-size : (row : ℕ) (cs : List Component) (front : Arrays) (slot : ℕ) → AreRows row cs front
    → length (get_or front slot []) ≡ row * size_at cs slot
unfolding AreRows
front-size row (c ∷ cs) (a ∷ front) (suc slot) h = front-size row cs front slot h.1
front-size row cs front slot h = search rules

-- a row's blocks by their indices among all
abbrev pub placed_row : List Component → ℕ → List Spot → List Spot
placed_row cs row spots = map (shifted_by (λ slot. row * size_at cs slot)) spots

unfoldable pub placed_rows : List Component → ℕ → List (List Spot) → List Spot
placed_rows cs row [] = []
placed_rows cs row (spots ∷ rows) = placed_row cs row spots ++ placed_rows cs (row + 1) rows

-- the spots of a row are inside its blocks
pub record IsRow (cs : List Component) (spots : List Spot) : Type 0 where
  pub inside : (arrays : Arrays) (s : Spot) → AreRows 1 cs arrays → IsIn s spots → IsInside arrays s

pub rows-in-turn : (p : Pass) (vias : List Via) (n : ℕ) (cs : List Component)
    (rows : List (List Spot)) (row : ℕ) (front : Arrays) (old : Counted) (t : Text)
    → AllByRecursion (IsRow cs) rows → AreRows row cs front → blocks_from p vias n
    (placed_rows cs row rows) (on_arrays (each_with_more front (zero_rows (length rows) cs)) old) t
    ≡ mcu_rows_from p vias n cs rows front old t
unfolding blocks_from mcu_rows_from placed_rows
rows-in-turn p vias n cs [] row front old t fits h = rw (no-rows row cs front h) refl
rows-in-turn p vias n cs (spots ∷ rows) row front old t fits h =
    let one = zero_rows 1 cs in
    let rest = zero_rows (length rows) cs in
    let sized : AreRows 1 cs one = zero-rows 1 cs in
    let others = placed_rows cs (row + 1) rows in
    let start : Counted = on_arrays one old in
    let wrap : Counted → Reads Counted = λ r. gives (wrapped_count front rest r) in
    let next = blocks_from p vias n others in
    let o = blocks_from p vias n spots start t in
    let holds : Holds front rest spots one = record {
      aligned = search (rules, rows-count, zero-rows (length rows) cs);
      inside = λ s k. fits.0.inside one s sized k;
    } in
    (search (rules, first-row))
    ∙ blocks-append p vias n (placed_row cs row spots) others (wrapped_count front rest start) t
    ∙ ap (λ (m : List Spot). read_on next (blocks_from p vias n m (wrapped_count front rest start) t))
    (search (rules, map-same, front-size))
    ∙ ap (read_on next) (blocks-shifted p vias n front rest spots start t holds)
    ∙ on-on wrap next o
    ∙ counted-where (AreRows 1 cs) (λ r. λ u. next (wrapped_count front rest r) u) (λ r. λ u.
    mcu_rows_from p vias n cs rows
    (each_with_more front r.reached.arrays) r u)
    (λ r u k.
    ap (λ (l : Arrays). next (on_arrays l r) u) (around-joined front r.reached.arrays rest)
    ∙ rows-in-turn p vias n cs rows (row + 1) (each_with_more front r.reached.arrays) r u fits.1
    (joined-rows row cs front r.reached.arrays h k))
    o (blocks-any (AreRows 1 cs) (rows-kept 1 cs) p vias n spots start t sized)

pub no-blocks : (cs : List Component) → AreRows 0 cs (map (λ c. []) cs)
unfolding AreRows
no-blocks [] = tt
no-blocks (c ∷ cs) = ((let e : 0 ≡ 0 * row_size c = omega arith in e), no-blocks cs)

pub all-zeros : (frame : Frame) (cs : List Component) → AllByRecursion (Fits frame) cs
    → zero_arrays cs ≡ each_with_more (map (λ c. []) cs) (zero_rows frame.mcus_high cs)
unfolding zero_arrays zero_rows each_with_more
all-zeros frame [] fits = refl
all-zeros frame (c ∷ cs) fits = search (rules, mul_assoc, all-zeros frame cs fits.1)

-- ---- rows of several components

several-shift : (row : ℕ) (cs : List Component) (columns : List ℕ)
    → placed_row cs row (flat_map (λ column. mcu_spots 0 column 0 cs) columns)
    ≡ flat_map (λ column. mcu_spots row column 0 cs) columns
several-shift row cs [] = refl
several-shift row cs (k ∷ columns) = search (rules, map-append, mcu-shift, size-at, several-shift row cs columns)

several-rows : (wide : ℕ) (cs : List Component) (row rows : ℕ)
    → placed_rows cs row (map (λ r. all_spots wide 1 cs) (range_with_len row rows))
    ≡ flat_map (λ r. flat_map (λ column. mcu_spots r column 0 cs) (range_with_len 0 wide)) (range_with_len row rows)
unfolding placed_rows all_spots
several-rows wide cs row zero = refl
several-rows wide cs row (suc rows) = ap₂ (λ (l m : List Spot). l ++ m)
    (ap (placed_row cs row) (append-nil (flat_map (λ column. mcu_spots 0 column 0 cs) (range_with_len 0 wide)))
    ∙ several-shift row cs (range_with_len 0 wide))
    (several-rows wide cs (row + 1) rows)

-- the spots of a row are inside its blocks
several-inside : (frame : Frame) (cs : List Component) (arrays : Arrays) (s : Spot) → AllByRecursion (Fits frame) cs
    → AreRows 1 cs arrays → IsIn s (all_spots frame.mcus_wide 1 cs) → IsInside arrays s
unfolding all_spots
several-inside frame cs arrays s fits sized h =
    let r = in-flat-back (λ row. flat_map (λ column. mcu_spots row column 0 cs) (range_with_len 0 frame.mcus_wide)) s
    0 1 h in
    let g = in-flat-back (λ column. mcu_spots r.at column 0 cs) s 0 frame.mcus_wide r.gives in
    let of = mcu-tells frame r.at g.at (search rules) cs 0 s fits g.gives in
    let c = of.component in
    let here = placed frame cs r.at g.at s of in
    let z = rows-at 1 cs arrays s.slot c sized here in
    let f = at-all (Fits frame) s.slot cs c fits here in
    let up : s.index / c.blocks_wide < 1 * c.factors.vertical =
    (div-lt_iff_lt-mul f.vertical).0 (let e = of.tells.row_of in let rh = r.between.high in omega arith) in
    search (rules, div-lt_iff_lt-mul, mul_assoc, some-product)

pub all-rows : (cs : List Component) (f : ℕ → List Spot) (a n : ℕ) → ((row : ℕ) → IsRow cs (f row))
    → AllByRecursion (IsRow cs) (map f (range_with_len a n))
all-rows cs f a zero h = tt
all-rows cs f a (suc n) h = (h a, all-rows cs f (a + 1) n h)

-- ---- rows of one

own-line : (c : Component) (row v : ℕ) (columns : List ℕ)
    → placed_row (c ∷ []) row (map (λ column. record { slot = 0; index = v * c.blocks_wide + column }) columns)
    ≡ map (λ column. record { slot = 0; index = (row * c.factors.vertical + v) * c.blocks_wide + column }) columns
own-line c row v [] = refl
own-line c row v (k ∷ columns) = search (rules, add-mul, mul_assoc, own-line c row v columns)

-- the own blocks of a line
abbrev pub line_at : Component → ℕ → List Spot
line_at c line = map (λ column. record { slot = 0; index = line * c.blocks_wide + column })
    (range_with_len 0 (grid_of c).own_wide)

own-lines : (c : Component) (row a n : ℕ)
    → placed_row (c ∷ []) row (flat_map (line_at c) (range_with_len a n)) ≡ flat_map (line_at c)
    (range_with_len (row * c.factors.vertical + a) n)
own-lines c row a zero = refl
own-lines c row a (suc n) = search (rules, map-append, own-line, own-lines c row (a + 1) n)

range-split : (a m n k : ℕ) → k ≡ m + n → range_with_len a k ≡ range_with_len a m ++ range_with_len (a + m) n
range-split a (suc m) n (suc k) e = search (rules, range-split (a + 1) m n k (omega arith))
range-split a m n k e = search rules

own-rows : (c : Component) (row rows : ℕ) → (grid_of c).own_high ≤ (row + rows) * c.factors.vertical
    → placed_rows (c ∷ []) row (map (own_row c) (range_with_len row rows))
    ≡ flat_map (line_at c) (range_with_len (row * c.factors.vertical) ((grid_of c).own_high - row * c.factors.vertical))
unfolding placed_rows own_spots
own-rows c row zero h = search rules
own-rows c row (suc rows) h =
    let vt = c.factors.vertical in
    let high = (grid_of c).own_high in
    let k = min vt (high - row * vt) in
    let up : (row + 1) * vt ≡ row * vt + 1 * vt = add-mul row 1 vt in
    let more : (row + 1 + rows) * vt ≡ (row + suc rows) * vt = search rules in
    let rest = high - (row + 1) * vt in
    let split : high - row * vt ≡ k + rest = omega arith in
    grind (
      arith,
      own-lines c row 0 k,
      own-rows c (row + 1) rows (omega arith),
      flat_map-append (line_at c) (range_with_len (row * vt) k) (range_with_len (row * vt + k) rest),
      range-split (row * vt) k rest (high - row * vt) split,
    )

-- an own spot of a row of MCUs stands in the row's blocks
own-inside : (frame : Frame) (c : Component) (row : ℕ) (arrays : Arrays) (s : Spot) → Fits frame c
    → AreRows 1 (c ∷ []) arrays → IsIn s (own_row c row) → IsInside arrays s
own-inside frame c row arrays s fits sized h =
    let vt = c.factors.vertical in
    let g = record (grid_of c) { own_high = min vt ((grid_of c).own_high - row * vt) } in
    let z = rows-at 1 (c ∷ []) arrays 0 c sized refl in
    own-within g (1 * vt) arrays s fits.own_wide (omega arith) z.1 (z.0 ∙ sym (mul_assoc 1 vt c.blocks_wide)) h

-- the spots of each row are inside its blocks
pub row-inside : (frame : Frame) (cs : List Component) (row : ℕ) → AllByRecursion (Fits frame) cs
    → IsRow cs (mcu_row frame cs row)
unfolding mcu_row
row-inside frame [] row fits = record { inside = λ arrays s sized h. absurd h }
row-inside frame (c ∷ []) row fits = search (rules, own-inside)
row-inside frame (c ∷ d ∷ more) row fits = search (rules, several-inside)

pub placed-all : (frame : Frame) (c : Component) (more : List Component) → AllByRecursion (Fits frame) (c ∷ more)
    → spots_of frame (c ∷ more) ≡ placed_rows (c ∷ more) 0 (rows_of frame (c ∷ more))
unfolding mcu_row spots_of own_spots all_spots
placed-all frame c [] fits =
    let a = fits.0.own_high in
    let b = fits.0.high in
    let vt = c.factors.vertical in
    let z : (0 + frame.mcus_high) * vt ≡ frame.mcus_high * vt = search rules in
    let o : 0 * vt ≡ 0 = omega arith in
    grind (arith, own-rows c 0 frame.mcus_high (omega arith))
placed-all frame c (d ∷ more) fits = sym (several-rows frame.mcus_wide (c ∷ d ∷ more) 0 frame.mcus_high)

-- A scan that begins with zeros is its rows of MCUs, each read into blocks of its own.
pub scans-by-rows : (frame : Frame) (c : Component) (more : List Component) (p : Pass) (vias : List Via) (n : ℕ)
    (bytes : List ℕ) → AllByRecursion (Fits frame) (c ∷ more)
    → scan_from p vias (n * mcu_size (c ∷ more)) (spots_of frame (c ∷ more)) (zero_arrays (c ∷ more)) bytes
    ≡ scan_by_rows p vias n frame (c ∷ more) bytes
unfolding scan_from scan_by_rows
scans-by-rows frame c more p vias n bytes fits =
    let cs = c ∷ more in
    let t = upcoming fresh bytes in
    let blocks = n * mcu_size cs in
    ap₂ (λ (m : List Spot) (l : Arrays). finished (blocks_from p vias blocks m (counted_at_start blocks l) t))
    (placed-all frame c more fits)
    (search (rules, all-zeros, length-map-range_with_len))
    ∙ ap finished (rows-in-turn p vias blocks cs (rows_of frame cs) 0 (map (λ c. []) cs) (counted_at_start blocks [])
    t (all-rows cs (mcu_row frame cs) 0 frame.mcus_high (λ row. row-inside frame cs row fits))
    (no-blocks cs))

line-of : (wide n : ℕ) (xs row : List Block) → length xs ≡ n * wide → length row ≡ wide
    → map (in_raster wide (xs ++ row) n) (range_with_len 0 wide) ≡ map ordered row
line-of wide n xs row e f =
    let at : (i : ℕ) → i < length row → get_or (map ordered row) i [] ≡ ordered (get_or row i zero_block)
    = λ i h. get_or-map ordered row i zero_block [] h in
    ext_get_or [] (map (in_raster wide (xs ++ row) n) (range_with_len 0 wide)) (map ordered row)
    (length-map-range_with_len (in_raster wide (xs ++ row) n) 0 wide ∙ sym (length-map row ordered ∙ f))
    (search (rules, length-map-range_with_len, get_or-map-range_with_len, get_or-append_right, at))

-- One more row of blocks.
pub plane-strips : (s : ℕ) (table : List ℕ) (wide n : ℕ) (xs row : List Block) → length xs ≡ n * wide
    → length row ≡ wide → plane_of s table wide (n + 1) (in_raster wide (xs ++ row))
    ≡ plane_of s table wide n (in_raster wide xs) ++ strip_of s table (map ordered row)
plane-strips s table wide n xs row e f = plane-more s table wide n (in_raster wide (xs ++ row))
    ∙ ap₂ (λ (a : List ℕ) (l : List (List ℤ)). a ++ strip_of s table l)
    (plane-same s table wide n (in_raster wide (xs ++ row)) (in_raster wide xs) (search (rules, div-mul-add, div-lt_iff_lt-mul, get_or_append_left)))
    (line-of wide n xs row e f)

-- ---- codings

-- a coding is of a component of the frame
pub record IsOf (frame : Frame) (c : Coding) : Type 0 where
  pub here : At c.index frame.components c.component

abbrev pub AllOf : Frame → Result (List Coding) Fault → Type 0
AllOf frame (Ok codings) = AllByRecursion (IsOf frame) codings
AllOf frame (Err e) = Unit {0}

pub codings-are-of : (found : Found) (frame : Frame) (scan : Scan) → AllOf frame (codings_of found.said frame scan)
codings-are-of found frame scan = go (codings_of found.said frame scan) refl
  where
    go : (r : Result (List Coding) Fault) → codings_of found.said frame scan ≡ r → AllOf frame r
    go (Ok codings) e = codings-each (IsOf frame) found.said frame scan codings e
        (λ index d a k is. record { here = get-at k.index frame.components k.component is.component })
    go (Err f) e = tt

-- ---- blocks

abbrev pub arrays_of : List Coding → Arrays → Arrays
arrays_of codings kept = map (λ (c : Coding). get_or kept c.index []) codings

pub fits-of : (frame : Frame) (codings : List Coding) → AllByRecursion (Fits frame) frame.components
    → AllByRecursion (IsOf frame) codings → AllByRecursion (Fits frame) (components_of codings)
fits-of frame [] fits of = tt
fits-of frame (c ∷ codings) fits of = search (rules, at-all, fits-of frame codings fits of.1)

-- the arrays of a scan's components are of all their blocks
pub arrays-sized : (frame : Frame) (codings : List Coding) (kept : Arrays)
    → AreArrays frame.components kept → AllByRecursion (IsOf frame) codings
    → AreArrays (components_of codings) (arrays_of codings kept)
unfolding AreArrays
arrays-sized frame [] kept h of = tt
arrays-sized frame (c ∷ codings) kept h of =
    grind (arith, common_steps, sized, arrays-sized frame codings)

-- those of zeros are zeros
pub zeros-of : (frame : Frame) (codings : List Coding) → AllByRecursion (IsOf frame) codings
    → arrays_of codings (zero_arrays frame.components) ≡ zero_arrays (components_of codings)
unfolding zero_arrays
zeros-of frame [] of = refl
zeros-of frame (c ∷ codings) of = search (rules, zeros-at, zeros-of frame codings of.1)

set-sized : (cs : List Component) (arrays : Arrays) (j : ℕ) (y : List Block) → length y ≡ length (get_or arrays j [])
    → AreArrays cs arrays → AreArrays cs (set arrays j y)
unfolding AreArrays
set-sized (c ∷ cs) (a ∷ arrays) (suc j) y e h = (h.0, set-sized cs arrays j y e h.1)
set-sized cs arrays j y e h = search rules

-- and so do the arrays of a scan's components
pub kept-sized : (frame : Frame) (codings : List Coding) (arrays kept : Arrays)
    → AreArrays frame.components kept → AllByRecursion (IsOf frame) codings → AreArrays
    (components_of codings) arrays → AreArrays frame.components (put_arrays codings arrays kept)
unfolding put_arrays AreArrays
kept-sized frame (c ∷ codings) (a ∷ arrays) kept h of k =
    grind (arith, common_steps, set-sized, sized, kept-sized frame codings arrays)
kept-sized frame codings arrays kept h of k = h

-- ---- scans

-- A scan of a sequential frame is its rows of MCUs.
pub sequential-scan : (found : Found) (frame : Frame) (scan : Scan) (c : Coding) (codings : List Coding)
    (bytes : List ℕ)
    → is_progressive frame.process ≡ false → AllByRecursion (Fits frame) frame.components
    → AllByRecursion (IsOf frame) (c ∷ codings) → scan_arrays found frame scan (c ∷ codings) bytes
    ≡ scan_by_rows (pass_of scan) (vias_from 0 (c ∷ codings)) found.said.restart frame (components_of (c ∷ codings)) bytes
unfolding scan_arrays arrays_before
sequential-scan found frame scan c codings bytes process fits of =
    let all = c ∷ codings in
    let cs = components_of all in
    let fit = fits-of frame all fits of in
    let start : (if is_progressive frame.process && found.said.scanned then found.kept else zero_arrays
    frame.components)
    ≡ zero_arrays frame.components
    = search rules in
    (grind (arith, zeros-of frame all of))
    ∙ frame-scans frame cs (pass_of scan) (vias_from 0 all) (found.said.restart * mcu_size cs) (zero_arrays cs) bytes fit
    (zeros-sized cs)
    ∙ scans-by-rows frame c.component (components_of codings) (pass_of scan) (vias_from 0 all) found.said.restart bytes fit

-- A scan of a progressive frame is its blocks one after the other, each read on what is kept of it.
pub progressive-scan : (found : Found) (frame : Frame) (scan : Scan) (c : Coding) (codings : List Coding)
    (bytes : List ℕ)
    → AreArrays frame.components (arrays_before found frame) → AllByRecursion (Fits frame) frame.components
    → AllByRecursion (IsOf frame) (c ∷ codings) → scan_arrays found frame scan (c ∷ codings) bytes
    ≡ scan_from (pass_of scan) (vias_from 0 (c ∷ codings)) (found.said.restart * mcu_size (components_of (c ∷ codings)))
    (spots_of frame (components_of (c ∷ codings)))
    (arrays_of (c ∷ codings) (arrays_before found frame)) bytes
unfolding scan_arrays
progressive-scan found frame scan c codings bytes kept fits of = rw (
    frame-scans frame (components_of (c ∷ codings)) (pass_of scan) (vias_from 0 (c ∷ codings)) (found.said.restart *
    mcu_size (components_of (c ∷ codings))) (arrays_of (c ∷ codings) (arrays_before found frame)) bytes (fits-of frame
    (c ∷ codings) fits of) (arrays-sized frame (c ∷ codings) (arrays_before found frame) kept of))
    refl
