-- Up to its first fault, too, a scan from zeros is its rows of MCUs, each read into blocks of its own.
use Rattle.std.proofs.Common.{rules, ◌≡◌, ℕ, suc, ◌+◌, ◌*◌, List, [], ◌∷◌, ◌++◌, map, length, inr}
use Rattle.std.proofs.Common.{Option, None, Some, Result, Ok, Err, refl, sym, ap, ap₂, ◌∙◌, subst, arith, length-set}
use Rattle.std.proofs.lemmas.List.FromFn.{length-map-range_with_len}
use Rattle.std.specs.Prelude.{option_map}
use Rattle.std.specs.List.{AllByRecursion}
use Rattle.jpeg_bits.specs.Reading.{Fault}
use Rattle.jpeg_bits.specs.Entropy.{Text}
use Rattle.jpeg_bits.specs.Readers.{read_on, gives}
use Rattle.jpeg_bits.specs.Passes.{Pass, Via}
use Rattle.jpeg_bits.specs.declared.beyond.Beyond.{Beyond}
use Rattle.jpeg_segments.specs.Frame.{Frame, Component}
use Rattle.jpeg_meaning.specs.Brought.{Through}
use Rattle.jpeg_meaning.specs.InTurn.{AreApart, Counted, Fits, counted_before, next_from}
use Rattle.jpeg_meaning.specs.McuRows.{each_with_more, mcu_row, on_arrays, rows_of, zero_rows}
use Rattle.jpeg_meaning.specs.Order.{Spot, mcu_size, spots_of}
use Rattle.jpeg_meaning.specs.Scans.{Arrays, zero_arrays}
use Rattle.jpeg_meaning.proofs.Order.Apart.{map-same, spots-apart}
use Rattle.jpeg_meaning.proofs.Order.CountedScans.{apart-back, apart-front, put-inside}
use Rattle.jpeg_meaning.proofs.Order.McuRows.{AreRows, Holds, IsKept, IsRow, KeepsCounted, all-rows, all-zeros}
use Rattle.jpeg_meaning.proofs.Order.McuRows.{around-joined, first-row, front-size, joined-rows, next-any, next-shifted}
use Rattle.jpeg_meaning.proofs.Order.McuRows.{no-blocks, no-rows, placed-all, placed_row, placed_rows, row-inside}
use Rattle.jpeg_meaning.proofs.Order.McuRows.{rows-count, rows-kept, shifted, shifted_by, size_at, wrapped_count}
use Rattle.jpeg_meaning.proofs.Order.McuRows.{zero-rows}
use Rattle.jpeg_meaning.proofs.Order.OwnSpots.{all-line, in-map}
use Rattle.jpeg_decoder.proofs.Partial.CountedReads.{counted-append, go_on}
use Rattle.jpeg_decoder.specs.Through.{counted_reached}

-- ---- blocks in a row

-- what is reached after the next block
abbrev after_next : Pass → List Via → ℕ → Spot → List Spot → Counted → Result (Counted × Text) Fault
    → Through Counted Text
after_next p vias n s spots old o = elim o [
  | Ok r ↦ counted_reached p vias n spots r.0 r.1
  | Err fault ↦ record { reached = old; unread = Some s; rest = Err fault }
]

-- What blocks that are put in keep of the arrays, reading keeps up to its first fault.
pub counted-any : (P : Arrays → Type 0) → IsKept P → (p : Pass) (vias : List Via) (n : ℕ) (spots : List Spot)
    (old : Counted) (t : Text) → P old.reached.arrays → P (counted_reached p vias n spots old t).reached.reached.arrays
unfolding counted_reached
counted-any P kept p vias n [] old t h = h
counted-any P kept p vias n (s ∷ spots) old t h =
    next (λ r u k. counted-any P kept p vias n spots r u k) (next_from p vias n s old t)
    (next-any P kept p vias n s old t h)
  where
    next : ((r : Counted) (u : Text) → P r.reached.arrays
        → P (counted_reached p vias n spots r u).reached.reached.arrays)
        → (o : Result (Counted × Text) Fault) → KeepsCounted P o
        → P (after_next p vias n s spots old o).reached.reached.arrays
    next others (Ok r) k = others r.0 r.1 k
    next others (Err f) k = h

-- The blocks of a row of MCUs stay as many.
pub rows-sized : (p : Pass) (vias : List Via) (n : ℕ) (cs : List Component) (spots : List Spot) (old : Counted)
    (t : Text)
    → AreRows 1 cs (counted_reached p vias n spots (on_arrays (zero_rows 1 cs) old) t).reached.reached.arrays
rows-sized p vias n cs spots old t =
    counted-any (AreRows 1 cs) (rows-kept 1 cs) p vias n spots (on_arrays (zero_rows 1 cs) old) t (zero-rows 1 cs)

-- ---- blocks inside others

-- what is reached, where the blocks stand inside others
abbrev pub wrapped_through : Arrays → Arrays → Through Counted Text → Through Counted Text
wrapped_through front rest r = record {
  reached = wrapped_count front rest r.reached;
  unread = option_map (shifted front) r.unread;
  rest = r.rest;
}

-- Blocks that are read where they stand inside others are reached as alone.
pub counted-shifted : (p : Pass) (vias : List Via) (n : ℕ) (front rest : Arrays) (spots : List Spot) (old : Counted)
    (t : Text) → Holds front rest spots old.reached.arrays
    → counted_reached p vias n (map (shifted front) spots) (wrapped_count front rest old) t
    ≡ wrapped_through front rest (counted_reached p vias n spots old t)
unfolding counted_reached
counted-shifted p vias n front rest [] old t h = refl
counted-shifted p vias n front rest (s ∷ spots) old t h =
    let all = Holds front rest (s ∷ spots) in
    ap (after_next p vias n (shifted front s) (map (shifted front) spots) (wrapped_count front rest old))
    (next-shifted p vias n front rest s spots old t h)
    ∙ next (λ r u k. counted-shifted p vias n front rest spots r u k) (next_from p vias n s old t)
    (next-any all (λ arrays q b k. search (rules, length-set, put-inside, k.inside)) p vias n s old t h)
  where
    next : ((r : Counted) (u : Text) → Holds front rest spots r.reached.arrays
        → counted_reached p vias n (map (shifted front) spots) (wrapped_count front rest r) u
        ≡ wrapped_through front rest (counted_reached p vias n spots r u))
        → (o : Result (Counted × Text) Fault) → KeepsCounted (Holds front rest (s ∷ spots)) o
        → after_next p vias n (shifted front s) (map (shifted front) spots) (wrapped_count front rest old)
        (read_on (λ r. gives (wrapped_count front rest r)) o)
        ≡ wrapped_through front rest (after_next p vias n s spots old o)
    next others (Ok r) k =
        others r.0 r.1 (record { aligned = k.aligned; inside = λ q i. k.inside q (inr i) })
    next others (Err f) k = refl

-- ---- rows

-- Rows of MCUs from a row on, each read into blocks of its own, up to the first block that can't be read: what its row
-- lacks is zeros, and so are the rows below.
unfoldable pub rows_read : Pass → List Via → ℕ → List Component → ℕ → List (List Spot) → Arrays → Counted → Text
    → Through Counted Text
rows_read p vias n cs row [] front old t = record { reached = on_arrays front old; unread = None; rest = Ok t }
rows_read p vias n cs row (spots ∷ rows) front old t =
    let r = counted_reached p vias n spots (on_arrays (zero_rows 1 cs) old) t in
    let more = each_with_more front r.reached.reached.arrays in
    elim r.rest [
      | Ok u ↦ rows_read p vias n cs (suc row) rows more r.reached u
      | Err fault ↦ record {
        reached = on_arrays (each_with_more more (zero_rows (length rows) cs)) r.reached;
        unread = option_map (shifted_by (λ slot. row * size_at cs slot)) r.unread;
        rest = Err fault;
      }
    ]

-- what is reached of the other rows after a row
abbrev after_row : Pass → List Via → ℕ → List Component → ℕ → List (List Spot) → Arrays → Counted → Option Spot
    → Result Text Fault → Through Counted Text
after_row p vias n cs row rows front now unread o = elim o [
  | Ok u ↦ rows_read p vias n cs (suc row) rows (each_with_more front now.reached.arrays) now u
  | Err fault ↦ record {
    reached = on_arrays (each_with_more (each_with_more front now.reached.arrays) (zero_rows (length rows) cs)) now;
    unread = option_map (shifted_by (λ slot. row * size_at cs slot)) unread;
    rest = Err fault;
  }
]

-- a spot of a row by its index among all
spot-placed : (row : ℕ) (cs : List Component) (front : Arrays) (s : Spot) → AreRows row cs front
    → shifted_by (λ slot. row * size_at cs slot) s ≡ shifted front s
spot-placed row cs front s h =
    ap (λ (i : ℕ). record { slot = s.slot; index = i + s.index }) (sym (front-size row cs front s.slot h))

unread-placed : (row : ℕ) (cs : List Component) (front : Arrays) (unread : Option Spot) → AreRows row cs front
    → option_map (shifted front) unread ≡ option_map (shifted_by (λ slot. row * size_at cs slot)) unread
unread-placed row cs front None h = refl
unread-placed row cs front (Some s) h = ap Some (sym (spot-placed row cs front s h))

-- Rows of MCUs that are read where they stand among all blocks are each read into blocks of their own.
pub rows-placed : (p : Pass) (vias : List Via) (n : ℕ) (cs : List Component) (rows : List (List Spot)) (row : ℕ)
    (front : Arrays) (old : Counted) (t : Text) → AllByRecursion (IsRow cs) rows → AreRows row cs front
    → counted_reached p vias n (placed_rows cs row rows)
    (on_arrays (each_with_more front (zero_rows (length rows) cs)) old) t
    ≡ rows_read p vias n cs row rows front old t
unfolding counted_reached rows_read placed_rows
rows-placed p vias n cs [] row front old t fits h =
    ap (λ (l : Arrays). record { reached = on_arrays l old; unread = None; rest = Ok t }) (no-rows row cs front h)
rows-placed p vias n cs (spots ∷ rows) row front old t fits h =
    let one = zero_rows 1 cs in
    let rest = zero_rows (length rows) cs in
    let others = placed_rows cs (row + 1) rows in
    let start : Counted = on_arrays one old in
    let r = counted_reached p vias n spots start t in
    let holds : Holds front rest spots one = record {
      aligned = search (rules, rows-count, zero-rows 1 cs, zero-rows (length rows) cs);
      inside = λ s k. fits.0.inside one s (zero-rows 1 cs) k;
    } in
    ap (λ (l : Arrays). counted_reached p vias n (placed_row cs row spots ++ others) (on_arrays l old) t)
    (first-row (length rows) row cs front h)
    ∙ counted-append p vias n (placed_row cs row spots) others (wrapped_count front rest start) t
    ∙ ap (λ (m : List Spot). go_on p vias n others (counted_reached p vias n m (wrapped_count front rest start) t))
    (map-same (shifted_by (λ slot. row * size_at cs slot)) (shifted front) spots
    (λ s. spot-placed row cs front s h))
    ∙ ap (go_on p vias n others) (counted-shifted p vias n front rest spots start t holds)
    ∙ next (λ now u k. rows-placed p vias n cs rows (row + 1) (each_with_more front now.reached.arrays) now u fits.1
    (joined-rows row cs front now.reached.arrays h k)) r.reached r.unread (rows-sized p vias n cs spots old t) r.rest
  where
    next : ((now : Counted) (u : Text) → AreRows 1 cs now.reached.arrays
        → counted_reached p vias n (placed_rows cs (row + 1) rows)
        (on_arrays (each_with_more (each_with_more front now.reached.arrays) (zero_rows (length rows) cs)) now) u
        ≡ rows_read p vias n cs (row + 1) rows (each_with_more front now.reached.arrays) now u)
        → (now : Counted) (unread : Option Spot) → AreRows 1 cs now.reached.arrays → (o : Result Text Fault)
        → go_on p vias n (placed_rows cs (row + 1) rows) (wrapped_through front (zero_rows (length rows) cs)
        (record { reached = now; unread = unread; rest = o }))
        ≡ after_row p vias n cs row rows front now unread o
    next others now unread k (Ok u) =
        ap (λ (l : Arrays). counted_reached p vias n (placed_rows cs (row + 1) rows) (on_arrays l now) u)
        (around-joined front now.reached.arrays (zero_rows (length rows) cs))
        ∙ others now u k
        ∙ ap (λ (m : ℕ). rows_read p vias n cs m rows (each_with_more front now.reached.arrays) now u)
        (let e : row + 1 ≡ suc row = omega arith in e)
    next others now unread k (Err f) =
        ap₂ (λ (l : Arrays) (s : Option Spot). record { reached = on_arrays l now; unread = s; rest = Err f })
        (around-joined front now.reached.arrays (zero_rows (length rows) cs))
        (unread-placed row cs front unread h)

-- ---- a scan

-- A scan that begins with zeros is its rows of MCUs, each read into blocks of its own.
pub scan-by-rows-read : (frame : Frame) (c : Component) (more : List Component) (p : Pass) (vias : List Via) (n : ℕ)
    (beyond : Beyond) (t : Text) → AllByRecursion (Fits frame) (c ∷ more)
    → counted_reached p vias (n * mcu_size (c ∷ more)) (spots_of frame (c ∷ more))
    (counted_before beyond (n * mcu_size (c ∷ more)) (zero_arrays (c ∷ more))) t
    ≡ rows_read p vias (n * mcu_size (c ∷ more)) (c ∷ more) 0 (rows_of frame (c ∷ more)) (map (λ c. []) (c ∷ more))
    (counted_before beyond (n * mcu_size (c ∷ more)) []) t
scan-by-rows-read frame c more p vias n beyond t fits =
    let cs = c ∷ more in
    let blocks = n * mcu_size cs in
    let none : Arrays = map (λ (x : Component). []) cs in
    ap₂ (λ (m : List Spot) (l : Arrays). counted_reached p vias blocks m (counted_before beyond blocks l) t)
    (placed-all frame c more fits)
    (all-zeros frame cs fits ∙ ap (λ (k : ℕ). each_with_more none (zero_rows k cs))
    (sym (length-map-range_with_len (mcu_row frame cs) 0 frame.mcus_high)))
    ∙ rows-placed p vias blocks cs (rows_of frame cs) 0 none (counted_before beyond blocks []) t
    (all-rows cs (mcu_row frame cs) 0 frame.mcus_high (λ row. row-inside frame cs row fits)) (no-blocks cs)

-- ---- spots that are apart

apart-unmapped : {A B : Type 0} (f : A → B) (xs : List A) → AreApart (map f xs) → AreApart xs
apart-unmapped f [] h = tt
apart-unmapped f (x ∷ xs) h = ((λ i. h.0 (in-map f x xs i)), apart-unmapped f xs h.1)

placed-apart : (cs : List Component) (row : ℕ) (rows : List (List Spot)) → AreApart (placed_rows cs row rows)
    → AllByRecursion AreApart rows
unfolding placed_rows
placed-apart cs row [] h = tt
placed-apart cs row (spots ∷ rows) h = (
  apart-unmapped (shifted_by (λ slot. row * size_at cs slot)) spots
      (apart-front (placed_row cs row spots) (placed_rows cs (row + 1) rows) h),
  placed-apart cs (row + 1) rows (apart-back (placed_row cs row spots) (placed_rows cs (row + 1) rows) h),
)

-- The spots of each row of MCUs are apart.
pub rows-apart : (frame : Frame) (cs : List Component) → AllByRecursion (Fits frame) cs
    → AllByRecursion AreApart (rows_of frame cs)
unfolding mcu_row
rows-apart frame [] fits = all-line AreApart (mcu_row frame []) 0 frame.mcus_high (λ row a b. tt)
rows-apart frame (c ∷ more) fits = placed-apart (c ∷ more) 0 (rows_of frame (c ∷ more))
    (subst AreApart (placed-all frame c more fits) (spots-apart frame (c ∷ more) fits))
