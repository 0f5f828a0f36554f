-- The planes of a sequential scan up to its first fault are the strips of the rows of MCUs that are read, and of zeros
-- where rows lack.
use Rattle.std.proofs.Common.{◌≡◌, ◌∙◌, ◌<◌, ◌≤◌, ◌+◌, ◌-◌, ◌*◌, ℕ, zero, suc, List, [], ◌∷◌, map, length}
use Rattle.std.proofs.Common.{take, Option, None, Result, Ok, Err, refl, sym, ap, ap₂, subst, arith}
use Rattle.std.proofs.lemmas.Grind.{common_steps}
use Rattle.std.proofs.lemmas.List.FromFn.{length-map-range_with_len}
use Rattle.std.specs.List.{AllByRecursion, range_with_len}
use Rattle.std.specs.Prelude.{option_map}
use Rattle.jpeg_bits.specs.Entropy.{Text, fresh_before, marker_from, upcoming}
use Rattle.jpeg_bits.specs.Passes.{Pass, Via}
use Rattle.jpeg_bits.specs.Reading.{Fault, ◌>>=◌}
use Rattle.jpeg_bits.specs.Readers.{read_on}
use Rattle.jpeg_bits.specs.declared.beyond.Beyond.TheVariants.{Nothing}
use Rattle.jpeg_bits.specs.declared.marker.Marker.{Marker}
use Rattle.jpeg_segments.specs.Frame.{Component, Frame}
use Rattle.jpeg_meaning.specs.Brought.{Through}
use Rattle.jpeg_meaning.specs.InTurn.{Counted, Fits, blocks_from, counted_before}
use Rattle.jpeg_meaning.specs.McuRows.{each_with_more, mcu_row, on_arrays, rows_of, zero_rows}
use Rattle.jpeg_meaning.specs.Order.{Spot, mcu_size, spots_of}
use Rattle.jpeg_meaning.specs.Scans.{Arrays, zero_arrays}
use Rattle.jpeg_meaning.specs.ScanSegments.{Coding, components_of}
use Rattle.jpeg_meaning.proofs.Order.McuRows.{AreRows, around-joined, first-row, joined-rows, no-blocks, no-rows}
use Rattle.jpeg_meaning.proofs.Order.McuRows.{shifted_by, size_at, zero-rows}
use Rattle.jpeg_decoder.specs.Strips.{no_samples, planes_by, strips_from, with_strips}
use Rattle.jpeg_decoder.specs.Through.{blocks_reached, counted_reached, in_frame, planes_through, strips_reached}
use Rattle.jpeg_decoder.specs.Through.{zero_strips}
use Rattle.jpeg_decoder.proofs.Orders.OrderedWalks.{one-less}
use Rattle.jpeg_decoder.proofs.Partial.CountedReads.{counted-fault, counted-whole}
use Rattle.jpeg_decoder.proofs.Strips.ByStrips.{all-grown, grown, none-grown, strips-grow}
use Rattle.jpeg_decoder.proofs.Strips.ReachedRows.{rows-sized, rows_read, scan-by-rows-read}
use Rattle.jpeg_decoder.proofs.Strips.StripRows.{strips-first}

-- ---- rows of MCUs after others

grow-next : (r : ℕ) (codings : List Coding) (front arrays : Arrays) → AreRows r (components_of codings) front
    → AreRows 1 (components_of codings) arrays → with_strips codings arrays (grown r codings front)
    ≡ grown (suc r) codings (each_with_more front arrays)
grow-next r codings front arrays h k =
    let e : r + 1 ≡ suc r = omega arith in
    strips-grow r codings front arrays h k ∙ ap (λ (m : ℕ). grown m codings (each_with_more front arrays)) e

joined-next : (r : ℕ) (cs : List Component) (front arrays : Arrays) → AreRows r cs front → AreRows 1 cs arrays
    → AreRows (suc r) cs (each_with_more front arrays)
joined-next r cs front arrays h k =
    let e : r + 1 ≡ suc r = omega arith in
    subst (λ (m : ℕ). AreRows m cs (each_with_more front arrays)) e (joined-rows r cs front arrays h k)

-- a row of zeros after rows, and then the others
zeros-joined : (rows r : ℕ) (cs : List Component) (front : Arrays) → AreRows r cs front
    → each_with_more (each_with_more front (zero_rows 1 cs)) (zero_rows rows cs)
    ≡ each_with_more front (zero_rows (suc rows) cs)
zeros-joined rows r cs front h =
    sym (first-row rows r cs front h ∙ around-joined front (zero_rows 1 cs) (zero_rows rows cs))

-- Strips of zeros are those of rows of zeros.
pub zeros-grow : (k r : ℕ) (codings : List Coding) (front : Arrays) → AreRows r (components_of codings) front
    → zero_strips k codings (grown r codings front)
    ≡ grown (r + k) codings (each_with_more front (zero_rows k (components_of codings)))
unfolding zero_strips
zeros-grow zero r codings front h =
    let e : r ≡ r + 0 = omega arith in
    ap₂ (λ (m : ℕ) (l : Arrays). grown m codings l) e (sym (no-rows r (components_of codings) front h))
zeros-grow (suc k) r codings front h =
    let cs = components_of codings in
    let row = zero_rows 1 cs in
    let e : suc r + k ≡ r + suc k = omega arith in
    ap (zero_strips k codings) (grow-next r codings front row h (zero-rows 1 cs))
    ∙ zeros-grow k (suc r) codings (each_with_more front row) (joined-next r cs front row h (zero-rows 1 cs))
    ∙ ap₂ (λ (m : ℕ) (l : Arrays). grown m codings l) e (zeros-joined k r cs front h)

-- ---- row by row

abbrev Strips : Type 0
Strips = Through (List (List ℕ)) Text

-- after what was read of a row of MCUs: the rows below it, or zeros
abbrev after_row : Pass → List Via → ℕ → List Coding → ℕ → List (List Spot) → List (List ℕ) → Through Counted Text
    → Result Text Fault → Strips
after_row p vias n codings row rows planes r o =
    let more = with_strips codings r.reached.reached.arrays planes in
    elim o [
      | Ok u ↦ strips_reached p vias n codings (suc row) rows more (on_arrays [] r.reached) u
      | Err fault ↦ record {
        reached = zero_strips (length rows) codings more;
        unread = option_map (in_frame codings row) r.unread;
        rest = Err fault;
      }
    ]

-- the same of the blocks
abbrev after_blocks : Pass → List Via → ℕ → List Component → ℕ → List (List Spot) → Arrays → Through Counted Text
    → Result Text Fault → Through Counted Text
after_blocks p vias n cs row rows front r o =
    let more = each_with_more front r.reached.reached.arrays in
    elim o [
      | Ok u ↦ rows_read p vias n cs (suc row) rows more r.reached u
      | Err fault ↦ record {
        reached = on_arrays (each_with_more more (zero_rows (length rows) cs)) r.reached;
        unread = option_map (shifted_by (λ slot. row * size_at cs slot)) r.unread;
        rest = Err fault;
      }
    ]

-- the planes of this many rows of MCUs, by what was read of them
abbrev grown_by : List Coding → ℕ → Through Counted Text → Strips
grown_by codings rows r =
    record { reached = grown rows codings r.reached.reached.arrays; unread = r.unread; rest = r.rest }

-- The planes of rows of MCUs are made of what is read of them.
pub strips-read : (p : Pass) (vias : List Via) (n : ℕ) (codings : List Coding) (rows : List (List Spot)) (row : ℕ)
    (front : Arrays) (old : Counted) (t : Text) → AreRows row (components_of codings) front
    → (let r = rows_read p vias n (components_of codings) row rows front old t in
    strips_reached p vias n codings row rows (grown row codings front) (on_arrays [] old) t
    ≡ record {
      reached = grown (row + length rows) codings r.reached.reached.arrays;
      unread = r.unread;
      rest = r.rest;
    })
unfolding strips_reached rows_read
strips-read p vias n codings [] row front old t h =
    let e : row ≡ row + 0 = omega arith in
    ap (λ (m : ℕ). grown_by codings m (record { reached = on_arrays front old; unread = None; rest = Ok t })) e
strips-read p vias n codings (spots ∷ rows) row front old t h =
    let r = counted_reached p vias n spots (on_arrays (zero_rows 1 cs) old) t in
    go (λ next new u k. strips-read p vias n codings rows (suc row) next new u k) r
    (rows-sized p vias n cs spots old t) r.rest
  where
    cs : List Component
    cs = components_of codings

    go : ((next : Arrays) (new : Counted) (u : Text) → AreRows (suc row) cs next
        → strips_reached p vias n codings (suc row) rows (grown (suc row) codings next) (on_arrays [] new) u
        ≡ grown_by codings (suc row + length rows) (rows_read p vias n cs (suc row) rows next new u))
        → (r : Through Counted Text) → AreRows 1 cs r.reached.reached.arrays → (o : Result Text Fault)
        → after_row p vias n codings row rows (grown row codings front) r o
        ≡ grown_by codings (row + suc (length rows)) (after_blocks p vias n cs row rows front r o)
    go more r k (Ok u) =
        let new = r.reached in
        let next = each_with_more front new.reached.arrays in
        let e : suc row + length rows ≡ row + suc (length rows) = omega arith in
        ap (λ (l : List (List ℕ)). strips_reached p vias n codings (suc row) rows l (on_arrays [] new) u)
        (grow-next row codings front new.reached.arrays h k)
        ∙ more next new u (joined-next row cs front new.reached.arrays h k)
        ∙ ap (λ (m : ℕ). grown_by codings m (rows_read p vias n cs (suc row) rows next new u)) e
    go more r k (Err f) =
        let next = each_with_more front r.reached.reached.arrays in
        let below = each_with_more next (zero_rows (length rows) cs) in
        let e : suc row + length rows ≡ row + suc (length rows) = omega arith in
        ap (λ (l : List (List ℕ)). record {
          reached = l;
          unread = option_map (in_frame codings row) r.unread;
          rest = Err f;
        })
        (ap (zero_strips (length rows) codings) (grow-next row codings front r.reached.reached.arrays h k)
        ∙ zeros-grow (length rows) (suc row) codings next (joined-next row cs front r.reached.reached.arrays h k)
        ∙ ap (λ (m : ℕ). grown m codings below) e)

-- ---- a scan

abbrev Planes : Type 0
Planes = Through (List (List ℕ)) (Option Marker × List ℕ)

abbrev ended : Strips → Planes
ended r = record { reached = r.reached; unread = r.unread; rest = r.rest >>= marker_from }

-- The planes of a sequential scan up to its first fault are made of the blocks that are read by then.
pub planes-reached : (frame : Frame) (codings : List Coding) (p : Pass) (n : ℕ) (vias : List Via) (bytes : List ℕ)
    → 1 ≤ length codings → AllByRecursion (Fits frame) (components_of codings)
    → (let r = blocks_reached p vias (n * mcu_size (components_of codings))
    (spots_of frame (components_of codings)) (zero_arrays (components_of codings)) bytes in
    planes_through p vias n frame codings (no_samples codings) bytes
    ≡ record { reached = planes_by codings r.reached; unread = r.unread; rest = r.rest })
unfolding planes_through blocks_reached
planes-reached frame [] p n vias bytes some fits = absurd (omega arith)
planes-reached frame (c ∷ codings) p n vias bytes some fits =
    let all = c ∷ codings in
    let cs = components_of all in
    let blocks = n * mcu_size cs in
    let rows = rows_of frame cs in
    let none : Arrays = map (λ (x : Component). []) cs in
    let start = counted_before Nothing blocks [] in
    let t = upcoming (fresh_before Nothing) bytes in
    let read = rows_read p vias blocks cs 0 rows none start t in
    let count : 0 + length rows ≡ frame.mcus_high =
    let e = length-map-range_with_len (mcu_row frame cs) 0 frame.mcus_high in omega arith in
    ap (λ (l : List (List ℕ)). ended (strips_reached p vias blocks all 0 rows l start t)) (none-grown all)
    ∙ ap ended (strips-read p vias blocks all rows 0 none start t (no-blocks cs))
    ∙ ap (λ (m : ℕ). ended (grown_by all m read)) count
    ∙ ap (λ (l : List (List ℕ)). ended (record { reached = l; unread = read.unread; rest = read.rest }))
    (all-grown frame all read.reached.reached.arrays fits)
    ∙ ap (λ (r : Through Counted Text). ended (record {
      reached = planes_by all r.reached.reached.arrays;
      unread = r.unread;
      rest = r.rest;
    })) (sym (scan-by-rows-read frame c.component (components_of codings) p vias n Nothing t fits))

-- ---- planes of the first components alone

-- this many of the planes that were reached
abbrev pub first_of : {X : Type 0} → ℕ → Through (List (List ℕ)) X → Through (List (List ℕ)) X
first_of k r = record { reached = take k r.reached; unread = r.unread; rest = r.rest }

zeros-first : (k rows : ℕ) (codings : List Coding) (planes : List (List ℕ))
    → zero_strips rows codings (take k planes) ≡ take k (zero_strips rows codings planes)
unfolding zero_strips
zeros-first k zero codings planes = refl
zeros-first k (suc rows) codings planes =
    let zeros = zero_rows 1 (components_of codings) in
    ap (zero_strips rows codings) (strips-first k codings zeros planes)
    ∙ zeros-first k rows codings (with_strips codings zeros planes)

-- They grow as they do among all, lack the same, and the same follows them.
strips-alike : (k : ℕ) (p : Pass) (vias : List Via) (n : ℕ) (codings : List Coding) (rows : List (List Spot)) (row : ℕ)
    (start : List (List ℕ)) (old : Counted) (t : Text)
    → strips_reached p vias n codings row rows (take k start) old t
    ≡ first_of k (strips_reached p vias n codings row rows start old t)
unfolding strips_reached
strips-alike k p vias n codings [] row start old t = refl
strips-alike k p vias n codings (spots ∷ rows) row start old t =
    let r = counted_reached p vias n spots (on_arrays (zero_rows 1 (components_of codings)) old) t in
    go (λ planes new u. strips-alike k p vias n codings rows (suc row) planes new u) r r.rest
  where
    go : ((planes : List (List ℕ)) (new : Counted) (u : Text)
        → strips_reached p vias n codings (suc row) rows (take k planes) new u
        ≡ first_of k (strips_reached p vias n codings (suc row) rows planes new u))
        → (r : Through Counted Text) (o : Result Text Fault)
        → after_row p vias n codings row rows (take k start) r o
        ≡ first_of k (after_row p vias n codings row rows start r o)
    go more r (Ok u) =
        let arrays = r.reached.reached.arrays in
        ap (λ (l : List (List ℕ)). strips_reached p vias n codings (suc row) rows l (on_arrays [] r.reached) u)
        (strips-first k codings arrays start)
        ∙ more (with_strips codings arrays start) (on_arrays [] r.reached) u
    go more r (Err f) =
        let arrays = r.reached.reached.arrays in
        ap (λ (l : List (List ℕ)). record {
          reached = l;
          unread = option_map (in_frame codings row) r.unread;
          rest = Err f;
        })
        (ap (zero_strips (length rows) codings) (strips-first k codings arrays start)
        ∙ zeros-first k (length rows) codings (with_strips codings arrays start))

-- the same of a scan
pub planes-first : (k : ℕ) (start : List (List ℕ)) (p : Pass) (vias : List Via) (n : ℕ) (frame : Frame)
    (codings : List Coding) (bytes : List ℕ)
    → planes_through p vias n frame codings (take k start) bytes
    ≡ first_of k (planes_through p vias n frame codings start bytes)
unfolding planes_through
planes-first k start p vias n frame codings bytes =
    let cs = components_of codings in
    let blocks = n * mcu_size cs in
    ap ended (strips-alike k p vias blocks codings (rows_of frame cs) 0 start (counted_before Nothing blocks [])
    (upcoming (fresh_before Nothing) bytes))

-- ---- steps of the loop over the rows

-- the rows that are left, by what is read of the first
rows-more : (p : Pass) (vias : List Via) (n : ℕ) (codings : List Coding) (f : ℕ → List Spot) (spots : List Spot)
    (k high : ℕ) (planes : List (List ℕ)) (zeros : Arrays) (old : Counted) (t : Text)
    → k < high → zeros ≡ zero_rows 1 (components_of codings) → spots ≡ f k
    → (let r = counted_reached p vias n spots (on_arrays zeros old) t in
    strips_reached p vias n codings k (map f (range_with_len k (high - k))) planes old t
    ≡ after_row p vias n codings k (map f (range_with_len (k + 1) (high - (k + 1)))) planes r r.rest)
unfolding strips_reached
rows-more p vias n codings f spots k high planes zeros old t h e is = rw (e, is, one-less k high h) refl

-- A row of MCUs is read.
pub reached-step : (p : Pass) (vias : List Via) (n : ℕ) (codings : List Coding) (f : ℕ → List Spot)
    (spots : List Spot) (k high : ℕ) (planes : List (List ℕ)) (zeros : Arrays) (old new : Counted) (t u : Text)
    → k < high → zeros ≡ zero_rows 1 (components_of codings) → spots ≡ f k
    → blocks_from p vias n spots (on_arrays zeros old) t ≡ Ok (new, u)
    → strips_reached p vias n codings k (map f (range_with_len k (high - k))) planes old t
    ≡ strips_reached p vias n codings (k + 1) (map f (range_with_len (k + 1) (high - (k + 1))))
    (with_strips codings new.reached.arrays planes) (on_arrays [] new) u
reached-step p vias n codings f spots k high planes zeros old new t u h e is was =
    let rows = map f (range_with_len (k + 1) (high - (k + 1))) in
    let next : suc k ≡ k + 1 = omega arith in
    rows-more p vias n codings f spots k high planes zeros old t h e is
    ∙ ap (λ (r : Through Counted Text). after_row p vias n codings k rows planes r r.rest)
    (counted-whole p vias n spots (on_arrays zeros old) t new u was)
    ∙ ap (λ (m : ℕ). strips_reached p vias n codings m rows (with_strips codings new.reached.arrays planes)
    (on_arrays [] new) u) next

-- A block of a row is refused: the rest of the row is zeros, and so are the rows below.
pub reached-refused : (p : Pass) (vias : List Via) (n : ℕ) (codings : List Coding) (f : ℕ → List Spot)
    (spots : List Spot) (k high : ℕ) (planes : List (List ℕ)) (zeros : Arrays) (old : Counted) (t : Text)
    (fault : Fault)
    → k < high → zeros ≡ zero_rows 1 (components_of codings) → spots ≡ f k
    → (let r = counted_reached p vias n spots (on_arrays zeros old) t in
    r.rest ≡ Err fault
    → strips_reached p vias n codings k (map f (range_with_len k (high - k))) planes old t
    ≡ record {
      reached = zero_strips (high - 1 - k) codings (with_strips codings r.reached.reached.arrays planes);
      unread = option_map (in_frame codings k) r.unread;
      rest = Err fault;
    })
reached-refused p vias n codings f spots k high planes zeros old t fault h e is refused =
    let r = counted_reached p vias n spots (on_arrays zeros old) t in
    let rows = map f (range_with_len (k + 1) (high - (k + 1))) in
    let left : length rows ≡ high - 1 - k =
    let l = length-map-range_with_len f (k + 1) (high - (k + 1)) in omega arith in
    rows-more p vias n codings f spots k high planes zeros old t h e is
    ∙ ap (after_row p vias n codings k rows planes r) refused
    ∙ ap (λ (m : ℕ). record {
      reached = zero_strips m codings (with_strips codings r.reached.reached.arrays planes);
      unread = option_map (in_frame codings k) r.unread;
      rest = Err fault;
    }) left

-- ---- what is read, and what is refused

-- the rows after one that was read
abbrev then_strips : Pass → List Via → ℕ → List Coding → List (List Spot) → List (List ℕ)
    → Result (Counted × Text) Fault → Result (List (List ℕ) × Text) Fault
then_strips p vias n codings rows planes o = read_on (λ (r : Counted). strips_from p vias n codings rows
    (with_strips codings r.reached.arrays planes) (on_arrays [] r)) o

-- Rows of MCUs that are read are reached.
pub strips-outcome : (p : Pass) (vias : List Via) (n : ℕ) (codings : List Coding) (rows : List (List Spot)) (row : ℕ)
    (planes new : List (List ℕ)) (old : Counted) (t u : Text)
    → strips_from p vias n codings rows planes old t ≡ Ok (new, u)
    → strips_reached p vias n codings row rows planes old t ≡ record { reached = new; unread = None; rest = Ok u }
unfolding strips_from strips_reached
strips-outcome p vias n codings [] row planes new old t u h = grind (arith, common_steps)
strips-outcome p vias n codings (spots ∷ rows) row planes new old t u h =
    go (λ qs r v k. strips-outcome p vias n codings rows (suc row) qs new r v u k)
    (counted-whole p vias n spots start t) (blocks_from p vias n spots start t) refl h
  where
    start : Counted
    start = on_arrays (zero_rows 1 (components_of codings)) old

    go : ((qs : List (List ℕ)) (r : Counted) (v : Text) → strips_from p vias n codings rows qs r v ≡ Ok (new, u)
        → strips_reached p vias n codings (suc row) rows qs r v
        ≡ record { reached = new; unread = None; rest = Ok u })
        → ((r : Counted) (v : Text) → blocks_from p vias n spots start t ≡ Ok (r, v)
        → counted_reached p vias n spots start t ≡ record { reached = r; unread = None; rest = Ok v })
        → (o : Result (Counted × Text) Fault) → blocks_from p vias n spots start t ≡ o
        → then_strips p vias n codings rows planes o ≡ Ok (new, u)
        → after_row p vias n codings row rows planes (counted_reached p vias n spots start t)
        (counted_reached p vias n spots start t).rest
        ≡ record { reached = new; unread = None; rest = Ok u }
    go more whole (Ok r) was h =
        ap (λ (r : Through Counted Text). after_row p vias n codings row rows planes r r.rest) (whole r.0 r.1 was)
        ∙ more (with_strips codings r.0.reached.arrays planes) (on_arrays [] r.0) r.1 h
    go more whole (Err f) was h = absurd cc

-- A fault of theirs is met where they are reached.
pub strips-fault : (p : Pass) (vias : List Via) (n : ℕ) (codings : List Coding) (rows : List (List Spot)) (row : ℕ)
    (planes : List (List ℕ)) (old : Counted) (t : Text) (f : Fault)
    → strips_from p vias n codings rows planes old t ≡ Err f
    → (strips_reached p vias n codings row rows planes old t).rest ≡ Err f
unfolding strips_from strips_reached
strips-fault p vias n codings [] row planes old t f h = absurd cc
strips-fault p vias n codings (spots ∷ rows) row planes old t f h =
    go (λ qs r v k. strips-fault p vias n codings rows (suc row) qs r v f k)
    (blocks_from p vias n spots start t) refl h
  where
    start : Counted
    start = on_arrays (zero_rows 1 (components_of codings)) old

    read : Through Counted Text
    read = counted_reached p vias n spots start t

    go : ((qs : List (List ℕ)) (r : Counted) (v : Text) → strips_from p vias n codings rows qs r v ≡ Err f
        → (strips_reached p vias n codings (suc row) rows qs r v).rest ≡ Err f)
        → (o : Result (Counted × Text) Fault) → blocks_from p vias n spots start t ≡ o
        → then_strips p vias n codings rows planes o ≡ Err f
        → (after_row p vias n codings row rows planes read read.rest).rest ≡ Err f
    go more (Ok r) was h =
        ap (λ (r : Through Counted Text). (after_row p vias n codings row rows planes r r.rest).rest)
        (counted-whole p vias n spots start t r.0 r.1 was)
        ∙ more (with_strips codings r.0.reached.arrays planes) (on_arrays [] r.0) r.1 h
    go more (Err g) was h =
        ap (λ (o : Result Text Fault). (after_row p vias n codings row rows planes read o).rest)
        (counted-fault p vias n spots start t g was)
        ∙ (cc)
