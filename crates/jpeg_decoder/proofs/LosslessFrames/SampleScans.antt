-- A lossless scan as far as it goes: its components, and its rows over the samples before it.
use Rattle.std.proofs.Common.{◌≡◌, ◌∙◌, ◌+◌, ◌*◌, ◌<◌, ◌≤◌, ◌==◌, ◌++◌, ℕ, zero, suc, Bool, true, false, List, []}
use Rattle.std.proofs.Common.{◌∷◌, length, map, drop, take, get_or, replicate, set, add-one, append-nil, Option, Some}
use Rattle.std.proofs.Common.{None, Result, Ok, Err, ◌-◌, ◌^◌}
use Rattle.std.proofs.Common.{refl, sym, ap, ap₂, subst, arith, if◌then◌else◌}
use Rattle.std.specs.Prelude.{slice_index_or, unwrap_or, zip}
use Rattle.std.specs.List.{AllByRecursion}
use Rattle.std.proofs.lemmas.List.Elements.{recursion_from_All}
use Rattle.std.proofs.lemmas.Bool.{ne_eqb}
use Rattle.std.proofs.lemmas.Option.{get_or_from_slice_get}
use Rattle.std.proofs.lemmas.List.{drop_all, length-append, length-drop, length-map, length-replicate, length-take}
use Rattle.std.proofs.lemmas.List.{take_all}
use Rattle.jpeg_bits.specs.Codes.{Table}
use Rattle.jpeg_bits.specs.Intervals.{first_group, groups, other_groups}
use Rattle.jpeg_bits.specs.Reading.{Fault, Malformed, Outcome, ◌>>=◌}
use Rattle.jpeg_bits.specs.declared.marker.Marker.{Marker}
use Rattle.jpeg_bits.proofs.Loops.{bind_err}
use Rattle.jpeg_bits.proofs.WrittenIntervals.{first-all, others-all}
use Rattle.jpeg_segments.specs.Frame.{Component, Frame}
use Rattle.jpeg_segments.specs.ScanHeader.{IsScanOf, Scan}
use Rattle.jpeg_segments.specs.declared.frame.CodingProcess.TheVariants.{Lossless}
use Rattle.jpeg_lossless.specs.Codings.{AreWholeSamples, part_in, way_by}
use Rattle.jpeg_lossless.specs.Differences.{Part, mcu_tables, row_tables}
use Rattle.jpeg_lossless.specs.PlanesRead.{counted_rows, cut_planes}
use Rattle.jpeg_lossless.specs.Rows.{with_all_rows}
use Rattle.jpeg_lossless.specs.Scans.{Way, is_of_rows, lines_by_component, planes_of, rows_of_interval, samples_an_mcu}
use Rattle.jpeg_lossless.specs.Scans.{scan_tables, shifted}
use Rattle.jpeg_lossless.specs.declared.scan.Coding.{Coding}
use Rattle.jpeg_lossless.proofs.LineSums.{AreLong}
use Rattle.jpeg_lossless.proofs.ReachedRows.{reached-long, reached-planes}
use Rattle.jpeg_lossless.proofs.Sizes.{covered-within}
use Rattle.jpeg_lossless.proofs.WholeScans.{all-whole}
use Rattle.jpeg_meaning.specs.Brought.{after_interval, grey_samples, interval_rows_reached, planes_brought}
use Rattle.jpeg_meaning.specs.Brought.{samples_over, scan_rows_reached, stopping}
use Rattle.jpeg_meaning.specs.Found.{Found, Said}
use Rattle.jpeg_meaning.specs.LosslessScans.{LosslessCoding, mcus_down, tables_in, way_of, with_samples}
use Rattle.jpeg_meaning.specs.ScanSegments.{after_samples, once_scanned}
use Rattle.jpeg_meaning.specs.Sound.{AreSampled, IsDecodedFrame, IsSampled, IsSound}
use Rattle.jpeg_meaning.proofs.Partial.RowIntervals.{Scanned, next_reached}
use Rattle.jpeg_meaning.proofs.Written.ReadTurns.{ok-same, then-ok}
use Rattle.jpeg_decoder.specs.LosslessParts.{mcus_high, mcus_wide, no_component, parts_at}
use Rattle.jpeg_decoder.specs.Reaching.{over, planes_over, planes_reached, sample_codings, samples_or_grey}
use Rattle.jpeg_decoder.specs.Reaching.{samples_reached, DataBrought, IsSampleScan}
use Rattle.jpeg_decoder.specs.declared.scan.lossless.SampleScan.{SampleScan}
use Rattle.jpeg_decoder.proofs.LosslessFrames.LosslessReads.{AreCodings, AreOf, HasMcus, coding_found, codings-by-tables}
use Rattle.jpeg_decoder.proofs.LosslessFrames.LosslessReads.{codings-count, codings-lacking, has-mcus, mcus-are, parts-are}
use Rattle.jpeg_decoder.proofs.LosslessFrames.LosslessReads.{parts-count, samples-sound, scan-sampled}
use Rattle.jpeg_decoder.proofs.Partial.RowIntervals.{Planes}
use Rattle.jpeg_decoder.proofs.Partial.ShownParts.{samples-at}

-- ---- the components

abbrev whole_if : List LosslessCoding → Bool → Result (List LosslessCoding) Fault
whole_if codings b = if b then Ok codings else Err Malformed

whole-as : (said : Said) (frame : Frame) (scan : Scan) (ts : List Table)
    (a : AreCodings said.huffman.dc frame scan.components scan.dc_destinations ts) (b : Bool)
    → is_of_rows (mcus_wide frame scan.components) (mcus_high frame scan.components) said.restart ≡ b
    → sample_codings said frame scan ≡ whole_if a.codings b
whole-as said frame scan ts a b h =
    let same = mcus-are frame a.codings scan.components ts a.of in
    then-ok _ _ a.codings _ a.are
    (ap (whole_if a.codings)
    (ap₂ (λ (wide high : ℕ). is_of_rows wide high said.restart) same.0 same.1 ∙ h))

pub whole-codings : (said : Said) (frame : Frame) (scan : Scan) (ts : List Table)
    (a : AreCodings said.huffman.dc frame scan.components scan.dc_destinations ts)
    → is_of_rows (mcus_wide frame scan.components) (mcus_high frame scan.components) said.restart ≡ true
    → sample_codings said frame scan ≡ Ok a.codings
whole-codings said frame scan ts a h = whole-as said frame scan ts a true h

-- An interval would end inside a row.
pub broken-codings : (said : Said) (frame : Frame) (scan : Scan) (ts : List Table)
    (a : AreCodings said.huffman.dc frame scan.components scan.dc_destinations ts)
    → is_of_rows (mcus_wide frame scan.components) (mcus_high frame scan.components) said.restart ≡ false
    → sample_codings said frame scan ≡ Err Malformed
broken-codings said frame scan ts a h = whole-as said frame scan ts a false h

-- A table is lacking.
pub no-codings : (said : Said) (frame : Frame) (scan : Scan) (f : Fault)
    → AllByRecursion (λ index. index < length frame.components) scan.components
    → length scan.dc_destinations ≡ length scan.components
    → tables_in said.huffman.dc scan.dc_destinations ≡ Err f → sample_codings said frame scan ≡ Err f
no-codings said frame scan f within long e =
    bind_err _ _ f (codings-lacking said.huffman.dc frame scan.components scan.dc_destinations f within long e)

-- ---- planes over what was there

pub planes-over : (found : Found) (frame : Frame) (codings : List LosslessCoding) (indices : List ℕ) (ts : List Table)
    (planes : List (List ℕ)) → AreOf frame.components codings indices ts → map (λ k. k.index) codings ≡ indices
    → map (samples_over found frame) (zip codings planes) ≡ planes_over frame found.samples indices planes
unfolding AreOf planes_over
planes-over found frame [] [] [] planes h e = refl
planes-over found frame (k ∷ codings) (p ∷ indices) (t ∷ ts) [] h e = refl
planes-over found frame (k ∷ codings) (p ∷ indices) (t ∷ ts) (plane ∷ planes) h e =
    let index : k.index ≡ p = ap (λ (l : List ℕ). get_or l 0 0) e in
    let others : map (λ k. k.index) codings ≡ indices = ap (λ (l : List ℕ). drop 1 l) e in
    let component : get_or frame.components p no_component ≡ k.component
    = get_or_from_slice_get frame.components p k.component no_component h.0.0 in
    ap₂ (λ (first : List ℕ) (more : List (List ℕ)). first ∷ more)
    (ap₂ (λ (i : ℕ) (c : Component).
    over (unwrap_or (slice_index_or found.samples i None) (grey_samples frame c)) plane)
    index (sym component)) (planes-over found frame codings indices ts planes h.1 others)
planes-over found frame _ _ _ planes h e = absurd h

over-long : (n : ℕ) (whole samples : List ℕ) → length whole ≡ n → length samples ≤ n → length (over whole samples) ≡ n
over-long n whole samples h l =
    omega (arith, h, l, length-append samples (drop (length samples) whole), length-drop (length samples) whole)

or-long : (c : Component) (s : Option (List ℕ)) (x : ℕ) → IsSampled c s
    → length (unwrap_or s (replicate (c.width * c.height) x)) ≡ c.width * c.height
or-long c None x h = length-replicate (c.width * c.height) x
or-long c (Some s) x h = h

-- Planes that are cut to the components are completed to whole ones.
pub completed-whole : (frame : Frame) (samples : List (Option (List ℕ))) (is_alone : Bool) (indices : List ℕ)
    (ts : List Table) (point : ℕ) (planes : List (List ℕ)) → AreSampled frame.components samples
    → AllByRecursion (λ index. index < length frame.components) indices → length ts ≡ length indices
    → length planes ≡ length indices
    → AreWholeSamples (parts_at is_alone frame.components indices ts)
    (planes_over frame samples indices (cut_planes point (parts_at is_alone frame.components indices ts) planes))
unfolding planes_over cut_planes parts_at AreWholeSamples
completed-whole frame samples is_alone [] [] point [] sampled within lt lp = tt
completed-whole frame samples is_alone (p ∷ indices) (t ∷ ts) point (plane ∷ planes) sampled within lt lp =
    let c = get_or frame.components p no_component in
    let n = c.width * c.height in (
      over-long n (samples_or_grey frame samples p) (map (shifted point) (take n plane))
          (or-long c (slice_index_or samples p None) _
          (samples-at frame.components samples p no_component sampled within.0))
          (omega (arith, length-map (take n plane) (shifted point), length-take n plane)),
      completed-whole frame samples is_alone indices ts point planes sampled within.1 (omega (arith, lt))
          (omega (arith, lp)),
    )
completed-whole frame samples is_alone [] (t ∷ ts) point planes sampled within lt lp = absurd (omega (arith, lt))
completed-whole frame samples is_alone (p ∷ indices) [] point planes sampled within lt lp = absurd (omega (arith, lt))
completed-whole frame samples is_alone (p ∷ indices) (t ∷ ts) point [] sampled within lt lp = absurd (omega (arith, lp))
completed-whole frame samples is_alone [] [] point (plane ∷ planes) sampled within lt lp = absurd (omega (arith, lp))

-- Whole planes replace those before them.
pub whole-over : (frame : Frame) (samples : List (Option (List ℕ))) (is_alone : Bool) (indices : List ℕ)
    (ts : List Table) (planes : List (List ℕ)) → AreSampled frame.components samples
    → AllByRecursion (λ index. index < length frame.components) indices → length ts ≡ length indices
    → AreWholeSamples (parts_at is_alone frame.components indices ts) planes
    → planes_over frame samples indices planes ≡ planes
unfolding planes_over parts_at AreWholeSamples
whole-over frame samples is_alone [] [] [] sampled within lt whole = refl
whole-over frame samples is_alone (p ∷ indices) (t ∷ ts) (plane ∷ planes) sampled within lt whole =
    let before = samples_or_grey frame samples p in
    let long = or-long (get_or frame.components p no_component) (slice_index_or samples p None)
    (2 ^ (frame.precision - 1))
    (samples-at frame.components samples p no_component sampled within.0) in
    ap₂ (λ (first : List ℕ) (more : List (List ℕ)). first ∷ more)
    (ap (λ (l : List ℕ). plane ++ l) (drop_all (length plane) before (omega (arith, long, whole.0)))
    ∙ append-nil plane)
    (whole-over frame samples is_alone indices ts planes sampled within.1 (omega (arith, lt)) whole.1)
whole-over frame samples is_alone [] [] (plane ∷ planes) sampled within lt whole = absurd whole
whole-over frame samples is_alone (p ∷ indices) (t ∷ ts) [] sampled within lt whole = absurd whole
whole-over frame samples is_alone [] (t ∷ ts) planes sampled within lt whole = absurd (omega (arith, lt))
whole-over frame samples is_alone (p ∷ indices) [] planes sampled within lt whole = absurd (omega (arith, lt))

-- a plane more
over-next : (frame : Frame) (samples : List (Option (List ℕ))) (indices : List ℕ) (slot p : ℕ)
    (planes : List (List ℕ)) (x y : List ℕ) → slot < length indices → length planes ≡ length indices
    → p ≡ get_or indices slot p → x ≡ get_or planes slot x → y ≡ over (samples_or_grey frame samples p) x
    → take (suc slot) (set planes slot y) ++ planes_over frame samples (drop (suc slot) indices)
    (drop (suc slot) (set planes slot y))
    ≡ take slot planes ++ planes_over frame samples (drop slot indices) (drop slot planes)
unfolding planes_over
over-next frame samples [] slot p planes x y h l e f g = absurd (omega (arith, h))
over-next frame samples (i ∷ indices) slot p [] x y h l e f g = absurd (omega (arith, l))
over-next frame samples (i ∷ indices) zero p (z ∷ planes) x y h l e f g =
    ap (λ (first : List ℕ). first ∷ planes_over frame samples indices planes)
    (g ∙ ap₂ (λ (n : ℕ) (s : List ℕ). over (samples_or_grey frame samples n) s) e f)
over-next frame samples (i ∷ indices) (suc slot) p (z ∷ planes) x y h l e f g =
    ap (λ (more : List (List ℕ)). z ∷ more)
    (over-next frame samples indices slot p planes x y (omega (arith, h)) (omega (arith, l)) e f g)

pub over-step : (frame : Frame) (samples : List (Option (List ℕ))) (indices : List ℕ) (slot p : ℕ)
    (planes : List (List ℕ)) (x y : List ℕ) → slot < length indices → length planes ≡ length indices
    → p ≡ get_or indices slot p → x ≡ get_or planes slot x → y ≡ over (samples_or_grey frame samples p) x
    → take (slot + 1) (set planes slot y) ++ planes_over frame samples (drop (slot + 1) indices)
    (drop (slot + 1) (set planes slot y))
    ≡ take slot planes ++ planes_over frame samples (drop slot indices) (drop slot planes)
over-step frame samples indices slot p planes x y h l e f g =
    rw (add-one slot) (over-next frame samples indices slot p planes x y h l e f g)

pub over-none : (frame : Frame) (samples : List (Option (List ℕ))) (indices : List ℕ) (slot : ℕ)
    (planes : List (List ℕ)) → length indices ≤ slot → length planes ≡ length indices
    → planes ≡ take slot planes ++ planes_over frame samples (drop slot indices) (drop slot planes)
unfolding planes_over
over-none frame samples indices slot planes h l =
    let none : drop slot indices ≡ [] = drop_all slot indices h in
    sym (ap₂ (λ (front : List (List ℕ)) (left : List ℕ). front ++ planes_over frame samples left (drop slot planes))
    (take_all slot planes (omega (arith, h, l))) none ∙ append-nil planes)

-- ---- what is reached

abbrev Reached : Type 0
Reached = Found × Outcome (Option Marker)

-- the lines that a scan brings, by the way its rows are coded and how many there are
abbrev brought_with : Found → ℕ → List ℕ → Way → ℕ → Planes × Outcome (Option Marker)
brought_with found point bytes w high =
    let n = rows_of_interval w.wide high found.said.restart in
    let rows = scan_tables w high in
    let r = scan_rows_reached 0 (first_group n rows) (other_groups n rows) bytes in
    (planes_of point w.parts (lines_by_component w 0 w.parts r.0), r.1)

-- what a scan reaches, by those lines
abbrev reached_by : Found → Frame → List LosslessCoding → Planes × Outcome (Option Marker) → Reached
reached_by found frame codings r =
    (after_samples found codings (map (samples_over found frame) (zip codings r.0)), r.1)

abbrev found_met : DataBrought → Reached
found_met d = (d.found, d.met)

reached-by : (found : Found) (frame : Frame) (scan : Scan) (codings : List LosslessCoding) (bytes : List ℕ)
    → found_met (samples_reached found frame scan codings bytes)
    ≡ reached_by found frame codings (planes_brought found frame scan codings bytes)
unfolding samples_reached
reached-by found frame scan codings bytes = refl

way-as : (found : Found) (frame : Frame) (scan : Scan) (ts : List Table)
    (a : AreCodings found.said.huffman.dc frame scan.components scan.dc_destinations ts) (k : Coding)
    (parts : List Part) → k ≡ coding_found found frame scan
    → parts ≡ parts_at (length scan.components == 1) frame.components scan.components ts
    → (way_of frame scan.predictor scan.point_transform a.codings ≡ way_by k parts)
    × (mcus_down frame a.codings ≡ k.high)
way-as found frame scan ts a k parts e is = grind (arith, mcus-are, parts-are)

-- the intervals have as many rows where their number is counted
counted-some : (high n : ℕ) → counted_rows high (suc n) ≡ suc n
counted-some high n = rw (ne_eqb (suc n) 0 (omega arith), counted_rows) refl

counted-first : {A : Type 0} (high n : ℕ) (xs : List A) → length xs ≡ high → 0 < high
    → first_group (counted_rows high n) xs ≡ first_group n xs
counted-first (suc high) zero xs e h = take_all (suc high) xs (omega (arith, e))
counted-first high (suc n) xs e h = ap (λ (k : ℕ). first_group k xs) (counted-some high n)
counted-first zero zero xs e h = absurd (omega (arith, h))

no-groups : {A : Type 0} (turns n : ℕ) → ◌≡◌ {A = List (List A)} (groups turns n []) []
unfolding groups
no-groups zero n = refl
no-groups (suc turns) n = refl

counted-others : {A : Type 0} (high n : ℕ) (xs : List A) → length xs ≡ high → 0 < high
    → other_groups (counted_rows high n) xs ≡ other_groups n xs
counted-others (suc high) zero xs e h =
    ap (groups (length xs) (suc high)) (drop_all (suc high) xs (omega (arith, e))) ∙ no-groups (length xs) (suc high)
counted-others high (suc n) xs e h = ap (λ (k : ℕ). other_groups k xs) (counted-some high n)
counted-others zero zero xs e h = absurd (omega (arith, h))

-- ---- how long the rows are

next-long : (n : ℕ) (others : List ℕ → Scanned) (read : Planes) (o : Result (List ℕ) Fault) → AreLong n read
    → ((rest : List ℕ) → AllByRecursion (AreLong n) (others rest).0)
    → AllByRecursion (AreLong n) (next_reached others read o).0
next-long n others read (Ok rest) h more = (h, more rest)
next-long n others read (Err fault) h more = (h, tt)

interval-long : (n : ℕ) (rows : List (List Table)) (bytes : List ℕ) → AllByRecursion (λ ts. length ts ≡ n) rows
    → AreLong n (interval_rows_reached rows bytes).0
unfolding interval_rows_reached
interval-long n rows bytes h = reached-long n rows (stopping bytes) h

scan-long : (n k : ℕ) (rows : List (List Table)) (others : List (List (List Table))) (bytes : List ℕ)
    → AllByRecursion (λ ts. length ts ≡ n) rows → AllByRecursion (AllByRecursion (λ ts. length ts ≡ n)) others
    → AllByRecursion (AreLong n) (scan_rows_reached k rows others bytes).0
unfolding scan_rows_reached
scan-long n k rows [] bytes h all = (interval-long n rows bytes h, tt)
scan-long n k rows (next ∷ more) bytes h all =
    next-long n (scan_rows_reached (suc k) next more) (interval_rows_reached rows bytes).0
    ((interval_rows_reached rows bytes).1 >>= after_interval k) (interval-long n rows bytes h)
    (λ rest. scan-long n (suc k) next more rest all.0 all.1)

-- ---- what the rows of a scan leave

-- what is found after the planes of a scan, over what was there
abbrev pub put_over : Found → Frame → List ℕ → List (List ℕ) → Found
put_over found frame indices planes = record (once_scanned found) {
  samples = with_samples indices (planes_over frame found.samples indices planes) found.samples;
}

put-as : (found : Found) (frame : Frame) (indices ds : List ℕ) (ts : List Table) (planes : List (List ℕ))
    (a : AreCodings found.said.huffman.dc frame indices ds ts)
    → after_samples found a.codings (map (samples_over found frame) (zip a.codings planes))
    ≡ put_over found frame indices planes
put-as found frame indices ds ts planes a =
    ap₂ (λ (l : List ℕ) (p : List (List ℕ)).
    record (once_scanned found) { samples = with_samples l p found.samples }) a.indices_are
    (planes-over found frame a.codings indices ts planes a.of a.indices_are)

abbrev cut_over : Found → Frame → List ℕ → ℕ → List Part → Planes × Outcome (Option Marker) → Reached
cut_over found frame indices point parts r = (put_over found frame indices (cut_planes point parts r.0), r.1)

abbrev groups_reached : Way → List (List Table) → List (List (List Table)) → List ℕ → Planes × Outcome (Option Marker)
groups_reached w rows others bytes =
    let r = scan_rows_reached 0 rows others bytes in
    (with_all_rows w r.0 (replicate (length w.parts) []), r.1)

-- The lines that a scan brings, by the rows as they are appended to planes.
abbrev cut_as : ℕ → List Part → Planes × Outcome (Option Marker) → Planes × Outcome (Option Marker)
cut_as point parts r = (cut_planes point parts r.0, r.1)

planes-as : (found : Found) (frame : Frame) (scan : Scan) (ts : List Table)
    (a : AreCodings found.said.huffman.dc frame scan.components scan.dc_destinations ts) (k : Coding)
    (parts : List Part) (n : ℕ) (bytes : List ℕ) → k ≡ coding_found found frame scan
    → parts ≡ parts_at (length scan.components == 1) frame.components scan.components ts
    → n ≡ counted_rows k.high (rows_of_interval k.wide k.high found.said.restart) → HasMcus k.wide k.high parts
    → ◌≡◌ {A = Planes × Outcome (Option Marker)} (planes_brought found frame scan a.codings bytes)
    (cut_as scan.point_transform parts
    (planes_reached (way_by k parts) n k.high (replicate (length parts) []) bytes))
planes-as found frame scan ts a k parts n bytes e is counts has =
    let w = way_by k parts in
    let same = way-as found frame scan ts a k parts e is in
    let point = scan.point_transform in
    let rows = scan_tables w k.high in
    let m = rows_of_interval w.wide k.high found.said.restart in
    let long = length-replicate k.high (row_tables w.wide (mcu_tables w.parts)) in
    let fits = covered-within k.wide k.high parts has.covered in
    let r = scan_rows_reached 0 (first_group m rows) (other_groups m rows) bytes in
    let whole = scan-long (w.wide * samples_an_mcu w) 0 (first_group m rows) (other_groups m rows) bytes
    (first-all _ m rows (all-whole w fits k.high)) (others-all _ m rows (all-whole w fits k.high)) in
    ap₂ (brought_with found point bytes) same.0 same.1
    ∙ ap (λ (p : Planes). (p, r.1)) (sym (reached-planes w fits point r.0 whole))
    ∙ ap₂ (λ (g : List (List Table)) (o : List (List (List Table))).
    cut_as point parts (groups_reached w g o bytes))
    (sym (ap (λ (c : ℕ). first_group c rows) counts ∙ counted-first k.high m rows long has.some_high))
    (sym (ap (λ (c : ℕ). other_groups c rows) counts ∙ counted-others k.high m rows long has.some_high))

-- ---- a scan as the code has it

pub rows-some : (high n : ℕ) → 0 < high → 0 < counted_rows high n
rows-some high zero h = h
rows-some high (suc n) h = omega (arith, counted-some high n)

-- its components
abbrev pub AreFor : Said → Frame → Scan → List Table → Type 0
AreFor said frame scan ts = AreCodings said.huffman.dc frame scan.components scan.dc_destinations ts

pub scan-coded : (said : Said) (frame : Frame) (scan : Scan) (s : SampleScan) (i : IsSampleScan said frame scan s)
    → IsScanOf frame scan → AreFor said frame scan i.tables
scan-coded said frame scan s i legal =
    codings-by-tables said.huffman.dc frame scan.components scan.dc_destinations i.tables
    (recursion_from_All (λ index. index < length frame.components) scan.components legal.components) legal.dc_length
    i.are

pub scan-mcus : (said : Said) (frame : Frame) (scan : Scan) (s : SampleScan) (i : IsSampleScan said frame scan s)
    → IsScanOf frame scan → IsDecodedFrame frame → frame.process ≡ Lossless
    → HasMcus s.coding.wide s.coding.high (map part_in s.parts.items)
scan-mcus said frame scan s i legal decoded process =
    subst (λ (k : Coding). HasMcus k.wide k.high (map part_in s.parts.items)) (sym i.coding)
    (subst (HasMcus (mcus_wide frame scan.components) (mcus_high frame scan.components)) (sym i.parts)
    (has-mcus _ _ _ _ _ (scan-coded said frame scan s i legal) decoded process))

-- its components, where each interval has whole rows
pub scan-codings : (said : Said) (frame : Frame) (scan : Scan) (s : SampleScan) → IsSampleScan said frame scan s
    → IsScanOf frame scan → (codings : List LosslessCoding) × (sample_codings said frame scan ≡ Ok codings)
scan-codings said frame scan s i legal =
    let a = scan-coded said frame scan s i legal in (
      a.codings,
      whole-codings said frame scan i.tables a
          (ap (λ (k : Coding). is_of_rows k.wide k.high said.restart) (sym i.coding) ∙ i.whole),
    )

-- the number of rows of an interval is some
pub scan-rows : (said : Said) (frame : Frame) (scan : Scan) (s : SampleScan) → IsSampleScan said frame scan s
    → 0 < s.coding.high → 0 < s.rows
scan-rows said frame scan s i h =
    subst (λ (n : ℕ). 0 < n) (sym i.rows)
    (rows-some s.coding.high (rows_of_interval s.coding.wide s.coding.high said.restart) h)

-- What the code knows of a lossless scan, and of how it reads its rows.
pub record Reads (found : Found) (frame : Frame) (scan : Scan) (s : SampleScan) (k : Coding) (parts : List Part)
    (empty : Planes) : Type 0 where
  pub scan_is : IsSampleScan found.said frame scan s
  pub legal : IsScanOf frame scan
  pub sound : IsSound found
  pub framed : found.said.frame ≡ Some frame
  pub process : frame.process ≡ Lossless
  pub coding : k ≡ s.coding
  pub parts_are : parts ≡ map part_in s.parts.items
  pub begins : empty ≡ replicate (length parts) []

-- the components of the scan
reads-codings : (found : Found) (frame : Frame) (scan : Scan) (s : SampleScan) (k : Coding) (parts : List Part)
    (empty : Planes) (codings : List LosslessCoding) (r : Reads found frame scan s k parts empty)
    → sample_codings found.said frame scan ≡ Ok codings
    → codings ≡ (scan-coded found.said frame scan s r.scan_is r.legal).codings
reads-codings found frame scan s k parts empty codings r h =
    let i = r.scan_is in
    let a = scan-coded found.said frame scan s i r.legal in
    ok-same codings a.codings (sym h ∙ whole-codings found.said frame scan i.tables a
    (ap (λ (k : Coding). is_of_rows k.wide k.high found.said.restart) (sym i.coding) ∙ i.whole))

components-are : (cs : List Component) (codings : List LosslessCoding) (indices : List ℕ) (ts : List Table)
    → AreOf cs codings indices ts
    → map (λ k. k.component) codings ≡ map (λ index. get_or cs index no_component) indices
unfolding AreOf
components-are cs [] [] [] h = refl
components-are cs (k ∷ codings) (p ∷ indices) (t ∷ ts) h =
    ap₂ (λ (c : Component) (more : List Component). c ∷ more)
    (sym (get_or_from_slice_get cs p k.component no_component h.0.0)) (components-are cs codings indices ts h.1)
components-are cs _ _ _ h = absurd h

pub reads-components : (found : Found) (frame : Frame) (scan : Scan) (s : SampleScan) (k : Coding)
    (parts : List Part) (empty : Planes) (codings : List LosslessCoding) → Reads found frame scan s k parts empty
    → sample_codings found.said frame scan ≡ Ok codings
    → map (λ k. k.component) codings ≡ map (λ index. get_or frame.components index no_component) scan.components
reads-components found frame scan s k parts empty codings r h =
    let i = r.scan_is in
    let a = scan-coded found.said frame scan s i r.legal in
    ap (map (λ k. k.component)) (reads-codings found frame scan s k parts empty codings r h)
    ∙ components-are frame.components a.codings scan.components i.tables a.of

-- the lines that it brings
reads-planes : (found : Found) (frame : Frame) (scan : Scan) (s : SampleScan) (k : Coding) (parts : List Part)
    (empty : Planes) (codings : List LosslessCoding) (bytes : List ℕ) → Reads found frame scan s k parts empty
    → sample_codings found.said frame scan ≡ Ok codings
    → ◌≡◌ {A = Planes × Outcome (Option Marker)} (planes_brought found frame scan codings bytes)
    (cut_as scan.point_transform parts (planes_reached (way_by k parts) s.rows k.high empty bytes))
reads-planes found frame scan s k parts empty codings bytes r h =
    let i = r.scan_is in
    let a = scan-coded found.said frame scan s i r.legal in
    let has : HasMcus k.wide k.high parts
    = subst (λ (q : Coding). HasMcus q.wide q.high parts) (sym r.coding)
    (subst (HasMcus s.coding.wide s.coding.high) (sym r.parts_are)
    (scan-mcus found.said frame scan s i r.legal (r.sound.frames frame r.framed) r.process)) in
    let counts : s.rows ≡ counted_rows k.high (rows_of_interval k.wide k.high found.said.restart)
    = i.rows ∙ ap (λ (q : Coding). counted_rows q.high (rows_of_interval q.wide q.high found.said.restart))
    (sym r.coding) in
    ap (λ (l : List LosslessCoding). planes_brought found frame scan l bytes)
    (reads-codings found frame scan s k parts empty codings r h)
    ∙ planes-as found frame scan i.tables a k parts s.rows bytes (r.coding ∙ i.coding) (r.parts_are ∙ i.parts) counts
    has
    ∙ ap (λ (p : Planes). cut_as scan.point_transform parts
    (planes_reached (way_by k parts) s.rows k.high p bytes)) (sym r.begins)

reads-as : (found : Found) (frame : Frame) (scan : Scan) (s : SampleScan) (k : Coding) (parts : List Part)
    (empty : Planes) (codings : List LosslessCoding) (bytes : List ℕ) → Reads found frame scan s k parts empty
    → sample_codings found.said frame scan ≡ Ok codings
    → ◌≡◌ {A = Reached} (found_met (samples_reached found frame scan codings bytes))
    (cut_over found frame scan.components scan.point_transform parts
    (planes_reached (way_by k parts) s.rows k.high empty bytes))
reads-as found frame scan s k parts empty codings bytes r h =
    let a = scan-coded found.said frame scan s r.scan_is r.legal in
    let x = cut_as scan.point_transform parts (planes_reached (way_by k parts) s.rows k.high empty bytes) in
    reached-by found frame scan codings bytes
    ∙ ap (reached_by found frame codings) (reads-planes found frame scan s k parts empty codings bytes r h)
    ∙ ap (λ (l : List LosslessCoding). reached_by found frame l x)
    (reads-codings found frame scan s k parts empty codings r h)
    ∙ ap (λ (f : Found). (f, x.1)) (put-as found frame scan.components scan.dc_destinations r.scan_is.tables x.0 a)

-- the lines as they are cut to the components
pub reads-cut : (found : Found) (frame : Frame) (scan : Scan) (s : SampleScan) (k : Coding) (parts : List Part)
    (empty planes : Planes) (codings : List LosslessCoding) (bytes : List ℕ) → Reads found frame scan s k parts empty
    → sample_codings found.said frame scan ≡ Ok codings
    → planes ≡ (planes_reached (way_by k parts) s.rows k.high empty bytes).0
    → cut_planes k.point_transform parts planes ≡ (planes_brought found frame scan codings bytes).0
reads-cut found frame scan s k parts empty planes codings bytes r h same =
    let point : k.point_transform ≡ scan.point_transform
    = ap (λ (q : Coding). q.point_transform) (r.coding ∙ r.scan_is.coding) in
    ap₂ (λ (n : ℕ) (p : Planes). cut_planes n parts p) point same
    ∙ sym (ap (λ (x : Planes × Outcome (Option Marker)). x.0)
    (reads-planes found frame scan s k parts empty codings bytes r h))

pub reads-found : (found : Found) (frame : Frame) (scan : Scan) (s : SampleScan) (k : Coding) (parts : List Part)
    (empty planes : Planes) (codings : List LosslessCoding) (bytes : List ℕ) (next : Found)
    → Reads found frame scan s k parts empty → sample_codings found.said frame scan ≡ Ok codings
    → next ≡ put_over found frame scan.components (cut_planes k.point_transform parts planes)
    → planes ≡ (planes_reached (way_by k parts) s.rows k.high empty bytes).0
    → next ≡ (samples_reached found frame scan codings bytes).found
reads-found found frame scan s k parts empty planes codings bytes next r h is same =
    let point : k.point_transform ≡ scan.point_transform
    = ap (λ (q : Coding). q.point_transform) (r.coding ∙ r.scan_is.coding) in
    is
    ∙ ap₂ (λ (n : ℕ) (p : Planes). put_over found frame scan.components (cut_planes n parts p)) point same
    ∙ sym (ap (λ (x : Reached). x.0) (reads-as found frame scan s k parts empty codings bytes r h))

pub reads-marker : (found : Found) (frame : Frame) (scan : Scan) (s : SampleScan) (k : Coding) (parts : List Part)
    (empty : Planes) (codings : List LosslessCoding) (bytes : List ℕ) → Reads found frame scan s k parts empty
    → sample_codings found.said frame scan ≡ Ok codings
    → (planes_reached (way_by k parts) s.rows k.high empty bytes).1 ≡ (samples_reached found frame scan codings bytes).met
reads-marker found frame scan s k parts empty codings bytes r h =
    sym (ap (λ (x : Reached). x.1) (reads-as found frame scan s k parts empty codings bytes r h))

pub reads-sound : (found : Found) (frame : Frame) (scan : Scan) (s : SampleScan) (k : Coding) (parts : List Part)
    (empty planes : Planes) (next : Found) → Reads found frame scan s k parts empty
    → length planes ≡ length parts
    → next ≡ put_over found frame scan.components (cut_planes k.point_transform parts planes) → IsSound next
reads-sound found frame scan s k parts empty planes next r long is =
    let i = r.scan_is in
    let indices = scan.components in
    let is_alone = length indices == 1 in
    let of = r.parts_are ∙ i.parts in
    let a = scan-coded found.said frame scan s i r.legal in
    let tables = codings-count _ frame indices scan.dc_destinations i.tables a in
    let count : length parts ≡ length indices
    = ap (λ (l : List Part). length l) of ∙ parts-count is_alone frame.components indices i.tables tables in
    let whole = completed-whole frame found.samples is_alone indices i.tables k.point_transform planes
    (r.sound.samples frame r.framed)
    (recursion_from_All (λ index. index < length frame.components) indices r.legal.components) tables (long ∙ count) in
    let made = planes_over frame found.samples indices (cut_planes k.point_transform
    (parts_at is_alone frame.components indices i.tables) planes) in
    samples-sound found next frame indices made r.sound r.framed r.process
    (scan-sampled is_alone found frame indices i.tables made r.sound r.framed whole)
    (is ∙ ap (λ (l : List Part). put_over found frame indices (cut_planes k.point_transform l planes)) of)
