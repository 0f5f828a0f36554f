-- A stream in which no fault is named is meant: `decode` gives the picture that `decode_partial` gives.
use Rattle.std.proofs.Common.{◌≡◌, ℕ, zero, suc, ◌*◌, true, false, List, [], length, map, Option, Some, None, Result}
use Rattle.std.proofs.Common.{Ok, Err, refl, sym, ap, ◌∙◌, subst, get_or, arith}
use Rattle.std.proofs.lemmas.Grind.{common_steps}
use Rattle.std.specs.Prelude.{if◌then◌else◌}
use Rattle.std.specs.List.{AllByRecursion}
use Rattle.jpeg_bits.specs.Reading.{Outcome, Fault, End, ◌>>=◌}
use Rattle.jpeg_bits.specs.Codes.{Table}
use Rattle.jpeg_bits.specs.Intervals.{first_group, other_groups}
use Rattle.jpeg_bits.specs.declared.marker.Marker.{Marker}
use Rattle.jpeg_segments.specs.declared.frame.CodingProcess.{CodingProcess}
use Rattle.jpeg_segments.specs.declared.frame.CodingProcess.TheVariants.{DctSequential, DctProgressive, Lossless}
use Rattle.jpeg_segments.specs.Checks.{needed}
use Rattle.jpeg_segments.specs.Frame.{Frame}
use Rattle.jpeg_segments.specs.ScanHeader.{Scan}
use Rattle.jpeg_segments.proofs.Codecs.{err-ok, ok-same, bind-ok}
use Rattle.jpeg_lossless.specs.Scans.{Way, lines_by_component, planes_of, rows_of_interval, scan_at, scan_tables}
use Rattle.jpeg_lossless.proofs.LineSums.{Grids}
use Rattle.jpeg_meaning.specs.declared.before.Before.{Before}
use Rattle.jpeg_meaning.specs.declared.before.Before.TheVariants.{Elsewhere}
use Rattle.jpeg_meaning.specs.declared.settings.Settings.{Settings}
use Rattle.jpeg_meaning.specs.Brought.{BlocksTo, Brought, blocks_brought, blocks_brought_by, brought_by}
use Rattle.jpeg_meaning.specs.Brought.{has_whole_rows, samples_brought, samples_brought_by, scan_brought, scan_reached}
use Rattle.jpeg_meaning.specs.Brought.{scan_rows_reached}
use Rattle.jpeg_meaning.specs.Found.{Found, nothing_found, nothing_said}
use Rattle.jpeg_meaning.specs.FoundPictures.{picture_of}
use Rattle.jpeg_meaning.specs.InTurn.{Fits}
use Rattle.jpeg_meaning.specs.LosslessScans.{LosslessCoding, lossless_codings, mcus_down, way_of}
use Rattle.jpeg_meaning.specs.Order.{mcu_size, spots_of}
use Rattle.jpeg_meaning.specs.Scans.{Arrays}
use Rattle.jpeg_meaning.specs.ScanSegments.{Coding, after_samples, arrays_before, blocks_scan, codings_of}
use Rattle.jpeg_meaning.specs.ScanSegments.{components_of, lossless_scan, pass_of, scan_arrays, scan_by, scan_samples}
use Rattle.jpeg_meaning.specs.ScanSegments.{scan_segment, scan_turn, vias_from}
use Rattle.jpeg_meaning.specs.Segments.{Turn}
use Rattle.jpeg_meaning.specs.Shown.{Shown, completed, fault_in, fault_shown, framed_or, picture_shown, planes_by}
use Rattle.jpeg_meaning.specs.Shown.{shown, shown_of, shown_rest, shown_rest_within, shown_within}
use Rattle.jpeg_meaning.specs.Stream.{Walked, all_brought, brought_after, meaning, rest_at}
use Rattle.jpeg_meaning.specs.Stream.{scan_turn_at, segments_at, start_at, told_of, turn_at, walk, rest_showing, meaning_showing}
use Rattle.jpeg_meaning.proofs.Written.ReadTurns.{scan-or-segment, walked}
use Rattle.jpeg_meaning.proofs.Order.Apart.{spots-apart}
use Rattle.jpeg_meaning.proofs.Order.McuRows.{AllOf, codings-are-of, fits-of}
use Rattle.jpeg_meaning.proofs.Order.CountedScans.{scans-in-turn}
use Rattle.jpeg_meaning.proofs.Partial.CompletedPictures.{completed-same}
use Rattle.jpeg_meaning.proofs.Partial.FittingFrames.{FoundFits, FrameFits, SamplesFit, needed-some, planes-own}
use Rattle.jpeg_meaning.proofs.Partial.FittingFrames.{turn-fits}
use Rattle.jpeg_meaning.proofs.Partial.RowIntervals.{scan-rows-read}
use Rattle.jpeg_meaning.proofs.Partial.ScanSamples.{all-over, codings-at}
use Rattle.jpeg_meaning.proofs.Partial.ReachedIntervals.{ReadsTo, intervals-read}
use Rattle.jpeg_bits.specs.declared.beyond.Beyond.{Beyond}
use Rattle.jpeg_bits.specs.declared.beyond.Beyond.TheVariants.{Nothing, Zeros}

-- ---- a scan of blocks

pub codings-fit : (found : Found) (frame : Frame) (scan : Scan) (codings : List Coding)
    → AllByRecursion (Fits frame) frame.components → codings_of found.said frame scan ≡ Ok codings
    → AllByRecursion (Fits frame) (components_of codings)
codings-fit found frame scan codings fits e =
    fits-of frame codings fits (subst (AllOf frame) e (codings-are-of found frame scan))

-- what is kept of the blocks of a scan's components
abbrev pub arrays_of_scan : Found → Frame → List Coding → Arrays
arrays_of_scan found frame codings = map (λ c. get_or (arrays_before found frame) c.index []) codings

abbrev pub scan_of_codings : Found → Frame → Scan → List Coding → List ℕ → BlocksTo (Option Marker)
scan_of_codings found frame scan codings bytes =
    scan_reached (pass_of scan) (found.said.restart * mcu_size (components_of codings)) (vias_from 0 codings)
    (spots_of frame (components_of codings)) (arrays_of_scan found frame codings) bytes

scan-read : (found : Found) (frame : Frame) (scan : Scan) (codings : List Coding) (bytes : List ℕ)
    (x : Option Marker × List ℕ) → AllByRecursion (Fits frame) (components_of codings)
    → (scan_of_codings found frame scan codings bytes).rest ≡ Ok x
    → ReadsTo (scan_arrays found frame scan codings bytes) (scan_of_codings found frame scan codings bytes).reached x
unfolding scan_arrays
scan-read found frame scan codings bytes x fits e =
    let p = pass_of scan in
    let n = found.said.restart * mcu_size (components_of codings) in
    let vias = vias_from 0 codings in
    let spots = spots_of frame (components_of codings) in
    let arrays = arrays_of_scan found frame codings in
    let r = intervals-read p vias 0 (first_group n spots) (other_groups n spots) arrays bytes x e in
    let apart = spots-apart frame (components_of codings) fits in
    (r.0, scans-in-turn p n vias spots arrays bytes apart ∙ r.1, r.2)

coded-turn : (found : Found) (frame : Frame) (scan : Scan) (codings : List Coding) (bytes : List ℕ)
    (x : Turn × List ℕ) → AllByRecursion (Fits frame) frame.components → codings_of found.said frame scan ≡ Ok codings
    → (blocks_brought_by found frame scan codings bytes).turn ≡ Ok x → blocks_scan found frame scan bytes ≡ Ok x
unfolding blocks_brought_by blocks_scan
coded-turn found frame scan codings bytes x fits c e =
    let m = bind-ok (scan_of_codings found frame scan codings bytes).rest _ x e in
    let r = scan-read found frame scan codings bytes m.0 (codings-fit found frame scan codings fits c) m.1 in
    rw (c, r.1, r.2) m.2

blocks-turn : (found : Found) (frame : Frame) (scan : Scan) (bytes : List ℕ) (x : Turn × List ℕ)
    → AllByRecursion (Fits frame) frame.components → (blocks_brought found frame scan bytes).turn ≡ Ok x
    → blocks_scan found frame scan bytes ≡ Ok x
unfolding blocks_brought
blocks-turn found frame scan bytes x fits e = grind (arith, common_steps, err-ok, coded-turn)

-- ---- a scan of a lossless frame

abbrev pub way_by : Frame → Scan → List LosslessCoding → Way
way_by frame scan codings = way_of frame scan.predictor scan.point_transform codings

-- how many rows of MCUs an interval of the scan has
abbrev pub rows_by : Found → Frame → Scan → List LosslessCoding → ℕ
rows_by found frame scan codings =
    rows_of_interval (way_by frame scan codings).wide (mcus_down frame codings) found.said.restart

abbrev pub tables_by : Frame → Scan → List LosslessCoding → List (List Table)
tables_by frame scan codings = scan_tables (way_by frame scan codings) (mcus_down frame codings)

abbrev pub rows_of_codings : Found → Frame → Scan → List LosslessCoding → List ℕ → Grids × Outcome (Option Marker)
rows_of_codings found frame scan codings bytes =
    scan_rows_reached 0 (first_group (rows_by found frame scan codings) (tables_by frame scan codings))
    (other_groups (rows_by found frame scan codings) (tables_by frame scan codings)) bytes

-- the planes of the rows of each interval
abbrev pub planes_by_rows : Frame → Scan → List LosslessCoding → Grids → List (List ℕ)
planes_by_rows frame scan codings rows =
    planes_of scan.point_transform (way_by frame scan codings).parts
    (lines_by_component (way_by frame scan codings) 0 (way_by frame scan codings).parts rows)

rows-whole : (found : Found) (frame : Frame) (scan : Scan) (codings : List LosslessCoding) (bytes : List ℕ)
    (x : Option Marker × List ℕ) → has_whole_rows found frame scan codings ≡ true
    → (rows_of_codings found frame scan codings bytes).1 ≡ Ok x
    → ReadsTo (scan_samples found frame scan codings bytes)
    (planes_by_rows frame scan codings (rows_of_codings found frame scan codings bytes).0) x
unfolding scan_at
rows-whole found frame scan codings bytes x t e =
    let n = rows_by found frame scan codings in
    let tables = tables_by frame scan codings in
    let r = scan-rows-read 0 (first_group n tables) (other_groups n tables) bytes x e in
    (r.0, rw (t, r.1) refl, r.2)

coded-samples : (found : Found) (frame : Frame) (scan : Scan) (codings : List LosslessCoding) (bytes : List ℕ)
    (x : Turn × List ℕ) → found.said.frame ≡ Some frame → FoundFits found
    → lossless_codings found.said.huffman.dc frame scan.components scan.dc_destinations ≡ Ok codings
    → has_whole_rows found frame scan codings ≡ true → (samples_brought_by found frame scan codings bytes).turn ≡ Ok x
    → lossless_scan found frame scan bytes ≡ Ok x
unfolding samples_brought_by lossless_scan
coded-samples found frame scan codings bytes x is fits c t e =
    let rows = rows_of_codings found frame scan codings bytes in
    let planes = planes_by_rows frame scan codings rows.0 in
    let m = bind-ok rows.1 _ x e in
    let r = rows-whole found frame scan codings bytes m.0 t m.1 in
    let made = (subst FrameFits is fits.frame).1 in
    let there = subst (λ (o : Option Frame). SamplesFit o found.samples) is fits.samples in
    let at = codings-at found.said.huffman.dc frame scan.components scan.dc_destinations codings c in
    let own = planes-own found frame scan codings bytes ((planes, r.0.0), r.0.1) made at r.1 in
    let over = all-over found frame codings planes at there own in
    rw (c, r.1, r.2) (ap
    (λ (ps : List (List ℕ)). Ok (scan_turn found (after_samples found codings ps) m.0.0, m.0.1)) (sym over) ∙ m.2)

samples-turn : (found : Found) (frame : Frame) (scan : Scan) (bytes : List ℕ) (x : Turn × List ℕ)
    → found.said.frame ≡ Some frame → FoundFits found → (samples_brought found frame scan bytes).turn ≡ Ok x
    → lossless_scan found frame scan bytes ≡ Ok x
unfolding samples_brought
samples-turn found frame scan bytes x is fits e = grind (arith, common_steps, err-ok, coded-samples)

by-turn : (process : CodingProcess) (found : Found) (frame : Frame) (scan : Scan) (bytes : List ℕ)
    (x : Turn × List ℕ) → found.said.frame ≡ Some frame → FoundFits found
    → (brought_by process found frame scan bytes).turn ≡ Ok x
    → scan_by process found frame scan bytes ≡ Ok x
by-turn DctSequential found frame scan bytes x is fits e =
    blocks-turn found frame scan bytes x (subst FrameFits is fits.frame).0 e
by-turn DctProgressive found frame scan bytes x is fits e =
    blocks-turn found frame scan bytes x (subst FrameFits is fits.frame).0 e
by-turn Lossless found frame scan bytes x is fits e = samples-turn found frame scan bytes x is fits e

-- ---- a segment

scan-turn : (found : Found) (bytes : List ℕ) (x : Turn × List ℕ) → FoundFits found
    → (scan_brought found bytes).turn ≡ Ok x → scan_segment found bytes ≡ Ok x
unfolding scan_brought scan_segment
scan-turn found bytes x fits e = grind (arith, common_steps, err-ok, by-turn, needed-some)

segment-turn : (m : Marker) (before : Before) (found : Found) (bytes : List ℕ) (x : Turn × List ℕ)
    → FoundFits found → (brought_after Nothing m before found bytes).turn ≡ Ok x
    → (brought_after Zeros m before found bytes).turn ≡ Ok x
unfolding brought_after scan_turn_at
segment-turn m before found bytes x fits e = grind (arith, common_steps, scan-turn, scan-or-segment)

-- A turn that is read with nothing after its data is read with zeros after them.
pub turn-read : (before : Before) (found : Found) (met : Option Marker) (bytes : List ℕ) (x : Turn × List ℕ)
    → FoundFits found → (turn_at Nothing before found met bytes).turn ≡ Ok x
    → (turn_at Zeros before found met bytes).turn ≡ Ok x
unfolding turn_at
turn-read before found met bytes x fits e = grind (arith, common_steps, err-ok, segment-turn)

-- ---- the walk

-- after a turn
abbrev pub walked_after : Beyond → ℕ → Brought → Walked
walked_after beyond turns b = elim b.turn [
  | Err fault ↦ record { found = b.found; rows = b.rows; exceeded = false; rest = Err fault }
  | Ok t ↦ if t.0.ended then walked t.0.found (Ok t.1)
      else walk None beyond turns false t.0.before t.0.found t.0.met t.1
]

-- what a later turn of the walk gives
abbrev Again : ℕ → List ℕ → Type 0
Again turns rest =
    (x : Turn × List ℕ) → FoundFits x.0.found
    → (walk None Nothing turns false x.0.before x.0.found x.0.met x.1).rest ≡ Ok rest
    → walk None Zeros turns false x.0.before x.0.found x.0.met x.1
    ≡ walk None Nothing turns false x.0.before x.0.found x.0.met x.1

-- a walk after its next turn
walk-after : (turns : ℕ) (rest : List ℕ) (o b : Brought)
    → ((x : Turn × List ℕ) → b.turn ≡ Ok x → o.turn ≡ Ok x)
    → ((x : Turn × List ℕ) → o.turn ≡ Ok x → FoundFits x.0.found) → Again turns rest
    → (walked_after Nothing turns b).rest ≡ Ok rest → walked_after Zeros turns o ≡ walked_after Nothing turns b
walk-after turns rest o b turn fits again e = grind (arith, common_steps, err-ok)

-- Where a walk with nothing after its data has no fault, that with zeros is the same.
pub walk-read : (turns : ℕ) (before : Before) (found : Found) (met : Option Marker) (bytes rest : List ℕ)
    → FoundFits found → (walk None Nothing turns false before found met bytes).rest ≡ Ok rest
    → walk None Zeros turns false before found met bytes ≡ walk None Nothing turns false before found met bytes
unfolding walk
walk-read zero before found met bytes rest fits e = absurd (err-ok End rest e)
walk-read (suc turns) before found met bytes rest fits e =
    walk-after turns rest (turn_at Zeros before found met bytes) (turn_at Nothing before found met bytes)
    (λ x a. turn-read before found met bytes x fits a) (λ x a. turn-fits before found met bytes x fits a)
    (λ x f a. walk-read turns x.0.before x.0.found x.0.met x.1 rest f a) e

-- ---- the stream

pub framed-some : (o : Option Frame) (w : Result (List ℕ) Fault) (u : Unit {0}) → framed_or o w ≡ Ok u
    → (frame : Frame) × (o ≡ Some frame)
framed-some (Some frame) w u e = (frame, refl)
framed-some None (Ok rest) u e = absurd (err-ok _ u e)
framed-some None (Err fault) u e = absurd (err-ok _ u e)

some-fault : {P : Type 0} (fault : Fault) → ◌≡◌ {A = Option Fault} (Some fault) None → P
some-fault fault e = absurd (let n : ⊥ = cc in n)

no-fault : {A : Type 0} (o : Result A Fault) → fault_in o ≡ None → (x : A) × (o ≡ Ok x)
no-fault (Ok x) e = (x, refl)
no-fault (Err fault) e = some-fault fault e

-- at the end of an image of which each component is there
pub faultless : (found : Found) (w : Result (List ℕ) Fault) (frame : Frame) → found.said.frame ≡ Some frame
    → fault_shown found w ≡ None
    → (rest : List ℕ) × (planes : List (List ℕ)) × (w ≡ Ok rest) × (planes_by frame.process found frame ≡ Ok planes)
unfolding fault_shown
faultless found (Err fault) frame f e = some-fault fault e
faultless found (Ok rest) frame f e =
    let p = no-fault (planes_by frame.process found frame) (at found.said.frame f e) in
    (rest, p.0, refl, p.1)
  where
    at : (o : Option Frame) → o ≡ Some frame
        → fault_in (needed o >>= (λ frame. planes_by frame.process found frame)) ≡ None
        → fault_in (planes_by frame.process found frame) ≡ None
    at o f e = subst
        (λ (q : Option Frame). fault_in (needed q >>= (λ frame. planes_by frame.process found frame)) ≡ None) f e

pub picture-at : (settings : Settings) (found : Found) (frame : Frame) → found.said.frame ≡ Some frame
    → picture_shown settings found ≡ picture_of settings (completed found frame)
unfolding picture_shown
picture-at settings found frame e = rw e refl

rest-read : (settings : Settings) (bytes rest picture : List ℕ) (w : Walked) → all_brought None nothing_found bytes ≡ w
    → w.rest ≡ Ok rest → picture_of settings w.found ≡ Ok picture
    → rest_at settings nothing_found bytes ≡ Ok ((told_of w.found.said, picture), rest)
unfolding rest_showing segments_at nothing_found nothing_said
rest-read settings bytes rest picture w a e p =
    let same : walk None Zeros (suc (length bytes)) false Elsewhere nothing_found None bytes ≡ w
    = walk-read (suc (length bytes)) Elsewhere nothing_found None bytes rest
    (record { frame = tt; samples = refl }) (ap (λ (z : Walked). z.rest) a ∙ e) ∙ a in
    rw (same, e, p) refl

shown-rest : (settings : Settings) (bytes : List ℕ) (s : Shown) → shown_rest settings nothing_found bytes ≡ Ok s
    → s.fault ≡ None
    → (rest : List ℕ) × (rest_at settings nothing_found bytes ≡ Ok ((s.told, s.picture), rest))
unfolding shown_rest_within shown_of
shown-rest settings bytes s e n =
    let w = all_brought None nothing_found bytes in
    let u = bind-ok (framed_or w.found.said.frame w.rest) _ s e in
    let p = bind-ok (picture_shown settings w.found) _ s u.2 in
    let same = ok-same _ s p.2 in
    let frame = framed-some w.found.said.frame w.rest u.0 u.1 in
    let f = faultless w.found w.rest frame.0 frame.1 (ap (λ (z : Shown). z.fault) same ∙ n) in
    let picture = sym (picture-at settings w.found frame.0 frame.1
    ∙ completed-same settings w.found frame.0 f.1 frame.1 f.3) ∙ p.1 in (
      f.0,
      rest-read settings bytes f.0 p.0 w refl f.2 picture
          ∙ ap (λ (z : Shown). Ok ((z.told, z.picture), f.0)) same,
    )

-- Where a stream is shown without a fault, its meaning is what is shown.
pub faultless_streams_are_meant : (settings : Settings) (bytes : List ℕ) (s : Shown)
    → shown settings bytes ≡ Ok s → s.fault ≡ None
    → (rest : List ℕ) × (meaning settings bytes ≡ Ok ((s.told, s.picture), rest))
unfolding shown_within meaning_showing
faultless_streams_are_meant settings bytes s e n =
    let start = bind-ok (start_at bytes) _ s e in
    let r = shown-rest settings start.0.1 s start.2 n in
    (r.0, ap (λ (o : Outcome (Unit {0})). o >>= (λ start. rest_at settings nothing_found start.1)) start.1 ∙ r.1)
