-- The fault that is shown of a stream is that of its meaning, or a marker ends the data of a scan early.
use Rattle.std.proofs.Common.{◌≡◌, ◌≢◌, ◌⊎◌, inl, ℕ, zero, suc, ◌*◌, Bool, true, false, List, [], ◌∷◌, length, Option}
use Rattle.std.proofs.Common.{Some, None, Result, Ok, Err, refl, ap, ◌∙◌, subst, arith}
use Rattle.std.specs.Prelude.{fold, if◌then◌else◌}
use Rattle.std.specs.List.{AllByRecursion, enumerate_from}
use Rattle.std.proofs.lemmas.Grind.{common_steps}
use Rattle.jpeg_bits.specs.Reading.{Outcome, Fault, Malformed, ◌>>=◌}
use Rattle.jpeg_bits.specs.Intervals.{first_group, intervals, other_groups}
use Rattle.jpeg_bits.specs.Marker.{found_or, next_marker}
use Rattle.jpeg_bits.specs.declared.beyond.Beyond.{Beyond}
use Rattle.jpeg_bits.specs.declared.beyond.Beyond.TheVariants.{Nothing, Zeros}
use Rattle.jpeg_bits.specs.declared.marker.Marker.{Marker}
use Rattle.jpeg_bits.specs.declared.marker.Marker.TheVariants.{SOS}
use Rattle.jpeg_lossless.specs.Differences.{interval_rows}
use Rattle.jpeg_lossless.specs.Scans.{scan_at}
use Rattle.jpeg_segments.specs.declared.frame.CodingProcess.{CodingProcess}
use Rattle.jpeg_segments.specs.declared.frame.CodingProcess.TheVariants.{Lossless}
use Rattle.jpeg_segments.specs.Frame.{Component, Frame}
use Rattle.jpeg_segments.specs.ScanHeader.{Scan}
use Rattle.jpeg_segments.proofs.Codecs.{bind-ok, ok-same}
use Rattle.jpeg_meaning.specs.declared.before.Before.{Before}
use Rattle.jpeg_meaning.specs.declared.before.Before.TheVariants.{Elsewhere}
use Rattle.jpeg_meaning.specs.declared.settings.Settings.{Settings}
use Rattle.jpeg_meaning.specs.Brought.{Brought, blocks_brought, blocks_brought_by, brought_by, frame_and_scan}
use Rattle.jpeg_meaning.specs.Brought.{has_whole_rows, samples_brought, samples_brought_by, scan_brought, unbrought}
use Rattle.jpeg_meaning.specs.Found.{Found, nothing_found, nothing_said}
use Rattle.jpeg_meaning.specs.FoundPictures.{blocks_picture, limited, picture_by_process, picture_of, samples_picture}
use Rattle.jpeg_meaning.specs.InTurn.{Fits}
use Rattle.jpeg_meaning.specs.LosslessScans.{LosslessCoding, lossless_codings}
use Rattle.jpeg_meaning.specs.Order.{mcu_size, spots_of}
use Rattle.jpeg_meaning.specs.Scans.{Arrays}
use Rattle.jpeg_meaning.specs.ScanSegments.{after_samples, after_scan, blocks_scan, codings_of, components_of}
use Rattle.jpeg_meaning.specs.ScanSegments.{lossless_scan, pass_of, scan_arrays, scan_by, scan_samples, scan_segment}
use Rattle.jpeg_meaning.specs.ScanSegments.{scan_turn, vias_from}
use Rattle.jpeg_meaning.specs.Segments.{Turn}
use Rattle.jpeg_meaning.specs.Shown.{Shown, completed, fault_shown, framed_or, picture_shown, planes_by, shown}
use Rattle.jpeg_meaning.specs.Shown.{shown_by, shown_of, shown_rest_within, shown_within, with_samples_shown}
use Rattle.jpeg_meaning.specs.Stream.{all_brought, brought_after, meaning, scan_turn_at}
use Rattle.jpeg_meaning.specs.Stream.{segments_at, start_at, turn_at, walk, rest_showing, meaning_showing}
use Rattle.jpeg_meaning.proofs.Order.Apart.{spots-apart}
use Rattle.jpeg_meaning.proofs.Order.CountedScans.{scans-in-turn}
use Rattle.jpeg_meaning.proofs.Partial.CompletedPictures.{all-stay}
use Rattle.jpeg_meaning.proofs.Partial.Faultless.{arrays_of_scan, codings-fit, faultless_streams_are_meant, framed-some}
use Rattle.jpeg_meaning.proofs.Partial.Faultless.{planes_by_rows, rows_by, tables_by, turn-read, walk-read}
use Rattle.jpeg_meaning.proofs.Partial.Faultless.{walked_after}
use Rattle.jpeg_meaning.proofs.Partial.FittingFrames.{FoundFits, FrameFits, needed-some, turn-fits}
use Rattle.jpeg_evidence.specs.EarlyEnds.{ScanEndsEarly, SegmentsEndEarly, StreamEndsEarly}
use Rattle.jpeg_evidence.specs.EarlyEnds.ScanEndsEarly.{of_blocks, of_rows}
use Rattle.jpeg_evidence.specs.EarlyEnds.SegmentsEndEarly.{at_scan, later_turn}
use Rattle.jpeg_evidence.proofs.Cut.EarlyEnds.{Fails, blocks-fail, fails-on, passed, passed-on, rows-fail}
use Rattle.jpeg_meaning.proofs.Longer.LongerTurns.{FoundHeader, brought_of}
use Rattle.jpeg_meaning.proofs.Longer.FrontNumbers.{some-is}

-- ---- a scan

-- what is read after something, or its fault
then-fails : {A : Type 0} (found : Found) (o : Result A Fault) (by : A → Brought) (read : A → Outcome Turn)
    (early : Type 0) → ((x : A) → o ≡ Ok x → Fails early (read x) (by x).turn)
    → Fails early (o >>= read) (brought_of found by o).turn
then-fails found o by read early each g h = grind arith

blocks-turn : (found : Found) (frame : Frame) (scan : Scan) (bytes data_bytes : List ℕ)
    → frame_and_scan found bytes ≡ Ok (frame, (scan, data_bytes)) → frame.process ≢ Lossless
    → AllByRecursion (Fits frame) frame.components
    → Fails (ScanEndsEarly found bytes) (blocks_scan found frame scan data_bytes)
    (blocks_brought found frame scan data_bytes).turn
unfolding blocks_brought blocks_brought_by blocks_scan scan_arrays
blocks-turn found frame scan bytes data_bytes header lossy fits =
    then-fails found (codings_of found.said frame scan)
    (λ codings. blocks_brought_by found frame scan codings data_bytes) _ _
    (λ codings c g h.
    let n = found.said.restart * mcu_size (components_of codings) in
    let spots = spots_of frame (components_of codings) in
    let arrays = arrays_of_scan found frame codings in
    let to : Arrays → Option Marker → Turn = λ a m. scan_turn found (after_scan found frame scan codings a) m in
    fails-on (λ y. of_blocks frame scan codings data_bytes header lossy c y)
    (λ e. ap (passed to) (scans-in-turn (pass_of scan) n (vias_from 0 codings) spots arrays data_bytes
    (spots-apart frame (components_of codings) (codings-fit found frame scan codings fits c))) ∙ e)
    (blocks-fail (pass_of scan) (vias_from 0 codings) 0 (first_group n spots) (other_groups n spots) arrays data_bytes
    to g (grind arith)))

samples-turn : (found : Found) (frame : Frame) (scan : Scan) (bytes data_bytes : List ℕ)
    → frame_and_scan found bytes ≡ Ok (frame, (scan, data_bytes)) → frame.process ≡ Lossless
    → Fails (ScanEndsEarly found bytes) (lossless_scan found frame scan data_bytes)
    (samples_brought found frame scan data_bytes).turn
unfolding samples_brought samples_brought_by lossless_scan scan_at
samples-turn found frame scan bytes data_bytes header lossless =
    then-fails found (lossless_codings found.said.huffman.dc frame scan.components scan.dc_destinations)
    (λ codings. if has_whole_rows found frame scan codings then samples_brought_by found frame scan codings data_bytes
    else unbrought found (Err Malformed)) _ _
    (λ codings c. by codings (has_whole_rows found frame scan codings) c refl)
  where
    by : (codings : List LosslessCoding) (b : Bool)
        → lossless_codings found.said.huffman.dc frame scan.components scan.dc_destinations ≡ Ok codings
        → has_whole_rows found frame scan codings ≡ b
        → Fails (ScanEndsEarly found bytes)
        (passed (λ planes m. scan_turn found (after_samples found codings planes) m)
        (scan_samples found frame scan codings data_bytes))
        (if b then samples_brought_by found frame scan codings data_bytes else unbrought found (Err Malformed)).turn
    by codings true c t g h =
        let n = rows_by found frame scan codings in
        let rows = tables_by frame scan codings in
        let planes = planes_by_rows frame scan codings in
        let to : List (List ℕ) → Option Marker → Turn = λ ps m. scan_turn found (after_samples found codings ps) m in
        fails-on (λ y. of_rows frame scan codings data_bytes header lossless c t y)
        (λ e. rw t (passed-on to planes
        (intervals interval_rows 0 (first_group n rows) (other_groups n rows) data_bytes) ∙ e))
        (rows-fail 0 (first_group n rows) (other_groups n rows) data_bytes (λ grids. to (planes grids)) g (grind arith))
    by codings false c t g h = inl (rw t h)

-- ---- a segment

by-scan : (process : CodingProcess) (found : Found) (bytes : List ℕ) (x : FoundHeader) → x.0.process ≡ process
    → frame_and_scan found bytes ≡ Ok x → found.said.frame ≡ Some x.0 → FoundFits found
    → Fails (ScanEndsEarly found bytes) (scan_by process found x.0 x.1.0 x.1.1)
    (brought_by process found x.0 x.1.0 x.1.1).turn
by-scan Lossless found bytes x p header is fits = samples-turn found x.0 x.1.0 bytes x.1.1 header p
by-scan process found bytes x p header is fits =
    blocks-turn found x.0 x.1.0 bytes x.1.1 header (λ l. let n : ⊥ = cc in n) (subst FrameFits is fits.frame).0

scan-fails : (found : Found) (bytes : List ℕ) → FoundFits found
    → Fails (ScanEndsEarly found bytes) (scan_segment found bytes) (scan_brought found bytes).turn
unfolding scan_brought scan_segment
scan-fails found bytes fits g h =
    fails-on (λ y. y) (λ e. grind arith)
    (then-fails found (frame_and_scan found bytes) (λ x. brought_by x.0.process found x.0 x.1.0 x.1.1)
    (λ x. scan_by x.0.process found x.0 x.1.0 x.1.1) _
    (λ x a. by-scan x.0.process found bytes x refl a (grind (arith, common_steps, needed-some)) fits) g h)

segment-fails : (m : Marker) (before : Before) (found : Found) (bytes : List ℕ) → FoundFits found
    → Fails ((m ≡ SOS) × ScanEndsEarly found bytes) (brought_after Zeros m before found bytes).turn
    (brought_after Nothing m before found bytes).turn
unfolding brought_after scan_turn_at
segment-fails SOS before found bytes fits g h = fails-on (λ y. (refl, y)) (λ e. e) (scan-fails found bytes fits g h)
segment-fails m before found bytes fits g h = inl h

turn-fails : (before : Before) (found : Found) (met : Option Marker) (bytes : List ℕ) → FoundFits found
    → Fails (SegmentsEndEarly before found met bytes) (turn_at Zeros before found met bytes).turn
    (turn_at Nothing before found met bytes).turn
unfolding turn_at
turn-fails before found met bytes fits g h =
    fails-on (λ y. y) (λ e. grind arith)
    (then-fails found (found_or met bytes (next_marker bytes)) (λ m. brought_after Nothing m.0 before found m.1)
    (λ m. (brought_after Zeros m.0 before found m.1).turn) _
    (λ m at g h.
    fails-on (λ y. at_scan before found met bytes m.1 (at ∙ ap (λ (k : Marker). Ok (k, m.1)) y.0) y.1) (λ e. e)
    (segment-fails m.0 before found m.1 fits g h)) g h)

-- ---- the walk

-- the rest of a walk with no limit
abbrev rest_by : Beyond → ℕ → Before → Found → Option Marker → List ℕ → Result (List ℕ) Fault
rest_by beyond turns before found met bytes = (walk None beyond turns false before found met bytes).rest

-- after a turn
after-fails : (early : Type 0) (turns : ℕ) (q o : Brought) → Fails early q.turn o.turn
    → ((x : Turn × List ℕ) → o.turn ≡ Ok x → q.turn ≡ Ok x)
    → ((x : Turn × List ℕ) → o.turn ≡ Ok x → x.0.ended ≡ false
    → Fails early (rest_by Zeros turns x.0.before x.0.found x.0.met x.1)
    (rest_by Nothing turns x.0.before x.0.found x.0.met x.1))
    → Fails early (walked_after Zeros turns q).rest (walked_after Nothing turns o).rest
after-fails early turns q o fails reads goes g h = grind arith

walk-fails : (turns : ℕ) (before : Before) (found : Found) (met : Option Marker) (bytes : List ℕ) → FoundFits found
    → Fails (SegmentsEndEarly before found met bytes) (rest_by Zeros turns before found met bytes)
    (rest_by Nothing turns before found met bytes)
unfolding walk
walk-fails zero before found met bytes fits g h = inl h
walk-fails (suc turns) before found met bytes fits g h =
    let read : (x : Turn × List ℕ) → (turn_at Nothing before found met bytes).turn ≡ Ok x
    → (turn_at Zeros before found met bytes).turn ≡ Ok x = λ x e. turn-read before found met bytes x fits e in
    after-fails _ turns (turn_at Zeros before found met bytes) (turn_at Nothing before found met bytes)
    (turn-fails before found met bytes fits) read
    (λ x e u k l.
    fails-on (λ y. later_turn before found met bytes x.0 x.1 e u y) (λ i. i)
    (walk-fails turns x.0.before x.0.found x.0.met x.1 (turn-fits before found met bytes x fits (read x e)) k l)) g h

-- ---- the picture

said-samples : (frame : Frame) (cs : List (ℕ × Component)) (found : Found)
    → (fold (with_samples_shown frame) found cs).said ≡ found.said
unfolding with_samples_shown
said-samples frame [] found = refl
said-samples frame (c ∷ cs) found = said-samples frame cs (with_samples_shown frame found c)

said-by : (process : CodingProcess) (frame : Frame) (found : Found)
    → (fold (shown_by process frame) found (enumerate_from 0 frame.components)).said ≡ found.said
said-by Lossless frame found = said-samples frame (enumerate_from 0 frame.components) found
said-by process frame found = (all-stay frame frame.components 0 found).said

picture-lacks : (process : CodingProcess) (settings : Settings) (found : Found) (frame : Frame) (f : Fault)
    → planes_by process found frame ≡ Err f → picture_by_process process settings found frame ≡ Err f
unfolding blocks_picture samples_picture
picture-lacks process settings found frame f e = grind arith

picture-fault : (settings : Settings) (found : Found) (frame : Frame) (picture : List ℕ) (f : Fault)
    → found.said.frame ≡ Some frame → picture_shown settings found ≡ Ok picture
    → planes_by frame.process found frame ≡ Err f → picture_of settings found ≡ Err f
unfolding picture_of picture_shown limited completed
picture-fault settings found frame picture f e shows lacks =
    let known : (completed found frame).said.frame ≡ Some frame
    = ap (λ w. w.frame) (said-by frame.process frame found) ∙ e in
    let none = picture-lacks frame.process settings found frame f lacks in
    grind arith

-- ---- the stream

-- the fault of the meaning, or the data of a scan end early
abbrev pub Named : Settings → List ℕ → Fault → Type 0
Named settings bytes f = (meaning settings bytes ≡ Err f) ⊎ (StreamEndsEarly bytes × (f ≡ Malformed))

nothing-fits : FoundFits nothing_found
unfolding nothing_found nothing_said
nothing-fits = record { frame = tt; samples = refl }

-- The fault that is shown is that of the meaning, or the data of a scan end early.
pub faults_are_the_meanings : (settings : Settings) (bytes : List ℕ) (s : Shown) (f : Fault)
    → shown settings bytes ≡ Ok s → s.fault ≡ Some f → Named settings bytes f
unfolding shown_within shown_rest_within shown_of fault_shown meaning_showing rest_showing segments_at
faults_are_the_meanings settings bytes s f e fault =
    let start = bind-ok (start_at bytes) _ s e in
    let rest = start.0.1 in
    let w = all_brought None nothing_found rest in
    let u = bind-ok (framed_or w.found.said.frame w.rest) _ s start.2 in
    let p = bind-ok (picture_shown settings w.found) _ s u.2 in
    let frame = framed-some w.found.said.frame w.rest u.0 u.1 in
    let early : SegmentsEndEarly Elsewhere nothing_found None rest → StreamEndsEarly bytes = λ y. (rest, start.1, y) in
    let fails = walk-fails (suc (length rest)) Elsewhere nothing_found None rest nothing-fits f in
    let reads : (left : List ℕ) → w.rest ≡ Ok left
    → walk None Zeros (suc (length rest)) false Elsewhere nothing_found None rest ≡ w
    = λ left k. walk-read (suc (length rest)) Elsewhere nothing_found None rest left nothing-fits k in
    let lacks = picture-fault settings w.found frame.0 p.0 f frame.1 p.1 in
    let same = ok-same _ s p.2 in
    grind (arith, some-is, early, fails, reads, lacks, same)

-- Where the meaning has a fault, one is shown.
pub meant_faults_are_shown : (settings : Settings) (bytes : List ℕ) (s : Shown) (f : Fault)
    → shown settings bytes ≡ Ok s → meaning settings bytes ≡ Err f → (g : Fault) × (s.fault ≡ Some g)
meant_faults_are_shown settings bytes s f e m =
    let faultless = faultless_streams_are_meant settings bytes s e in
    grind (arith, faultless)
