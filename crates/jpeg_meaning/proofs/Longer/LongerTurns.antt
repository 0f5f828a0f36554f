-- A longer stream comes by what a shorter one has brought, and goes on from there.
use Rattle.std.proofs.Common.{rules, ◌≡◌, ◌⊎◌, inl, inr, ℕ, zero, suc, ◌*◌, ◌≤◌, Bool, true, false, List, [], ◌∷◌}
use Rattle.std.proofs.Common.{◌++◌, length, refl, sym, ap, ◌∙◌, subst, arith, Ok, Err, Result, Option}
use Rattle.std.proofs.Common.{None, Some, length-append, if◌then◌else◌, slice_get}
use Rattle.std.specs.Prelude.{option_map}
use Rattle.jpeg_bits.specs.Reading.{End, Fault, Malformed, Outcome}
use Rattle.jpeg_bits.specs.Reading as outcomes
use Rattle.jpeg_bits.specs.Intervals.{first_group, other_groups}
use Rattle.jpeg_bits.specs.Marker.{found_or, next_marker}
use Rattle.jpeg_bits.specs.Passes.{Pass, Via}
use Rattle.jpeg_bits.specs.declared.marker.Marker.{Marker}
use Rattle.jpeg_bits.specs.declared.marker.Marker.TheVariants.{SOF, DHT, RST, EOI, SOS, DQT, DNL, DRI, APP, COM}
use Rattle.jpeg_segments.specs.Checks.{needed}
use Rattle.jpeg_segments.specs.Frame.{Frame}
use Rattle.jpeg_segments.specs.ScanHeader.{Scan, sos_at}
use Rattle.jpeg_segments.specs.declared.frame.CodingProcess.{CodingProcess}
use Rattle.jpeg_segments.specs.declared.frame.CodingProcess.TheVariants.{DctProgressive, DctSequential, Lossless}
use Rattle.jpeg_segments.proofs.Codecs.{bind-ok, err-ok, ok-same}
use Rattle.jpeg_lossless.specs.Scans.{rows_of_interval, scan_tables}
use Rattle.jpeg_meaning.specs.declared.before.Before.{Before}
use Rattle.jpeg_meaning.specs.declared.before.Before.TheVariants.{Elsewhere}
use Rattle.jpeg_meaning.specs.Brought.{BlocksTo, Brought, after_interval, blocks_brought, blocks_brought_by, or_first}
use Rattle.jpeg_meaning.specs.Brought.{brought_by, frame_and_scan, has_whole_rows, interval_reached, intervals_reached}
use Rattle.jpeg_meaning.specs.Brought.{samples_brought, samples_brought_by, scan_brought, scan_reached}
use Rattle.jpeg_meaning.specs.Brought.{scan_rows_reached, unbrought}
use Rattle.jpeg_meaning.specs.Found.{Found}
use Rattle.jpeg_meaning.specs.LosslessScans.{LosslessCoding, lossless_codings, mcus_down, way_of}
use Rattle.jpeg_meaning.specs.Order.{Spot, mcu_size, spots_of}
use Rattle.jpeg_meaning.specs.Scans.{Arrays}
use Rattle.jpeg_meaning.specs.ScanSegments.{Coding, after_scan, codings_of, components_of}
use Rattle.jpeg_meaning.specs.ScanSegments.{pass_of, scan_turn, vias_from}
use Rattle.jpeg_meaning.specs.Segments.{Turn, frame_segment}
use Rattle.jpeg_meaning.specs.Stream.{Walked, all_brought, brought_after, end_segment, scan_turn_at, segment_at}
use Rattle.jpeg_meaning.specs.Stream.{turn_at, walk}
use Rattle.jpeg_meaning.specs.WholeRows.{rows_above}
use Rattle.jpeg_meaning.proofs.Partial.Faultless.{walked_after}
use Rattle.jpeg_meaning.proofs.Partial.ReachedIntervals.{next_reached}
use Rattle.jpeg_meaning.proofs.Written.ReadTurns.{needed-some, refused_walk, walked}
use Rattle.jpeg_meaning.specs.LongerStreams.{ComesBy, RowScanGoesOn, ScanGoesOn, after_rows, arrays_of}
use Rattle.jpeg_meaning.specs.LongerStreams.ComesBy.{in_front, in_rows, in_scan}
use Rattle.jpeg_meaning.proofs.Longer.LongerData.{StaysBrought, both, interval-stays}
use Rattle.jpeg_meaning.proofs.Longer.LongerRows.{longer_rows_go_on, scan-rows-stay}
use Rattle.jpeg_meaning.proofs.Longer.LongerScans.{last-stays, longer_data_read_most, next-stays}
use Rattle.jpeg_meaning.proofs.Longer.LongerSegments.{Stays, StaysRead, app-stays, dht-stays, dqt-stays, dri-stays}
use Rattle.jpeg_meaning.proofs.Longer.LongerSegments.{length-stays, marker-stays, skip-stays, sof-stays, sos-stays}
use Rattle.jpeg_meaning.proofs.Longer.LongerSegments.{stays-after, stays-bind, stays-if, stays-read}
use Rattle.jpeg_meaning.proofs.Longer.LongerSegments.Stays.{stays-err, stays-ok}
use Rattle.jpeg_bits.specs.declared.beyond.Beyond.TheVariants.{Nothing}

-- ---- segments

-- what some blocks of a scan add, the rows that they complete, and what longer data add
pub record ScanAdds (before shorter : Found) (rows : Option ℕ) (longer : Found) : Type 0 where
  pub goes : ScanGoesOn before shorter longer
  pub framed : before.said.frame ≡ Some goes.frame
  pub lossy : goes.frame.process ≡ Lossless → ⊥
  pub coded : codings_of before.said goes.frame goes.scan ≡ Ok goes.codings
  pub rows_are : rows ≡ option_map (rows_above goes.frame (components_of goes.codings))
      (slice_get (spots_of goes.frame (components_of goes.codings)) (length goes.reads_on.done))

-- what some rows of MCUs of a lossless scan add, and longer data
pub record RowsAdd (before shorter longer : Found) : Type 0 where
  pub goes : RowScanGoesOn before shorter longer
  pub framed : before.said.frame ≡ Some goes.frame
  pub lossless : goes.frame.process ≡ Lossless

-- the turn that a segment leads to, and the blocks or the rows of MCUs of a scan of which some are brought
pub record TurnGoes (more : List ℕ) (found : Found) (b c : Brought) : Type 0 where
  pub turn : StaysRead more b.turn c.turn
  pub adds : ((b.found ≡ found) × (b.rows ≡ None))
      ⊎ (ScanAdds found b.found b.rows c.found ⊎ RowsAdd found b.found c.found)

plain-goes : (more : List ℕ) (found : Found) (o q : Outcome Turn) → Stays more o q
    → TurnGoes more found (unbrought found o) (unbrought found q)
plain-goes more found o q h = record { turn = stays-read more o q h; adds = inl (refl, refl) }

-- ---- a scan of blocks

-- after an interval
abbrev after_one : (Arrays → List ℕ → BlocksTo (Option Marker)) → Option Spot → Arrays → Result (List ℕ) Fault
    → Arrays × Outcome (Option Marker)
after_one others unread arrays o = both (next_reached others arrays unread o)

-- Where a scan is reached up to its end, it is so of longer data.
pub intervals-stay : (more : List ℕ) (p : Pass) (vias : List Via) (k : ℕ) (spots : List Spot)
    (groups : List (List Spot)) (arrays : Arrays) (bytes : List ℕ)
    → StaysBrought more (both (intervals_reached p vias k spots groups arrays bytes))
    (both (intervals_reached p vias k spots groups arrays (bytes ++ more)))
unfolding intervals_reached
intervals-stay more p vias k spots [] arrays bytes =
    last-stays more (λ (a : Arrays). a) (both (interval_reached p vias spots arrays bytes))
    (both (interval_reached p vias spots arrays (bytes ++ more))) (interval-stays p vias spots arrays bytes more)
intervals-stay more p vias k spots (next ∷ groups) arrays bytes =
    let r = interval_reached p vias spots arrays bytes in
    let s = interval_reached p vias spots arrays (bytes ++ more) in
    let others = intervals_reached p vias (suc k) next groups in
    next-stays more k (after_one others (or_first r.unread next)) (after_one others (or_first s.unread next)) (both r)
    (both s) (λ g. refl) (interval-stays p vias spots arrays bytes more)
    (λ b. intervals-stay more p vias (suc k) next groups r.reached b)
    (outcomes.◌>>=◌ r.rest (after_interval k)) refl

-- the turn that a scan leads to, by what is reached of it
abbrev pub scan_led : {A : Type 0} → Found → (A → Found) → A × Outcome (Option Marker) → Outcome Turn
scan_led found to r = outcomes.◌>>=◌ r.1 (λ m. Ok (scan_turn found (to r.0) m.0, m.1))

led-stays : {A : Type 0} (more : List ℕ) (found : Found) (to : A → Found) (r s : A × Outcome (Option Marker))
    → StaysBrought more r s → StaysRead more (scan_led found to r) (scan_led found to s)
led-stays {A} more found to r s stays = λ x h.
    let m = bind-ok r.1 (λ (m : Option Marker × List ℕ). Ok (scan_turn found (to r.0) m.0, m.1)) x h in
    ap (λ (q : A × Outcome (Option Marker)). scan_led found to q) (stays m.0 m.1)
    ∙ ap (λ (y : Turn × List ℕ). Ok (y.0, y.1 ++ more)) (ok-same _ x m.2)

coded-goes : (more : List ℕ) (found : Found) (frame : Frame) (scan : Scan) (codings : List Coding) (bytes : List ℕ)
    → found.said.frame ≡ Some frame → (frame.process ≡ Lossless → ⊥) → codings_of found.said frame scan ≡ Ok codings
    → TurnGoes more found (blocks_brought_by found frame scan codings bytes)
    (blocks_brought_by found frame scan codings (bytes ++ more))
unfolding blocks_brought_by
coded-goes more found frame scan codings bytes framed lossy coded =
    let p = pass_of scan in
    let n = found.said.restart * mcu_size (components_of codings) in
    let vias = vias_from 0 codings in
    let spots = spots_of frame (components_of codings) in
    let arrays = arrays_of found frame codings in
    let r = scan_reached p n vias spots arrays bytes in
    let s = scan_reached p n vias spots arrays (bytes ++ more) in
    let all = longer_data_read_most p n vias spots arrays bytes more in
    record {
      turn = led-stays more found (after_scan found frame scan codings) (both r) (both s)
          (intervals-stay more p vias 0 (first_group n spots) (other_groups n spots) arrays bytes);
      adds = inr (inl (record {
        goes = record {
          frame = frame;
          scan = scan;
          codings = codings;
          blocks = r.reached;
          more_blocks = s.reached;
          shorter_is = refl;
          longer_is = refl;
          reads_on = all.on;
        };
        framed = framed;
        lossy = lossy;
        coded = coded;
        rows_are = ap (option_map (rows_above frame (components_of codings))) all.next;
      }));
    }

-- what is brought by something that is read, or has a fault
abbrev pub brought_of : {A : Type 0} → Found → (A → Brought) → Result A Fault → Brought
brought_of found by o = elim o as (λ _. Brought) [ Ok x ↦ by x | Err fault ↦ unbrought found (Err fault) ]

read-goes : {A : Type 0} (more : List ℕ) (found : Found) (o q : Result A Fault) (f g : A → Brought) (to : A → A)
    → ((x : A) → o ≡ Ok x → q ≡ Ok (to x)) → ((x : A) → o ≡ Ok x → TurnGoes more found (f x) (g (to x)))
    → TurnGoes more found (brought_of found f o) (brought_of found g q)
read-goes more found (Err k) q f g to stays each =
    record { turn = λ x e. absurd (err-ok k x e); adds = inl (refl, refl) }
read-goes {A} more found (Ok x) q f g to stays each =
    subst (λ (z : Result A Fault). TurnGoes more found (f x) (brought_of found g z)) (sym (stays x refl)) (each x refl)

blocks-go : (more : List ℕ) (found : Found) (frame : Frame) (scan : Scan) (bytes : List ℕ)
    → found.said.frame ≡ Some frame → (frame.process ≡ Lossless → ⊥)
    → TurnGoes more found (blocks_brought found frame scan bytes) (blocks_brought found frame scan (bytes ++ more))
unfolding blocks_brought
blocks-go more found frame scan bytes framed lossy =
    let o = codings_of found.said frame scan in
    read-goes more found o o (λ codings. blocks_brought_by found frame scan codings bytes)
    (λ codings. blocks_brought_by found frame scan codings (bytes ++ more)) (λ codings. codings) (λ codings e. e)
    (λ codings coded. coded-goes more found frame scan codings bytes framed lossy coded)

-- ---- a scan of a lossless frame

coded-rows-go : (more : List ℕ) (found : Found) (frame : Frame) (scan : Scan) (codings : List LosslessCoding)
    (bytes : List ℕ) → found.said.frame ≡ Some frame → frame.process ≡ Lossless
    → TurnGoes more found (samples_brought_by found frame scan codings bytes)
    (samples_brought_by found frame scan codings (bytes ++ more))
unfolding samples_brought_by
coded-rows-go more found frame scan codings bytes framed lossless =
    let w = way_of frame scan.predictor scan.point_transform codings in
    let n = rows_of_interval w.wide (mcus_down frame codings) found.said.restart in
    let rows = scan_tables w (mcus_down frame codings) in
    let r = scan_rows_reached 0 (first_group n rows) (other_groups n rows) bytes in
    let s = scan_rows_reached 0 (first_group n rows) (other_groups n rows) (bytes ++ more) in
    record {
      turn = led-stays more found (after_rows found frame scan codings) r s
          (scan-rows-stay more 0 (first_group n rows) (other_groups n rows) bytes);
      adds = inr (inr (record {
        goes = record {
          frame = frame;
          scan = scan;
          codings = codings;
          rows = r.0;
          more_rows = s.0;
          shorter_is = refl;
          longer_is = refl;
          go_on = longer_rows_go_on 0 (first_group n rows) (other_groups n rows) bytes more;
        };
        framed = framed;
        lossless = lossless;
      }));
    }

samples-go : (more : List ℕ) (found : Found) (frame : Frame) (scan : Scan) (bytes : List ℕ)
    → found.said.frame ≡ Some frame → frame.process ≡ Lossless
    → TurnGoes more found (samples_brought found frame scan bytes) (samples_brought found frame scan (bytes ++ more))
unfolding samples_brought
samples-go more found frame scan bytes framed lossless =
    let o = lossless_codings found.said.huffman.dc frame scan.components scan.dc_destinations in
    read-goes more found o o (by bytes) (by (bytes ++ more)) (λ codings. codings) (λ codings e. e)
    (λ codings coded. whole codings (has_whole_rows found frame scan codings))
  where
    by : List ℕ → List LosslessCoding → Brought
    by bytes codings =
        if has_whole_rows found frame scan codings then samples_brought_by found frame scan codings bytes
        else unbrought found (Err Malformed)

    whole : (codings : List LosslessCoding) (b : Bool) → TurnGoes more found
        (if b then samples_brought_by found frame scan codings bytes else unbrought found (Err Malformed))
        (if b then samples_brought_by found frame scan codings (bytes ++ more) else unbrought found (Err Malformed))
    whole codings true = coded-rows-go more found frame scan codings bytes framed lossless
    whole codings false = plain-goes more found _ _ (stays-err Malformed)

by-goes : (more : List ℕ) (process : CodingProcess) (found : Found) (frame : Frame) (scan : Scan) (bytes : List ℕ)
    → found.said.frame ≡ Some frame → frame.process ≡ process
    → TurnGoes more found (brought_by process found frame scan bytes)
    (brought_by process found frame scan (bytes ++ more))
by-goes more Lossless found frame scan bytes framed is = samples-go more found frame scan bytes framed is
by-goes more DctSequential found frame scan bytes framed is =
    blocks-go more found frame scan bytes framed (λ e. absurd cc)
by-goes more DctProgressive found frame scan bytes framed is =
    blocks-go more found frame scan bytes framed (λ e. absurd cc)

-- ---- a turn

-- the frame and the header of a scan, and the bytes after it
abbrev pub FoundHeader : Type 0
FoundHeader = Frame × (Scan × List ℕ)

abbrev pub with_frame : Frame → Scan × List ℕ → Result FoundHeader Fault
with_frame frame scan = Ok (frame, scan)

abbrev header_by : List ℕ → Frame → Result FoundHeader Fault
header_by bytes frame = outcomes.◌>>=◌ (sos_at frame bytes) (with_frame frame)

abbrev later_header : List ℕ → FoundHeader → FoundHeader
later_header more x = (x.0, (x.1.0, x.1.1 ++ more))

pub framed-stays : (more : List ℕ) (found : Found) (bytes : List ℕ) (x : FoundHeader)
    → frame_and_scan found bytes ≡ Ok x → frame_and_scan found (bytes ++ more) ≡ Ok (later_header more x)
framed-stays more found bytes x h = go (needed found.said.frame) h
  where
    at : (frame : Frame) → header_by bytes frame ≡ Ok x → header_by (bytes ++ more) frame ≡ Ok (later_header more x)
    at frame h =
        let s = bind-ok (sos_at frame bytes) (with_frame frame) x h in
        ap (λ (o : Outcome Scan). outcomes.◌>>=◌ o (with_frame frame))
        (stays-read more _ _ (sos-stays more frame bytes) s.0 s.1)
        ∙ ap (λ (y : FoundHeader). Ok (later_header more y)) (ok-same (frame, s.0) x s.2)

    go : (o : Result Frame Fault) → outcomes.◌>>=◌ o (header_by bytes) ≡ Ok x
        → outcomes.◌>>=◌ o (header_by (bytes ++ more)) ≡ Ok (later_header more x)
    go (Ok frame) h = at frame h
    go (Err g) h = absurd (err-ok g x h)

framed-of : (found : Found) (bytes : List ℕ) (x : FoundHeader) → frame_and_scan found bytes ≡ Ok x
    → found.said.frame ≡ Some x.0
framed-of found bytes x e =
    let f = bind-ok (needed found.said.frame) (header_by bytes) x e in
    let s = bind-ok (sos_at f.0 bytes) (with_frame f.0) x f.2 in
    needed-some found.said.frame f.0 f.1 ∙ ap (λ (y : FoundHeader). Some y.0) (ok-same (f.0, s.0) x s.2)

-- what a scan brings, by its header
abbrev pub by_header : Found → Result FoundHeader Fault → Brought
by_header found o = brought_of found (λ (x : FoundHeader). brought_by x.0.process found x.0 x.1.0 x.1.1) o

scan-goes : (more : List ℕ) (found : Found) (bytes : List ℕ)
    → TurnGoes more found (scan_brought found bytes) (scan_brought found (bytes ++ more))
unfolding scan_brought
scan-goes more found bytes =
    let by : FoundHeader → Brought = λ x. brought_by x.0.process found x.0 x.1.0 x.1.1 in
    read-goes more found (frame_and_scan found bytes) (frame_and_scan found (bytes ++ more)) by by (later_header more)
    (framed-stays more found bytes)
    (λ x e. by-goes more x.0.process found x.0 x.1.0 x.1.1 (framed-of found bytes x e) refl)

-- a segment that is no scan
pub segment-stays : (more : List ℕ) (m : Marker) (before : Before) (found : Found) (bytes : List ℕ)
    → Stays more (segment_at m before found bytes) (segment_at m before found (bytes ++ more))
unfolding segment_at frame_segment end_segment
segment-stays more (SOF n) before found bytes =
    search (rules, stays-if, stays-err, stays-bind, sof-stays, stays-after, stays-ok) depth 12
segment-stays more DQT before found bytes = search (rules, stays-bind, dqt-stays, stays-ok)
segment-stays more DHT before found bytes = search (rules, stays-bind, dht-stays, stays-ok)
segment-stays more EOI before found bytes = search (rules, stays-if, stays-ok, stays-err)
segment-stays more DRI before found bytes = search (rules, stays-bind, dri-stays, stays-ok)
segment-stays more (APP n) before found bytes = search (rules, stays-bind, app-stays, stays-ok)
segment-stays more COM before found bytes = search (rules, stays-bind, length-stays, skip-stays, stays-ok)
segment-stays more (RST n) Elsewhere found bytes = stays-err _
segment-stays more (RST n) before found bytes = stays-ok _ bytes
segment-stays more DNL Elsewhere found bytes = stays-err _
segment-stays more m before found bytes = stays-err _

segment-goes : (more : List ℕ) (m : Marker) (before : Before) (found : Found) (bytes : List ℕ)
    → TurnGoes more found (brought_after Nothing m before found bytes)
    (brought_after Nothing m before found (bytes ++ more))
unfolding brought_after scan_turn_at
segment-goes more SOS before found bytes = scan-goes more found bytes
segment-goes more m before found bytes = plain-goes more found _ _ (segment-stays more m before found bytes)

pub turn-goes : (more : List ℕ) (before : Before) (found : Found) (met : Option Marker) (bytes : List ℕ)
    → TurnGoes more found (turn_at Nothing before found met bytes) (turn_at Nothing before found met (bytes ++ more))
unfolding turn_at
turn-goes more before found met bytes =
    let by : Marker × List ℕ → Brought = λ m. brought_after Nothing m.0 before found m.1 in
    read-goes more found (found_or met bytes (next_marker bytes))
    (found_or met (bytes ++ more) (next_marker (bytes ++ more))) by by (λ m. (m.0, m.1 ++ more))
    (stays-read more _ _ (marker-stays more met bytes)) (λ m e. segment-goes more m.0 before found m.1)

-- ---- the walk

-- after a turn of this that led so
abbrev pub walk_on : ℕ → Brought → Outcome Turn → Walked
walk_on turns b o = elim o [
  | Err fault ↦ refused_walk false b fault
  | Ok t ↦ if t.0.ended then walked t.0.found (Ok t.1)
      else walk None Nothing turns false t.0.before t.0.found t.0.met t.1
]

-- how a longer stream goes on where a shorter one has stopped
pub data StopsAt (more : List ℕ) (brought : Found) (rows : Option ℕ) (longer : Walked) : Type 0 where
  at_front : (turns : ℕ) (before : Before) (met : Option Marker) (left : List ℕ)
      → longer ≡ walk None Nothing turns false before brought met (left ++ more) → rows ≡ None
      → StopsAt more brought rows longer
  at_scan : (turns : ℕ) (before : Before) (last : Found) (met : Option Marker) (left : List ℕ)
      → longer ≡ walk None Nothing (suc turns) false before last met (left ++ more)
      → ScanAdds last brought rows (turn_at Nothing before last met (left ++ more)).found
      → StopsAt more brought rows longer
  at_rows : (turns : ℕ) (before : Before) (last : Found) (met : Option Marker) (left : List ℕ)
      → longer ≡ walk None Nothing (suc turns) false before last met (left ++ more)
      → RowsAdd last brought (turn_at Nothing before last met (left ++ more)).found
      → StopsAt more brought rows longer

-- what a longer stream brings, by what a shorter one has brought
record Goes (more : List ℕ) (w v : Walked) : Type 0 where
  ended : (rest : List ℕ) → w.rest ≡ Ok rest → v ≡ record w { rest = Ok (rest ++ more) }
  stopped : (g : Fault) → w.rest ≡ Err g → StopsAt more w.found w.rows v

ended-goes : (more : List ℕ) (found : Found) (rest : List ℕ)
    → Goes more (walked found (Ok rest)) (walked found (Ok (rest ++ more)))
ended-goes more found rest = record {
  ended = λ left e. ap (λ (l : List ℕ). walked found (Ok (l ++ more))) (ok-same rest left e);
  stopped = λ g e. absurd (err-ok g rest (sym e));
}

stopped-goes : (more : List ℕ) (found : Found) (rows : Option ℕ) (g : Fault) (v : Walked)
    → StopsAt more found rows v
    → Goes more (record { found = found; rows = rows; exceeded = false; rest = Err g }) v
stopped-goes more found rows g v c =
    record { ended = λ rest e. absurd (err-ok g rest e); stopped = λ f e. c }

-- what the turns after one do
abbrev Others : List ℕ → ℕ → ℕ → Type 0
Others more n k =
    (before : Before) (found : Found) (met : Option Marker) (bytes : List ℕ)
    → Goes more (walk None Nothing n false before found met bytes)
    (walk None Nothing k false before found met (bytes ++ more))

on-goes : (more : List ℕ) (n k : ℕ) (t : Turn × List ℕ) → Others more n k → (ended : Bool)
    → Goes more
    (if ended then walked t.0.found (Ok t.1) else walk None Nothing n false t.0.before t.0.found t.0.met t.1)
    (if ended then walked t.0.found (Ok (t.1 ++ more))
    else walk None Nothing k false t.0.before t.0.found t.0.met (t.1 ++ more))
on-goes more n k t others true = ended-goes more t.0.found t.1
on-goes more n k t others false = others t.0.before t.0.found t.0.met t.1

-- where the turn has a fault
fault-goes : (more : List ℕ) (k : ℕ) (before : Before) (found some : Found) (rows : Option ℕ) (met : Option Marker)
    (bytes : List ℕ) (w : Walked) → w ≡ walk None Nothing (suc k) false before found met (bytes ++ more)
    → ((some ≡ found) × (rows ≡ None))
    ⊎ (ScanAdds found some rows (turn_at Nothing before found met (bytes ++ more)).found
    ⊎ RowsAdd found some (turn_at Nothing before found met (bytes ++ more)).found) → StopsAt more some rows w
fault-goes more k before found some rows met bytes w whole (inl same) =
    at_front (suc k) before met bytes
    (whole ∙ ap (λ (f : Found). walk None Nothing (suc k) false before f met (bytes ++ more)) (sym same.0)) same.1
fault-goes more k before found some rows met bytes w whole (inr (inl adds)) =
    at_scan k before found met bytes whole adds
fault-goes more k before found some rows met bytes w whole (inr (inr adds)) =
    at_rows k before found met bytes whole adds

after-goes : (more : List ℕ) (n k : ℕ) (before : Before) (found : Found) (met : Option Marker) (bytes : List ℕ)
    (b : Brought) → TurnGoes more found b (turn_at Nothing before found met (bytes ++ more)) → Others more n k
    → walked_after Nothing k (turn_at Nothing before found met (bytes ++ more))
    ≡ walk None Nothing (suc k) false before found met (bytes ++ more)
    → (o : Outcome Turn) → b.turn ≡ o
    → Goes more (walk_on n b o) (walked_after Nothing k (turn_at Nothing before found met (bytes ++ more)))
after-goes more n k before found met bytes b t others whole (Err g) e =
    stopped-goes more b.found b.rows g (walked_after Nothing k (turn_at Nothing before found met (bytes ++ more)))
    (fault-goes more k before found b.found b.rows met bytes _ whole t.adds)
after-goes more n k before found met bytes b t others whole (Ok x) e =
    let c = turn_at Nothing before found met (bytes ++ more) in
    subst (λ (o : Outcome Turn). Goes more (walk_on n b (Ok x)) (walk_on k c o)) (sym (t.turn x e))
    (on-goes more n k x others x.0.ended)

walk-goes : (more : List ℕ) (n k : ℕ) → n ≤ k → (before : Before) (found : Found) (met : Option Marker) (bytes : List ℕ)
    → Goes more (walk None Nothing n false before found met bytes)
    (walk None Nothing k false before found met (bytes ++ more))
unfolding walk
walk-goes more zero k h before found met bytes =
    stopped-goes more found None End _ (at_front k before met bytes refl refl)
walk-goes more (suc n) zero h before found met bytes = absurd (omega arith)
walk-goes more (suc n) (suc k) h before found met bytes =
    let b = turn_at Nothing before found met bytes in
    after-goes more n k before found met bytes b (turn-goes more before found met bytes)
    (λ before found met bytes. walk-goes more n k (omega arith) before found met bytes) refl b.turn refl

all-goes : (found : Found) (bytes more : List ℕ)
    → Goes more (all_brought None found bytes) (all_brought None found (bytes ++ more))
all-goes found bytes more =
    walk-goes more (suc (length bytes)) (suc (length (bytes ++ more))) (omega (arith, length-append bytes more))
    Elsewhere found None bytes

-- After the end of the image more bytes change nothing.
pub ended_streams_stay : (found : Found) (bytes more rest : List ℕ) → (all_brought None found bytes).rest ≡ Ok rest
    → all_brought None found (bytes ++ more) ≡ record (all_brought None found bytes) { rest = Ok (rest ++ more) }
ended_streams_stay found bytes more rest e = (all-goes found bytes more).ended rest e

-- how a longer stream goes on where a shorter one has a fault
pub longer_streams_stop : (found : Found) (bytes more : List ℕ) (fault : Fault)
    → (all_brought None found bytes).rest ≡ Err fault
    → StopsAt more (all_brought None found bytes).found (all_brought None found bytes).rows
    (all_brought None found (bytes ++ more))
longer_streams_stop found bytes more fault e = (all-goes found bytes more).stopped fault e

-- A longer stream comes by what a shorter one has brought.
pub longer_streams_go_on : (found : Found) (bytes more : List ℕ) (fault : Fault)
    → (all_brought None found bytes).rest ≡ Err fault
    → ComesBy more (all_brought None found bytes).found (all_brought None found (bytes ++ more))
longer_streams_go_on found bytes more fault e =
    go (all_brought None found bytes).found (all_brought None found bytes).rows
    (all_brought None found (bytes ++ more)) (longer_streams_stop found bytes more fault e)
  where
    go : (brought : Found) (rows : Option ℕ) (longer : Walked) → StopsAt more brought rows longer
        → ComesBy more brought longer
    go brought rows longer (at_front turns before met left is none) = in_front turns before met left is
    go brought rows longer (at_scan turns before last met left is adds) =
        in_scan turns before last met left is adds.goes
    go brought rows longer (at_rows turns before last met left is adds) =
        in_rows turns before last met left is adds.goes
