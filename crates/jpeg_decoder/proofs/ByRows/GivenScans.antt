-- A scan of all components of a sequential frame whose lines are given as it is read: what is found after it.
use Rattle.std.proofs.Common.{◌≡◌, ℕ, ◌*◌, List, [], length, replicate, Bool, true, false, Option, Some}
use Rattle.std.proofs.Common.{Result, Ok, Err, refl, sym, ap, ap₂, ◌∙◌, subst, arith, ◌<◌}
use Rattle.std.proofs.lemmas.List.{length-replicate}
use Rattle.std.proofs.lemmas.Result.{err_from_is_err_and}
use Rattle.std.specs.Prelude.{slice_index_or, All, IfErr, IfOk, IfSome, IsErrAnd, OnOk, if◌then◌else◌}
use Rattle.std.proofs.lemmas.List.Elements.{recursion_from_All}
use Rattle.std.specs.List.{concat, list_all}
use Rattle.jpeg_bits.specs.Entropy.{Ahead, Takes, fresh, marker_from, upcoming}
use Rattle.jpeg_bits.specs.Passes.{Pass, whole_pass}
use Rattle.jpeg_bits.specs.Reading.{Answers, Fault, Outcome, ◌>>=◌}
use Rattle.jpeg_bits.specs.Stream.{Stream}
use Rattle.jpeg_bits.specs.declared.beyond.Beyond.TheVariants.{Zeros}
use Rattle.jpeg_bits.specs.declared.error.Error.{Error}
use Rattle.jpeg_bits.specs.declared.error.Error.TheVariants.{OutOfMemory}
use Rattle.jpeg_bits.specs.declared.marker.Marker.{Marker}
use Rattle.jpeg_bits.proofs.Loops.{Continues-answers}
use Rattle.jpeg_segments.proofs.Codecs.{ok-same}
use Rattle.jpeg_segments.specs.Frame.{Component, Frame}
use Rattle.jpeg_segments.specs.ScanHeader.{IsBandOf, IsRising, IsScanOf, Scan}
use Rattle.jpeg_segments.specs.declared.frame.CodingProcess.{CodingProcess}
use Rattle.jpeg_segments.specs.declared.frame.CodingProcess.TheVariants.{DctSequential}
use Rattle.jpeg_pixels.specs.declared.color_convert.ColorConvert.{ColorConvert}
use Rattle.jpeg_meaning.specs.Found.{Found, Said, none_finished}
use Rattle.jpeg_meaning.specs.InTurn.{AreArrays, counted_at_start}
use Rattle.jpeg_meaning.specs.Order.{mcu_size, spots_of}
use Rattle.jpeg_meaning.specs.Scans.{Arrays, arrays_at, zero_arrays}
use Rattle.jpeg_meaning.specs.ScanSegments.{Coding, arrays_before, blocks_after, components_of, is_progressive}
use Rattle.jpeg_meaning.specs.ScanSegments.{once_scanned, pass_of, put_arrays, scan_before, vias_from, with_arrays}
use Rattle.jpeg_meaning.specs.Segments.{Turn}
use Rattle.jpeg_meaning.specs.Sound.{ArePlanes, IsDecodedFrame, IsSound, IsUnread}
use Rattle.jpeg_meaning.specs.declared.before.Before.{Before}
use Rattle.jpeg_meaning.specs.declared.before.Before.TheVariants.{FirstScan, LaterScan}
use Rattle.jpeg_meaning.proofs.Written.BroughtLevels.{sequential-arrays}
use Rattle.jpeg_meaning.proofs.Written.ReadTurns.{codings-indices}
use Rattle.jpeg_decoder.specs.ByRows.{HaveRows, lines_from, turn_without, turns_without, without_planes}
use Rattle.jpeg_decoder.specs.Givers.{AreFound, GivesScan, planes_then}
use Rattle.jpeg_pixels.specs.Pictures.{Source, sources_of}
use Rattle.jpeg_decoder.specs.Reaching.{IsEndOf, turn_after}
use Rattle.jpeg_decoder.specs.Scanning.{BlockScan, scan_vias}
use Rattle.jpeg_decoder.specs.Steps.{IsDct, IsReadable, IsScanBy, after_all, blocks_read, scan_data, with_decoded}
use Rattle.jpeg_decoder.specs.Steps.{with_planes}
use Rattle.jpeg_decoder.specs.declared.scan.decoded.Decoded.{Decoded}
use Rattle.jpeg_decoder.specs.Strips.{no_samples, planes_at, planes_by, planes_by_rows, planes_in_order, strips_from}
use Rattle.jpeg_decoder.specs.Walk.{IsOrderOf, walks_of_rows}
use Rattle.jpeg_decoder.specs.declared.scan.order.ScanOrder.{ScanOrder}
use Rattle.jpeg_decoder.specs.declared.stream.state.Step.{Step}
use Rattle.jpeg_decoder.proofs.ByRows.GivenRows.{have-none}
use Rattle.jpeg_decoder.proofs.ByRows.MarkedScans.{AreMarked, IsInOrderFrom, arrays-without, marks_of, order-components}
use Rattle.jpeg_decoder.proofs.ByRows.MarkedScans.{planes-found, planes-without, rising-order}
use Rattle.jpeg_decoder.proofs.ByRows.Windows.{have-count}
use Rattle.jpeg_decoder.proofs.Partial.EndedScans.{reads-blocks, whole-after}
use Rattle.jpeg_decoder.proofs.Partial.ReachedScans.{BringsNone}
use Rattle.jpeg_decoder.proofs.Scans.ScanData.{answers-err, arrays-by-planes, of-frame, zeros-read}
use Rattle.jpeg_decoder.proofs.Scans.ReadableScans.{decoded-few}
use Rattle.jpeg_decoder.proofs.Scans.ScanReads.{after_data, after_codings, answers-as, blocks-sound, scan_turn}
use Rattle.jpeg_decoder.proofs.Strips.StripScans.{Planes, by-order, marked, rows-refused, scan-by-rows, scan-ended}

-- ---- the data of a scan

-- planes, and the restart markers after their scan
abbrev pub then_passed : (Planes × Option Marker) × List ℕ → Outcome (Planes × Option Marker)
then_passed r = marked r.0.0 (after_all r.0.1 r.1)

planes-first : (frame : Frame) (s : BlockScan) (bytes : List ℕ)
    → planes_then frame s bytes ≡ (planes_by_rows s.pass (scan_vias s) s.restart_interval frame s.codings
    (no_samples s.codings) bytes >>= then_passed)
unfolding planes_then
planes-first frame s bytes = refl

marked-answers : (planes : Planes) (read : List ℕ → Outcome (Option Marker)) (mid new : Stream)
    (r : Result (Option Marker) Error) → Answers (λ (m : Option Marker). m) read mid r new
    → Answers (λ (m : Option Marker). (planes, m)) (λ bytes. marked planes (read bytes)) mid r new
marked-answers planes read mid new (Ok m) a = (a.0, λ k. ((a.1 k).0, ap (marked planes) (a.1 k).1))
marked-answers planes read mid new (Err e) a =
    answers-err (λ (m : Option Marker). m) (λ (m : Option Marker). (planes, m)) read
    (λ bytes. marked planes (read bytes))
    mid new e (λ f is. ap (marked planes) is) a

-- The rows of MCUs were read, and the restart markers after them.
pub passed-planes : (planes : Planes) (first : List ℕ → Outcome (Planes × Option Marker)) (old mid new : Stream)
    (read reached : Result (Option Marker) Error)
    → IfOk read (λ met. Answers (λ (m : Option Marker). m) (after_all met) mid reached new)
    → IfErr read (λ e. (reached ≡ Err e) × (new ≡ mid))
    → Answers (λ (m : Option Marker). (planes, m)) first old read mid
    → Answers (λ (m : Option Marker). (planes, m)) (λ bytes. first bytes >>= then_passed) old reached new
passed-planes planes first old mid new (Ok met) reached passed refused a =
    Continues-answers (λ (m : Option Marker). (planes, m)) (λ bytes. first bytes >>= then_passed)
    (λ bytes. marked planes (after_all met bytes)) old mid new reached
    (a.0, λ k. ((a.1 k).0, ap (λ (o : Outcome (Planes × Option Marker)). o >>= then_passed) (a.1 k).1))
    (marked-answers planes (after_all met) mid new reached passed)
passed-planes planes first old mid new (Err e) reached passed refused a =
    rw (refused.0, refused.1)
    (answers-err (λ (m : Option Marker). (planes, m)) (λ (m : Option Marker). (planes, m)) first
    (λ bytes. first bytes >>= then_passed) old mid e
    (λ f is. ap (λ (o : Outcome (Planes × Option Marker)). o >>= then_passed) is) a)

module _ (frame : Frame) (s : BlockScan) (o : ScanOrder) (is : IsOrderOf frame (components_of s.codings)
    s.restart_interval o) (old : Stream) (planes : Planes) (b : Ahead) where
  abbrev in_order : List ℕ → Outcome (Planes × Option Marker)
  in_order = planes_in_order s.pass (scan_vias s) o.interval s.codings (walks_of_rows o) (no_samples s.codings)

  abbrev by_rows : List ℕ → Outcome (Planes × Option Marker)
  by_rows = planes_by_rows s.pass (scan_vias s) s.restart_interval frame s.codings (no_samples s.codings)

  abbrev Rows : {X : Type 0} → Result X Error → Stream → Type 0
  Rows r new = Takes (λ _. planes) (strips_from s.pass (scan_vias s) o.interval s.codings (walks_of_rows o)
      (no_samples s.codings) (counted_at_start o.interval [])) fresh old r b new

  as-rows : (r : Result (Option Marker) Error) (new : Stream)
      → Answers (λ (m : Option Marker). (planes, m)) in_order old r new
      → Answers (λ (m : Option Marker). (planes, m)) by_rows old r new
  as-rows r new = answers-as (λ (m : Option Marker). (planes, m)) in_order by_rows old new r
      (by-order frame s.codings s.pass (scan_vias s) s.restart_interval o (no_samples s.codings) old.bytes is)

  -- a row is refused
  pub then-refused : (new : Stream) (e : Error) → Rows {X = Unit {0}} (Err e) new
      → Answers (λ (m : Option Marker). (planes, m)) (planes_then frame s) old (Err e) new
  then-refused new e q =
      answers-as (λ (m : Option Marker). (planes, m)) (λ bytes. by_rows bytes >>= then_passed)
      (planes_then frame s) old new
      (Err e) (planes-first frame s old.bytes)
      (passed-planes planes by_rows old new new (Err e) (Err e) tt (refl, refl)
      (as-rows (Err e) new
      (rows-refused s.codings s.pass (scan_vias s) o.interval (walks_of_rows o) (no_samples s.codings)
      old (λ (u : Unit {0}). planes) (λ (m : Option Marker). (planes, m)) b new e q)))

  -- all were read
  pub then-ended : (cur mid new : Stream) (met reached : Result (Option Marker) Error)
      → Rows {X = Unit {0}} (Ok tt) cur
      → Answers (λ (m : Option Marker). m) (λ bytes. marker_from (upcoming b bytes)) cur met
      mid
      → IfOk met (λ m. Answers (λ (m : Option Marker). m) (after_all m) mid reached new)
      → IfErr met (λ e. (reached ≡ Err e) × (new ≡ mid))
      → Answers (λ (m : Option Marker). (planes, m)) (planes_then frame s) old reached new
  then-ended cur mid new met reached q taken passed refused =
      answers-as (λ (m : Option Marker). (planes, m)) (λ bytes. by_rows bytes >>= then_passed)
      (planes_then frame s) old new
      reached (planes-first frame s old.bytes)
      (passed-planes planes by_rows old mid new met reached passed refused
      (as-rows met mid (scan-ended s.codings s.pass (scan_vias s) o.interval (walks_of_rows o)
      (no_samples s.codings) old
      (λ (u : Unit {0}). planes) b cur mid tt met q taken)))

pub on-ok : {X P : Type 0} (r : Result X Error) → P → OnOk r P
on-ok (Ok x) h = h
on-ok (Err e) h = tt

memory-answers : {X Y : Type 0} (view : X → Y) (read : List ℕ → Outcome Y) (old : Stream) (e : Error) → e ≡ OutOfMemory
    → Answers view read old (Err e) old
memory-answers view read old e is = grind arith

module _ (frame : Frame) (s : BlockScan) (o : ScanOrder) (old : Stream) (planes : Planes) (b : Ahead) (cur : Stream)
    (is : IsOrderOf frame (components_of s.codings) s.restart_interval o) where
  abbrev pub RowsTaken : Result (Unit {0}) Error → Type 0
  RowsTaken r = Takes (λ (u : Unit {0}). planes) (strips_from s.pass (scan_vias s) o.interval s.codings
      (walks_of_rows o) (no_samples s.codings) (counted_at_start o.interval [])) fresh old r b cur

  -- A row of MCUs is refused, or memory ran out.
  pub data-lacking : (e : Error) → RowsTaken (Err e)
      → Answers (λ (m : Option Marker). (planes, m)) (planes_then frame s) old (Err e) cur
  data-lacking e h = then-refused frame s o is old planes b cur e h

  -- All rows were read.
  pub data-ended : (mid new : Stream) (met reached : Result (Option Marker) Error) → RowsTaken (Ok tt)
      → Answers (λ (m : Option Marker). m) (λ bytes. marker_from (upcoming b bytes)) cur met mid
      → IfOk met (λ m. Answers (λ (m : Option Marker). m) (after_all m) mid reached new)
      → IfErr met (λ e. (reached ≡ Err e) × (new ≡ mid))
      → Answers (λ (m : Option Marker). (planes, m)) (planes_then frame s) old reached new
  data-ended mid new met reached h marker passed refused =
      then-ended frame s o is old planes b cur mid new met reached h marker passed refused

-- ---- what is found after the data

-- what was found, where a scan was read and no blocks are kept
abbrev pub scanned : Found → Found
scanned found = record (once_scanned found) { kept = [] }

-- with the planes that were read
abbrev pub with_data : Found → Pass → List Coding → (Planes × Option Marker) × List ℕ → Outcome (Found × Option Marker)
with_data found p codings r = Ok ((with_planes p codings r.0.0 (scanned found), r.0.1), r.1)

-- the turn that they lead to
abbrev pub scan_made : Found → Pass → List Coding → (Planes × Option Marker) × List ℕ → Outcome Turn
scan_made found p codings r = Ok (
  record {
    found = with_planes p codings r.0.0 (scanned found);
    before = scan_before found;
    met = r.0.1;
    ended = false;
  },
  r.1,
)

abbrev arrays_added : Found → Frame → Pass → List Coding → (Arrays × Option Marker) × List ℕ
    → Outcome (Found × Option Marker)
arrays_added found frame p codings r = Ok (
  (with_arrays p codings r.0.0 (record (once_scanned found) { kept = blocks_after found frame codings r.0.0 }), r.0.1),
  r.1,
)

abbrev planes_made : List Coding → (Arrays × Option Marker) × List ℕ → Outcome (Planes × Option Marker)
planes_made codings r = Ok ((planes_by codings r.0.0, r.0.1), r.1)

-- what is found after the data, by what was marked
pub marked-found : (p : Pass) (codings : List Coding) (planes : Planes) (found next : Found)
    → ((arrays : Arrays) → length arrays ≡ length codings → next ≡ without_planes (with_arrays p codings arrays found))
    → length planes ≡ length codings → next ≡ without_planes (with_planes p codings planes found)
marked-found p codings planes found next marks long =
    let none : Arrays = replicate (length codings) [] in
    let count : length none ≡ length codings = length-replicate (length codings) [] in
    marks none count ∙ arrays-without p codings none found count ∙ sym (planes-without p codings planes found long)

-- A scan of a sequential frame that was found.
module _ (found : Found) (frame : Frame) (header : Scan) (s : BlockScan) (framed : found.said.frame ≡ Some frame)
    (sequential : frame.process ≡ DctSequential) (by : IsScanBy found.said frame header s) (ready : IsReadable frame s)
  where
    plain : is_progressive frame.process ≡ false
    plain = ap is_progressive sequential

    none-kept : (arrays : Arrays) → ◌≡◌ {A = Found} (record (once_scanned found) {
      kept = blocks_after found frame s.codings arrays;
    }) (scanned found)
    none-kept arrays = ap (λ (b : Bool). record (once_scanned found) {
      kept = if b then put_arrays s.codings arrays (arrays_before found frame) else [];
    }) plain

    abbrev rows_read : List ℕ → Outcome (Planes × Option Marker)
    rows_read = planes_by_rows s.pass (scan_vias s) s.restart_interval frame s.codings (no_samples s.codings)

    abbrev arrays_from : Arrays → List ℕ → Outcome (Arrays × Option Marker)
    arrays_from arrays =
        arrays_at s.pass (found.said.restart * mcu_size (components_of s.codings)) (vias_from 0 s.codings)
        (spots_of frame (components_of s.codings)) arrays

    added : (o : Outcome (Arrays × Option Marker))
        → (o >>= arrays_added found frame s.pass s.codings)
        ≡ ((o >>= planes_made s.codings) >>= with_data found s.pass s.codings)
    added (Ok r) = ap (λ (f : Found). Ok ((f, r.0.1), r.1))
        (ap (with_arrays s.pass s.codings r.0.0) (none-kept r.0.0)
        ∙ arrays-by-planes s.pass s.codings r.0.0 (scanned found))
    added (Err e) = refl

    at-once : (bytes : List ℕ)
        → planes_at s.pass found.said.restart (vias_from 0 s.codings) frame s.codings bytes ≡ rows_read bytes
    at-once bytes = scan-by-rows frame s.codings s.pass found.said.restart
        (vias_from 0 s.codings) bytes ready.some ready.fits
        ∙ ap (λ (n : ℕ). planes_by_rows s.pass (vias_from 0 s.codings) n frame s.codings (no_samples s.codings) bytes)
        (sym by.restart)

    data-read : (bytes : List ℕ)
        → scan_data found frame s.pass s.codings bytes ≡ (rows_read bytes >>= with_data found s.pass s.codings)
    unfolding scan_data planes_at
    data-read bytes =
        ap (λ (arrays : Arrays). arrays_from arrays bytes >>= arrays_added found frame s.pass s.codings)
        (zeros-read found frame s.codings plain (of-frame frame s.codings ready.of_frame))
        ∙ added (arrays_from (zero_arrays (components_of s.codings)) bytes)
        ∙ ap (λ (o : Outcome (Planes × Option Marker)). o >>= with_data found s.pass s.codings) (at-once bytes)

    by-data : (bytes : List ℕ)
        → blocks_read found frame header bytes ≡ (scan_data found frame s.pass s.codings bytes >>= after_data)
    unfolding blocks_read
    by-data bytes =
        ap (λ (o : Result (List Coding) Fault). o >>=
        (λ (codings : List Coding). after_codings found frame (pass_of header)
        codings bytes)) by.codings
        ∙ ap (λ (p : Pass). after_codings found frame p s.codings bytes) (sym by.pass)

    made-after : (r : (Planes × Option Marker) × List ℕ) (q : Outcome (Option Marker))
        → ((q >>= (λ (met : Option Marker × List ℕ).
        Ok ((with_planes s.pass s.codings r.0.0 (scanned found), met.0), met.1))) >>= scan_turn found)
        ≡ (marked r.0.0 q >>= scan_made found s.pass s.codings)
    made-after r (Ok m) = refl
    made-after r (Err f) = refl

    made : (o : Outcome (Planes × Option Marker))
        → (((o >>= with_data found s.pass s.codings) >>= after_data) >>= scan_turn found)
        ≡ ((o >>= then_passed) >>= scan_made found s.pass s.codings)
    made (Ok r) = made-after r (after_all r.0.1 r.1)
    made (Err f) = refl

    -- A turn is made of the planes that are read.
    pub turn-read : (bytes : List ℕ)
        → (turn_after Zeros found header bytes).turn ≡ (planes_then frame s bytes >>= scan_made found s.pass s.codings)
    turn-read bytes =
        whole-after found header bytes
        ∙ ap (λ (o : Outcome (Found × Option Marker)). o >>= scan_turn found)
        (reads-blocks found frame header bytes framed (subst IsDct (sym sequential) tt) ∙ by-data bytes
        ∙ ap (λ (o : Outcome (Found × Option Marker)). o >>= after_data) (data-read bytes))
        ∙ made (rows_read bytes)
        ∙ ap (λ (o : Outcome (Planes × Option Marker)). o >>= scan_made found s.pass s.codings)
        (sym (planes-first frame s bytes))

    -- What a call answers, which has all of it but for the planes.
    pub reads-turn : (v : Step → Turn) (prev : Found) (planes : Planes) (old new : Stream)
        (read : Result (Option Marker) Error) (result : Result Step Error) → prev.said ≡ found.said
        → OnOk read (without_planes (once_scanned prev)
        ≡ without_planes (with_planes s.pass s.codings planes (scanned found)))
        → Answers (λ (m : Option Marker). (planes, m)) (planes_then frame s) old read new → IsEndOf prev v read result
        → Answers (λ (step : Step). turn_without (v step))
        (λ bytes. turns_without (turn_after Zeros found header bytes).turn)
        old result new
    reads-turn v prev planes old new (Ok m) (Ok step) said same a is = (
      a.0,
      λ k. (
        (a.1 k).0,
        ap turns_without (turn-read old.bytes
            ∙ ap (λ (o : Outcome (Planes × Option Marker)). o >>= scan_made found s.pass s.codings) (a.1 k).1)
            ∙ ap (λ (t : Turn). Ok (t, new.bytes))
            (ap₂ (λ (f : Found) (b : Before). record { found = f; before = b; met = m; ended = false }) (sym same)
            (ap (λ (x : Said). if x.scanned then LaterScan else FirstScan) (sym said)) ∙ sym (ap turn_without is)),
      ),
    )
    reads-turn v prev planes old new (Ok m) (Err f) said same a is = absurd is
    reads-turn v prev planes old new (Err e) (Ok step) said same a is = absurd is
    reads-turn v prev planes old new (Err e) (Err f) said same a is =
        subst (λ (x : Error). Answers (λ (step : Step). turn_without (v step))
        (λ bytes. turns_without (turn_after Zeros found header bytes).turn) old (Err x) new) (sym is)
        (answers-err (λ (m : Option Marker). (planes, m)) (λ (step : Step). turn_without (v step)) (planes_then frame s)
        (λ bytes. turns_without (turn_after Zeros found header bytes).turn) old new e
        (λ f h. ap turns_without (turn-read old.bytes
        ∙ ap (λ (o : Outcome (Planes × Option Marker)). o >>= scan_made found s.pass s.codings) h)) a)

    -- A scan of all components of the frame.
    module _ (decoded : IsDecodedFrame frame) (legal : IsScanOf frame header)
        (all : length header.components ≡ length frame.components) where
      pub whole : s.pass ≡ whole_pass
      unfolding pass_of
      whole =
          let c = subst (λ (p : CodingProcess). IsBandOf p header.first header.after header.high header.low) sequential
          legal.coded in
          by.pass ∙ rw (c.0, c.1, c.2, c.3) refl

      count : length s.codings ≡ length frame.components
      count = by.count ∙ all

      order : IsInOrderFrom 0 s.codings
      order =
          let indices = codings-indices found.said frame header s.codings legal.dc_length legal.ac_length by.codings in
          rising-order 0 (length frame.components) s.codings (subst (IsRising 0) (sym indices) legal.rising)
          (subst (All (λ index. index < length frame.components)) (sym indices) legal.components) (omega (arith, count))

      pub all-components : components_of s.codings ≡ frame.components
      all-components = order-components frame 0 s.codings order (of-frame frame s.codings ready.of_frame)
          (omega (arith, count))

      pub none-sized : HaveRows 0 frame.components (no_samples s.codings)
      none-sized = subst (λ (cs : List Component). HaveRows 0 cs (no_samples s.codings)) all-components
          (have-none s.codings)

      pub planes-long : (rows : ℕ) (planes : Planes) → HaveRows rows frame.components planes
          → length planes ≡ length s.codings
      planes-long rows planes h = have-count rows frame.components planes h ∙ sym count

      -- all coefficients of its components are marked after it
      abbrev pub IsMarked : Type 0
      IsMarked = AreMarked (marks_of s.pass s.codings found.finished) s.codings

      found-planes : (planes : Planes) (old new : Stream) (m : Option Marker) → length planes ≡ length s.codings
          → length found.finished ≡ 4 → IsMarked → IsUnread found
          → Answers (λ (m : Option Marker). (planes, m)) (planes_then frame s) old (Ok m) new → old.known ≡ true
          → (t : Turn × List ℕ) → (turn_after Zeros found header old.bytes).turn ≡ Ok t
          → AreFound planes t.0.found.planes
      found-planes planes old new m long four marks unread a k t h =
          let is = ok-same _ t (sym (turn-read old.bytes
          ∙ ap (λ (o : Outcome (Planes × Option Marker)). o >>= scan_made found s.pass s.codings) (a.1 k).1) ∙ h) in
          subst (λ (x : Turn × List ℕ). AreFound planes x.0.found.planes) is
          (planes-found s.pass s.codings planes (scanned found) order long
          (omega (arith, count, decoded-few frame decoded)) four marks unread.1)

      -- what is found but for the planes, by what was marked
      pub marked-scan : (prev : Found) (planes : Planes) (read : Result (Option Marker) Error)
          → ((arrays : Arrays) → length arrays ≡ length s.codings
          → without_planes (once_scanned prev) ≡ without_planes (with_arrays s.pass s.codings arrays (scanned found)))
          → (rows : ℕ) → HaveRows rows frame.components planes
          → OnOk read (without_planes (once_scanned prev)
          ≡ without_planes (with_planes s.pass s.codings planes (scanned found)))
      marked-scan prev planes read marks rows sized = on-ok read
          (marked-found s.pass s.codings planes (scanned found) (without_planes (once_scanned prev)) marks
          (planes-long rows planes sized))

      -- Its lines were given.
      pub given-scan : (convert : ColorConvert) (v : Step → Turn) (prev : Found) (planes : Planes) (old new : Stream)
          (read : Result (Option Marker) Error) (result : Result Step Error) (bytes : List ℕ)
          → length found.finished ≡ 4 → IsMarked → IsUnread found
          → Answers (λ (m : Option Marker). (planes, m)) (planes_then frame s) old read new
          → HaveRows frame.mcus_high frame.components planes
          → ((sources : List Source)
          → sources_of frame.components frame.output_width frame.output_height ≡ Ok sources
          → bytes ≡ concat (lines_from frame convert sources planes 0 frame.output_height))
          → IsEndOf prev v read result
          → OnOk result (GivesScan found frame header convert old result bytes)
      given-scan convert v prev planes old new (Ok m) (Ok step) bytes four marks unread a sized lines is = record {
        planes = planes;
        counted = have-count frame.mcus_high frame.components planes sized;
        sized = sized;
        are_found = λ k. found-planes planes old new m (planes-long frame.mcus_high planes sized) four marks unread a k;
        lines = lines;
      }
      given-scan convert v prev planes old new (Ok m) (Err f) bytes four marks unread a sized lines is = absurd is
      given-scan convert v prev planes old new (Err e) (Ok step) bytes four marks unread a sized lines is = absurd is
      given-scan convert v prev planes old new (Err e) (Err f) bytes four marks unread a sized lines is = tt

-- All coefficients are marked, as they are found.
pub all-marked : (found : Found) (s : BlockScan) (d : Decoded)
    → ((arrays : Arrays) → length arrays ≡ length s.codings → without_planes (once_scanned (with_decoded found d))
    ≡ without_planes (with_arrays s.pass s.codings arrays (scanned found)))
    → All (λ c. list_all (λ mark. mark) (slice_index_or d.finished c.index none_finished) ≡ true) s.codings
    → AreMarked (marks_of s.pass s.codings found.finished) s.codings
all-marked found s d marks all =
    let none : Arrays = replicate (length s.codings) [] in
    let count : length none ≡ length s.codings = length-replicate (length s.codings) [] in
    let is : d.finished ≡ marks_of s.pass s.codings found.finished =
    ap (λ (f : Found). f.finished) (marks none count ∙ arrays-without s.pass s.codings none (scanned found) count) in
    subst (λ (m : List (List Bool)). AreMarked m s.codings) is
    (recursion_from_All (λ (c : Coding). list_all (λ mark. mark) (slice_index_or d.finished c.index none_finished)
    ≡ true)
    s.codings all)

-- It is sound.
pub sound-after : (found prev : Found) (frame : Frame) → IsSound found → found.said.frame ≡ Some frame
    → frame.process ≡ DctSequential → prev.said ≡ found.said → prev.planes ≡ found.planes → prev.samples ≡ found.samples
    → IsSound (once_scanned prev)
sound-after found prev frame sound framed sequential said planes samples =
    let plain = ap is_progressive sequential in
    blocks-sound found (once_scanned prev) frame sound framed (ap (λ (x : Said). x.frame) said)
    (subst (AreArrays frame.components)
    (sequential-arrays found frame plain ∙ sym (sequential-arrays (once_scanned prev) frame plain))
    (sound.kept frame framed))
    (λ h. subst (λ (ps : List (Option (List ℕ))). ArePlanes frame.components ps) (sym planes) h) samples

-- A scan that is refused before its data.
pub unread-reads : (view : Step → Turn) (found : Found) (header : Scan) (old new : Stream) (result : Result Step Error)
    (e : Error) → IsErrAnd result (λ y. y ≡ e) → BringsNone found (turn_after Zeros found header) old e new
    → Answers view (λ bytes. turns_without (turn_after Zeros found header bytes).turn) old result new
unread-reads view found header old new result e fails n =
    let p = err_from_is_err_and result fails in
    rw (p.1, p.2) (answers-err view view (λ bytes. (turn_after Zeros found header bytes).turn)
    (λ bytes. turns_without (turn_after Zeros found header bytes).turn) old new e (λ f h. ap turns_without h) n.reads)

-- ---- what holds of a frame that was found

pub some-found : {A : Type 0} (P : A → Type 0) (o : Option A) (x : A) → o ≡ Some x → P x → IfSome o P
some-found {A} P o x e h = subst (λ (o : Option A). IfSome o P) (sym e) h
