-- A scan of a sequential frame: its data are read, by the planes that are read of it row by row of MCUs.
use Rattle.std.proofs.Common.{◌≡◌, ◌∙◌, ◌*◌, true, false, ℕ, suc, List, [], ◌∷◌, length, length-set, get_or, set, Option}
use Rattle.std.proofs.Common.{Result, Ok, Err, ap, ap₂, arith, refl, sym, take}
use Rattle.std.proofs.lemmas.Grind.{common_steps}
use Rattle.std.proofs.lemmas.List.{length-map}
use Rattle.std.specs.Prelude.{option_map, OnOk}
use Rattle.jpeg_bits.specs.Entropy.{fresh_before, upcoming}
use Rattle.jpeg_bits.specs.Passes.{Pass, Via}
use Rattle.jpeg_bits.specs.Reading.{Answers, Fault, Outcome}
use Rattle.jpeg_bits.specs.Stream.{Stream}
use Rattle.jpeg_bits.specs.declared.beyond.Beyond.TheVariants.{Nothing, Zeros}
use Rattle.jpeg_bits.specs.declared.error.Error.{Error}
use Rattle.jpeg_bits.specs.declared.marker.Marker.{Marker}
use Rattle.jpeg_segments.specs.Frame.{Component, Frame}
use Rattle.jpeg_meaning.specs.Brought.{BlocksTo, Through}
use Rattle.jpeg_meaning.specs.Found.{Found}
use Rattle.jpeg_meaning.specs.InTurn.{counted_before}
use Rattle.jpeg_meaning.specs.Order.{Spot, mcu_size, spots_of}
use Rattle.jpeg_meaning.specs.Scans.{Arrays, zero_arrays, zero_of}
use Rattle.jpeg_meaning.specs.ScanSegments.{Coding, components_of, is_progressive, once_scanned, vias_from}
use Rattle.jpeg_meaning.specs.States.{OnTold}
use Rattle.jpeg_meaning.specs.WholeRows.{rows_above}
use Rattle.jpeg_decoder.specs.PlanesView.{planes_in}
use Rattle.jpeg_decoder.specs.Reaching.{data_reached, is_out_of_memory, ReadsData, UnlessRefused}
use Rattle.jpeg_decoder.specs.Scanning.{arrays_in, scan_components, scan_vias, BlockScan}
use Rattle.jpeg_decoder.specs.Steps.{AreDecidedFrom, IsReadable, scan_data, with_decoded, with_first_planes}
use Rattle.jpeg_decoder.specs.Steps.{with_planes}
use Rattle.jpeg_decoder.specs.Strips.{no_samples, planes_by, planes_by_rows}
use Rattle.jpeg_decoder.specs.Through.{blocks_reached, planes_through}
use Rattle.jpeg_decoder.specs.declared.scan.decoded.Decoded.{Decoded}
use Rattle.jpeg_decoder.proofs.Partial.KeptReads.{lost-reads}
use Rattle.jpeg_decoder.proofs.Partial.ReachedData.{data-found, reached_at}
use Rattle.jpeg_decoder.proofs.Partial.Refused.{on-told, unless-so}
use Rattle.jpeg_decoder.proofs.Partial.LostScans.{lost-answers}
use Rattle.jpeg_decoder.proofs.Scans.DecidedScans.{first-planes}
use Rattle.jpeg_decoder.proofs.Scans.ScanData.{arrays-by-planes, of-frame, same-found, zeros-read}
use Rattle.jpeg_decoder.proofs.Scans.ScanReads.{answers-as, last-step}
use Rattle.jpeg_decoder.proofs.Scans.SequentialScans.{read-data, read-refused}
use Rattle.jpeg_decoder.proofs.Strips.ReachedRows.{counted-any}
use Rattle.jpeg_decoder.proofs.Strips.ReachedStrips.{first_of, planes-first, planes-reached}
use Rattle.jpeg_decoder.proofs.Strips.StripScans.{Planes}

-- ---- as many planes as components

reached-long : (p : Pass) (vias : List Via) (n : ℕ) (spots : List Spot) (arrays : Arrays) (bytes : List ℕ)
    → length (blocks_reached p vias n spots arrays bytes).reached ≡ length arrays
unfolding blocks_reached
reached-long p vias n spots arrays bytes =
    counted-any (λ (l : Arrays). length l ≡ length arrays)
    (λ l s b e. length-set l s.slot (set (get_or l s.slot []) s.index b) ∙ e) p vias n spots
    (counted_before Nothing n arrays) (upcoming (fresh_before Nothing) bytes) refl

zeros-long : (codings : List Coding) → length (zero_arrays (components_of codings)) ≡ length codings
unfolding zero_arrays
zeros-long codings =
    length-map (components_of codings) (λ (c : Component). zero_of c) ∙ length-map codings (λ (c : Coding). c.component)

planes-count : (codings : List Coding) (arrays : Arrays) → length arrays ≡ length codings
    → length (planes_by codings arrays) ≡ length codings
unfolding planes_by
planes-count [] arrays e = refl
planes-count (c ∷ codings) [] e = absurd (omega (arith, e))
planes-count (c ∷ codings) (a ∷ arrays) e = ap suc (planes-count codings arrays (omega (arith, e)))

-- ---- what is found

module _ (found : Found) (before : Decoded) (frame : Frame) (scan : BlockScan) (bytes : List ℕ)
    (process : is_progressive frame.process ≡ false) (restart : scan.restart_interval ≡ found.said.restart)
    (ready : IsReadable frame scan) where
  abbrev f : Found
  f = with_decoded found before

  abbrev p : Pass
  p = scan.pass

  abbrev codings : List Coding
  codings = scan.codings

  -- what is reached of its planes, and of its blocks
  abbrev through : Planes → Through Planes (Option Marker × List ℕ)
  through start = planes_through p (scan_vias scan) scan.restart_interval frame codings start bytes

  abbrev reached : BlocksTo (Option Marker)
  reached = reached_at f frame p codings bytes

  from-zeros : reached ≡ blocks_reached p (vias_from 0 codings) (scan.restart_interval * mcu_size (components_of codings))
      (spots_of frame (components_of codings)) (zero_arrays (components_of codings)) bytes
  from-zeros =
      ap₂ (λ (n : ℕ) (a : Arrays). blocks_reached p (vias_from 0 codings) (n * mcu_size (components_of codings))
      (spots_of frame (components_of codings)) a bytes) (sym restart)
      (zeros-read f frame codings process (of-frame frame codings ready.of_frame))

  -- planes by what is reached of blocks
  abbrev made_of : BlocksTo (Option Marker) → Through Planes (Option Marker × List ℕ)
  made_of r = record { reached = planes_by codings r.reached; unread = r.unread; rest = r.rest }

  through-is : through (no_samples codings) ≡ made_of reached
  through-is =
      planes-reached frame codings p scan.restart_interval (scan_vias scan) bytes ready.some ready.fits
      ∙ ap made_of (sym from-zeros)

  count : length (planes_by codings reached.reached) ≡ length codings
  count =
      planes-count codings reached.reached
      (ap (λ (r : BlocksTo (Option Marker)). length r.reached) from-zeros
      ∙ reached-long p (vias_from 0 codings) (scan.restart_interval * mcu_size (components_of codings))
      (spots_of frame (components_of codings)) (zero_arrays (components_of codings)) bytes
      ∙ zeros-long codings)

  -- those of the first components
  first-is : (k : ℕ) → through (take k (no_samples codings)) ≡ first_of k (made_of reached)
  first-is k =
      planes-first k (no_samples codings) p (scan_vias scan) scan.restart_interval frame codings bytes
      ∙ ap (first_of k) through-is

  -- what isn't read of it, and the marker after its data
  pub through-rows : (k : ℕ) → option_map (rows_above frame (scan_components scan))
      (through (take k (no_samples codings))).unread ≡ (data_reached f frame p codings bytes).rows
  unfolding data_reached
  through-rows k =
      ap (λ (r : Through Planes (Option Marker × List ℕ)). option_map (rows_above frame (scan_components scan)) r.unread)
      (first-is k)

  pub through-met : (k : ℕ) → (through (take k (no_samples codings))).rest
      ≡ (data_reached f frame p codings bytes).met
  unfolding data_reached
  through-met k = ap (λ (r : Through Planes (Option Marker × List ℕ)). r.rest) (first-is k)

  module _ (one two : Decoded) (finished : one.finished ≡ f.finished) (planes : one.planes ≡ f.planes)
      (samples : planes_in one.samples ≡ f.samples) (none : arrays_in one.kept.items ≡ []) where
    by-planes : ((base : Found) → with_decoded base two
        ≡ with_planes p codings (planes_by codings reached.reached) (with_decoded base one))
        → once_scanned (with_decoded f two) ≡ (data_reached f frame p codings bytes).found
    by-planes added =
        let same = same-found f one [] finished planes samples in
        let after = added (once_scanned f) in
        grind (arith, common_steps, data-found, arrays-by-planes)

    -- It decides planes, and those of the components after the first ones are decided already.
    pub first-found : (made : Planes) → AreDecidedFrom (length made) one.planes codings
        → made ≡ (through (take (length made) (no_samples codings))).reached
        → ((base : Found) → with_decoded base two ≡ with_first_planes p codings made (with_decoded base one))
        → once_scanned (with_decoded f two) ≡ (data_reached f frame p codings bytes).found
    first-found made decided is added =
        by-planes (λ base.
        added base
        ∙ first-planes p codings made (planes_by codings reached.reached) (with_decoded base one) count
        (is ∙ ap (λ (r : Through Planes (Option Marker × List ℕ)). r.reached) (first-is (length made))) decided)

-- ---- a scan

-- The planes of a scan were read, from those in `start` to those in `made`, where `left` is the spot of the first block
-- that can't be read, if there is one.
pub record ReadsPlanes (scan : BlockScan) (frame : Frame) (start made : Planes) (left : Option Spot) (old : Stream)
    (met : Result (Option Marker) Error) (new : Stream) : Type 0 where
  pub whole : scan.beyond ≡ Zeros → Answers (λ (m : Option Marker). (made, m))
      (planes_by_rows scan.pass (scan_vias scan) scan.restart_interval frame scan.codings start) old met new
  pub reached : scan.beyond ≡ Nothing → OnTold old new met (made ≡ (planes_through scan.pass (scan_vias scan)
      scan.restart_interval frame scan.codings start old.bytes).reached)
  pub unread : scan.beyond ≡ Nothing → OnTold old new met (left ≡ (planes_through scan.pass (scan_vias scan)
      scan.restart_interval frame scan.codings start old.bytes).unread)
  pub answers : scan.beyond ≡ Nothing → UnlessRefused met (Answers (λ (m : Option Marker). m)
      (λ bytes. (planes_through scan.pass (scan_vias scan) scan.restart_interval frame scan.codings start bytes).rest)
      old met new)

-- what a scan of a state leaves, by what is read with zeros after its data
abbrev whole : BlockScan → Frame → Planes → List ℕ → Outcome (Planes × Option Marker)
whole scan frame start bytes =
    planes_by_rows scan.pass (scan_vias scan) scan.restart_interval frame scan.codings start bytes

module _ (base : Found) (before : Decoded) (frame : Frame) (scan : BlockScan) (k : ℕ) (made : Planes)
    (left : Option Spot) (old new : Stream) (met : Result (Option Marker) Error)
    (process : is_progressive frame.process ≡ false) (restart : scan.restart_interval ≡ base.said.restart)
    (ready : IsReadable frame scan)
    (reads : ReadsPlanes scan frame (take k (no_samples scan.codings)) made left old met new) where
  abbrev state : Found
  state = with_decoded base before

  abbrev start : Planes
  start = take k (no_samples scan.codings)

  abbrev whole_data : List ℕ → Outcome (Found × Option Marker)
  whole_data bytes = scan_data state frame scan.pass scan.codings bytes

  refused : (fault : Fault) → whole scan frame start old.bytes ≡ Err fault → whole_data old.bytes ≡ Err fault
  refused = read-refused base before frame scan old.bytes process restart ready k

  -- Nothing counts of it.
  pub planes-lost : (last : Decoded) → OnOk met ⊥ → (scan.beyond ≡ Nothing → is_out_of_memory met ≡ true)
      → ReadsData scan frame base before old met last new
  planes-lost last lost memory =
      lost-reads scan frame base before last old new met memory
      (λ z. lost-answers (λ (m : Option Marker). (made, m))
      (λ (m : Option Marker). (once_scanned (with_decoded base last), m)) (whole scan frame start) whole_data old new met lost
      refused (reads.whole z))

  -- What was read counts.
  counts-by : (two : Decoded) (rows : Option ℕ)
      → ((m : Option Marker) → whole scan frame start old.bytes ≡ Ok ((made, m), new.bytes)
      → whole_data old.bytes ≡ Ok ((once_scanned (with_decoded state two), m), new.bytes))
      → (made ≡ (planes_through scan.pass (scan_vias scan) scan.restart_interval frame scan.codings start
      old.bytes).reached
      → once_scanned (with_decoded state two) ≡ (data_reached state frame scan.pass scan.codings old.bytes).found)
      → rows ≡ option_map (rows_above frame (scan_components scan)) left
      → ReadsData scan frame base before old met (record two { rows = rows }) new
  counts-by two rows goes found above = record {
    answers = λ z. last-step (λ (m : Option Marker). (once_scanned (with_decoded state two), m))
        (λ (m : Option Marker). (made, m)) whole_data whole_data (whole scan frame start) old old new met goes refused
        (refl, λ l. (l, refl)) (reads.whole z);
    found = λ n. on-told old new met found (reads.reached n);
    rows = λ n. on-told old new met
        (λ is. above ∙ ap (option_map (rows_above frame (scan_components scan))) is
        ∙ through-rows base before frame scan old.bytes process restart ready k) (reads.unread n);
    met = λ n. unless-so met _ _
        (λ a. answers-as (λ (m : Option Marker). m)
        (λ bytes. (planes_through scan.pass (scan_vias scan) scan.restart_interval frame scan.codings start bytes).rest)
        (λ bytes. (data_reached state frame scan.pass scan.codings bytes).met) old new met
        (sym (through-met base before frame scan old.bytes process restart ready k)) a) (reads.answers n);
  }

-- The planes of its first components were made, and those of the others are decided.
pub planes-counts : (base : Found) (before : Decoded) (frame : Frame) (scan : BlockScan) (made : Planes)
    (left : Option Spot) (old new : Stream) (met : Result (Option Marker) Error)
    → is_progressive frame.process ≡ false → scan.restart_interval ≡ base.said.restart → IsReadable frame scan
    → ReadsPlanes scan frame (take (length made) (no_samples scan.codings)) made left old met new
    → (one two : Decoded) (rows : Option ℕ) → one.finished ≡ before.finished
    → one.planes ≡ before.planes → planes_in one.samples ≡ planes_in before.samples → arrays_in one.kept.items ≡ []
    → AreDecidedFrom (length made) one.planes scan.codings
    → ((found : Found) → with_decoded found two
    ≡ with_first_planes scan.pass scan.codings made (with_decoded found one))
    → rows ≡ option_map (rows_above frame (scan_components scan)) left
    → ReadsData scan frame base before old met (record two { rows = rows }) new
planes-counts base before frame scan made left old new met process restart ready reads one two rows fin pl sa none decided
    added above =
    counts-by base before frame scan (length made) made left old new met process restart ready reads two rows
    (λ m h. read-data base before frame scan old.bytes process restart ready m new.bytes one two fin pl sa none made
    decided h added)
    (λ is. first-found base before frame scan old.bytes process restart ready one two fin pl sa none made decided is
    added)
    above
