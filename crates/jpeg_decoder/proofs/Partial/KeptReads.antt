-- A scan of a progressive frame: its data are read, by what is read of its blocks.
use Rattle.std.proofs.Common.{◌≡◌, ◌*◌, ◌∙◌, true, ℕ, List, Option, Result, Err, ap, ap₂, refl, sym}
use Rattle.std.specs.declared.alloc.Global.{Global}
use Rattle.std.specs.declared.vec.Vec.{Vec}
use Rattle.std.specs.Prelude.{option_map, OnOk}
use Rattle.jpeg_bits.specs.Passes.{Pass}
use Rattle.jpeg_bits.specs.Reading.{Answers, Fault, Outcome}
use Rattle.jpeg_bits.specs.Stream.{Stream}
use Rattle.jpeg_bits.specs.declared.beyond.Beyond.TheVariants.{Nothing, Zeros}
use Rattle.jpeg_bits.specs.declared.error.Error.{Error}
use Rattle.jpeg_bits.specs.declared.marker.Marker.{Marker}
use Rattle.jpeg_segments.specs.Frame.{Frame}
use Rattle.jpeg_meaning.specs.Brought.{BlocksTo}
use Rattle.jpeg_meaning.specs.Found.{Found}
use Rattle.jpeg_meaning.specs.Order.{Spot, mcu_size, spots_of}
use Rattle.jpeg_meaning.specs.Scans.{Arrays, arrays_at}
use Rattle.jpeg_meaning.specs.ScanSegments.{arrays_before, blocks_after, is_progressive, once_scanned, put_arrays}
use Rattle.jpeg_meaning.specs.ScanSegments.{with_arrays, Coding}
use Rattle.jpeg_meaning.specs.States.{OnTold}
use Rattle.jpeg_meaning.specs.WholeRows.{rows_above}
use Rattle.jpeg_decoder.specs.PlanesView.{planes_in}
use Rattle.jpeg_decoder.specs.Reaching.{is_out_of_memory, ReadsData}
use Rattle.jpeg_decoder.specs.Scanning.{arrays_in, scan_components, scan_vias, BlockScan}
use Rattle.jpeg_decoder.specs.Steps.{blocks_at, scan_data, with_decoded}
use Rattle.jpeg_decoder.specs.declared.scan.decoded.Decoded.{Decoded}
use Rattle.jpeg_decoder.proofs.Kept.BlockArrays.{Held}
use Rattle.jpeg_decoder.proofs.Partial.LostScans.{lost-answers, lost-told, lost-unless}
use Rattle.jpeg_decoder.proofs.Partial.ReachedData.{reached-answers, reached-as, reached-found, reached_by}
use Rattle.jpeg_decoder.proofs.Partial.ReachedData.{rows-as}
use Rattle.jpeg_decoder.proofs.Partial.Refused.{on-told}
use Rattle.jpeg_decoder.proofs.Scans.ScanData.{data-kept, data-kept-refused, read_at}
use Rattle.jpeg_decoder.proofs.Scans.ScanReads.{answers-as, last-step}

-- The blocks of a scan were read, from those in `before` to those in `after`, where `left` is the spot of the first
-- that can't be read, if there is one.
pub record ReadsBlocks (scan : BlockScan) (frame : Frame) (before after : Arrays) (left : Option Spot)
    (old : Stream) (met : Result (Option Marker) Error) (new : Stream) : Type 0 where
  pub whole : scan.beyond ≡ Zeros → Answers (λ (m : Option Marker). (after, m))
      (arrays_at scan.pass (scan.restart_interval * mcu_size (scan_components scan)) (scan_vias scan)
      (spots_of frame (scan_components scan)) before) old met new
  pub arrays : scan.beyond ≡ Nothing
      → OnTold old new met (after ≡ (reached_by scan frame before old.bytes).reached)
  pub unread : scan.beyond ≡ Nothing → OnTold old new met (left ≡ (reached_by scan frame before old.bytes).unread)
  pub answers : scan.beyond ≡ Nothing
      → Answers (λ (m : Option Marker). m) (λ bytes. (reached_by scan frame before bytes).rest) old met new

-- With zeros after its data, nothing counts of a scan that is refused.
pub lost-reads : (scan : BlockScan) (frame : Frame) (base : Found) (before last : Decoded) (old new : Stream)
    (met : Result (Option Marker) Error) → (scan.beyond ≡ Nothing → is_out_of_memory met ≡ true)
    → (scan.beyond ≡ Zeros → Answers (λ (m : Option Marker). (once_scanned (with_decoded base last), m))
    (scan_data (with_decoded base before) frame scan.pass scan.codings) old met new)
    → ReadsData scan frame base before old met last new
lost-reads scan frame base before last old new met memory h = record {
  answers = h;
  found = λ n. lost-told _ old new met (memory n);
  rows = λ n. lost-told _ old new met (memory n);
  met = λ n. lost-unless _ met (memory n);
}

-- ---- what is found

-- what is found with these blocks, and what else was decided
abbrev found_after : Found → Arrays → Decoded → Found
found_after f kept two = record (once_scanned f) {
  kept = kept;
  finished = two.finished;
  planes = two.planes;
  samples = planes_in two.samples;
}

-- the blocks that are kept are those after it
after-kept : (f : Found) (frame : Frame) (codings : List Coding) (after kept : Arrays)
    → is_progressive frame.process ≡ true → kept ≡ put_arrays codings after (arrays_before f frame)
    → kept ≡ blocks_after f frame codings after
after-kept f frame codings after kept process put = rw process put

-- ---- a scan

module _ (base : Found) (before : Decoded) (frame : Frame) (scan : BlockScan) (arrays after : Arrays)
    (left : Option Spot) (old new : Stream) (met : Result (Option Marker) Error)
    (restart : scan.restart_interval ≡ base.said.restart)
    (taken : arrays ≡ blocks_at scan.codings (arrays_before (with_decoded base before) frame))
    (reads : ReadsBlocks scan frame arrays after left old met new) where
  abbrev f : Found
  f = with_decoded base before

  abbrev p : Pass
  p = scan.pass

  abbrev codings : List Coding
  codings = scan.codings

  -- its blocks, and its data, with zeros after them
  abbrev whole : List ℕ → Outcome (Arrays × Option Marker)
  whole bytes = read_at f frame p codings (blocks_at codings (arrays_before f frame)) bytes

  abbrev whole_data : List ℕ → Outcome (Found × Option Marker)
  whole_data bytes = scan_data f frame p codings bytes

  refused : (fault : Fault) → whole old.bytes ≡ Err fault → whole_data old.bytes ≡ Err fault
  refused fault h = data-kept-refused f frame p codings old.bytes fault h

  whole-as : scan.beyond ≡ Zeros → Answers (λ (m : Option Marker). (after, m)) whole old met new
  whole-as z =
      answers-as (λ (m : Option Marker). (after, m))
      (arrays_at p (scan.restart_interval * mcu_size (scan_components scan)) (scan_vias scan)
      (spots_of frame (scan_components scan)) arrays)
      whole old new met
      (sym (ap₂ (λ (n : ℕ) (a : Arrays). arrays_at p (n * mcu_size (scan_components scan)) (scan_vias scan)
      (spots_of frame (scan_components scan)) a old.bytes) restart taken)) (reads.whole z)

  -- Nothing counts of it.
  pub kept-lost : (last : Decoded) → OnOk met ⊥ → (scan.beyond ≡ Nothing → is_out_of_memory met ≡ true)
      → ReadsData scan frame base before old met last new
  kept-lost last lost memory =
      lost-reads scan frame base before last old new met memory
      (λ z. lost-answers (λ (m : Option Marker). (after, m))
      (λ (m : Option Marker). (once_scanned (with_decoded base last), m)) whole whole_data old new met lost refused (whole-as z))

  -- What was read counts.
  pub kept-counts : (one two : Decoded) (kept : Vec Held Global) (rows : Option ℕ)
      → is_progressive frame.process ≡ true
      → ((found : Found) → with_decoded found two ≡ with_arrays p codings after (with_decoded found one))
      → one.finished ≡ before.finished → one.planes ≡ before.planes → one.samples ≡ before.samples
      → arrays_in kept.items ≡ put_arrays codings after (arrays_before f frame)
      → rows ≡ option_map (rows_above frame (scan_components scan)) left
      → ReadsData scan frame base before old met (record two { kept = kept; rows = rows }) new
  kept-counts one two kept rows process added fin pl sa put above =
      let samples = ap planes_in sa in
      let planes = ap (λ p. p) pl in
      record {
        answers = λ z. last-step (λ (m : Option Marker). (found_after f (arrays_in kept.items) two, m))
            (λ (m : Option Marker). (after, m)) whole_data whole_data whole old old new met
            (λ m h. data-kept f frame p codings after m old.bytes new.bytes one two (arrays_in kept.items) process h
            added fin planes samples put) refused (refl, λ k. (k, refl)) (whole-as z);
        found = λ n. on-told old new met
            (λ is. reached-found f frame p codings after old.bytes one two (arrays_in kept.items) added fin planes
            samples (after-kept f frame codings after (arrays_in kept.items) process put)
            (is ∙ ap (λ (r : BlocksTo (Option Marker)). r.reached) (reached-as f frame scan arrays old.bytes restart taken)))
            (reads.arrays n);
        rows = λ n. on-told old new met
            (λ is. above ∙ ap (option_map (rows_above frame (scan_components scan))) is
            ∙ rows-as f frame scan arrays old.bytes restart taken) (reads.unread n);
        met = λ n. reached-answers f frame scan arrays old new met restart taken (reads.answers n);
      }
