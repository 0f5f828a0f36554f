-- What the decoder's own clauses need where a scan is read up to its first fault.
use Rattle.std.specs.Prelude.{◌≡◌, ℕ, List, [], ◌∷◌, ◌++◌, drop, length, map}
use Rattle.std.specs.Prelude.{Bool, Result, Ok, Err, Option, Some, None, ◌*◌, ◌==◌}
use Rattle.std.specs.Prelude.{true, false, if◌then◌else◌, IsErrAnd, IsOkAnd, get_or, slice_index_or}
use Rattle.std.specs.Prelude.{option_map, unwrap_or, zip}
use Rattle.jpeg_bits.specs.Codes.{Table}
use Rattle.jpeg_bits.specs.Intervals.{first_group, other_groups}
use Rattle.jpeg_bits.specs.Passes.{Pass}
use Rattle.jpeg_bits.specs.Reading.{Answers, Fault, Malformed, Names, Outcome}
use Rattle.jpeg_bits.specs.Reading.{◌>>=◌}
use Rattle.jpeg_bits.specs.Stream.{Stream}
use Rattle.jpeg_bits.specs.declared.beyond.Beyond.{Beyond}
use Rattle.jpeg_bits.specs.declared.beyond.Beyond.TheVariants.{Nothing, Zeros}
use Rattle.jpeg_bits.specs.declared.error.Error.{Error}
use Rattle.jpeg_bits.specs.declared.error.Error.TheVariants.{OutOfMemory}
use Rattle.jpeg_bits.specs.declared.marker.Marker.{Marker}
use Rattle.jpeg_segments.specs.Frame.{Frame}
use Rattle.jpeg_segments.specs.HuffmanTables.{no_tables}
use Rattle.jpeg_segments.specs.ScanHeader as headers
use Rattle.jpeg_lossless.specs.Codings.{part_in}
use Rattle.jpeg_lossless.specs.PlanesRead.{counted_rows}
use Rattle.jpeg_lossless.specs.Rows.{with_all_rows}
use Rattle.jpeg_lossless.specs.Scans.{Way, is_of_rows}
use Rattle.jpeg_lossless.specs.Scans.{rows_of_interval, scan_tables}
use Rattle.jpeg_segments.specs.Checks.{needed}
use Rattle.jpeg_meaning.specs.Brought.{brought_by, unbrought, Brought}
use Rattle.jpeg_meaning.specs.Brought.{grey_samples}
use Rattle.jpeg_meaning.specs.Brought.{planes_brought, samples_over}
use Rattle.jpeg_meaning.specs.Brought.{scan_rows_reached}
use Rattle.jpeg_meaning.specs.Found.{Found, Said, with_said}
use Rattle.jpeg_meaning.specs.LosslessScans.{LosslessCoding, lossless_codings, mcus_across}
use Rattle.jpeg_meaning.specs.LosslessScans.{mcus_down, tables_in}
use Rattle.jpeg_meaning.specs.Order.{mcu_size, spots_of}
use Rattle.jpeg_meaning.specs.ScanSegments.{after_samples, arrays_before, blocks_after}
use Rattle.jpeg_meaning.specs.ScanSegments.{components_of, scan_before, scan_by, Coding}
use Rattle.jpeg_meaning.specs.ScanSegments.{once_scanned, vias_from, with_arrays}
use Rattle.jpeg_meaning.specs.Segments.{Turn}
use Rattle.jpeg_meaning.specs.States.{IfRefused, OnTold}
use Rattle.jpeg_meaning.specs.Stream.{Walked}
use Rattle.jpeg_meaning.specs.WholeRows.{rows_above, rows_of_planes}
use Rattle.jpeg_decoder.specs.LosslessParts.{mcus_high, mcus_wide, no_component, parts_at}
use Rattle.jpeg_decoder.specs.Scanning.{BlockScan}
use Rattle.jpeg_decoder.specs.Steps.{blocks_at, scan_data, with_decoded}
use Rattle.jpeg_decoder.specs.Through.{blocks_reached}
use Rattle.jpeg_decoder.specs.declared.scan.decoded.Decoded.{Decoded}
use Rattle.jpeg_decoder.specs.declared.scan.lossless.SampleScan.{SampleScan}
use Rattle.jpeg_decoder.specs.declared.stream.state.Step.{Step}

-- a fact, unless memory ran out
abbrev pub UnlessRefused : {X : Type 0} → Result X Error → Type 0 → Type 0
UnlessRefused (Ok x) P = P
UnlessRefused (Err e) P = IfRefused e P

-- a fact after a refusal, unless memory ran out
abbrev pub OnFault : {X : Type 0} → Result X Error → Type 0 → Type 0
OnFault (Ok x) P = Unit {0}
OnFault (Err e) P = IfRefused e P

-- whether memory ran out
abbrev pub is_out_of_memory : {X : Type 0} → Result X Error → Bool
is_out_of_memory (Err OutOfMemory) = true
is_out_of_memory _ = false

-- What was found, but for the Huffman tables and the restart interval, which no picture shows.
abbrev pub without_tables : Found → Found
without_tables found =
    with_said (λ said. record said { huffman = no_tables; restart = 0 }) found

-- an error stands for a fault, or both are none
abbrev pub NamesFault : Option Error → Option Fault → Type 0
NamesFault None None = Unit {0}
NamesFault (Some e) (Some fault) = Names {Y = Unit {0}} e (Err fault)
NamesFault _ _ = ⊥

-- ---- the segments

-- the bytes after the image, or the fault
abbrev pub walk_end : Walked → Outcome (Unit {0})
walk_end w = w.rest >>= λ rest. Ok (tt, rest)

-- ---- a scan

-- What stands after a scan whose data were read up to their first fault, by what these gave.
abbrev pub IsEndOf : Found → (Step → Turn) → Result (Option Marker) Error → Result Step Error
    → Type 0
IsEndOf old view (Ok met) result = IsOkAnd result (λ step. view step ≡ record {
  found = once_scanned old;
  before = scan_before old;
  met = met;
  ended = false;
})
IsEndOf old view (Err e) result = IsErrAnd result (λ f. f ≡ e)

-- The complete rows of the picture after a scan, where those of its fault are known.
abbrev pub rows_after : {X : Type 0} → Result X Error → Option ℕ → Option ℕ → Option ℕ
rows_after (Ok x) old rows = old
rows_after (Err e) old rows = rows

-- what a scan of the frame that was found brings after its header
abbrev pub brought_after : Found → headers.Scan → List ℕ → Brought
brought_after found scan bytes = elim (needed found.said.frame) [
  | Ok frame ↦ brought_by frame.process found frame scan bytes
  | Err fault ↦ unbrought found (Err fault)
]

-- The same by what follows the markers that end its data: where zeros do, nothing of a scan with a
-- fault counts.
abbrev pub turn_after : Beyond → Found → headers.Scan → List ℕ → Brought
turn_after Zeros found scan bytes = unbrought found
    (needed found.said.frame >>= λ frame. scan_by frame.process found frame scan bytes)
turn_after Nothing found scan bytes = brought_after found scan bytes

-- What the data of a scan bring up to their first fault: what is found, the complete rows of the
-- picture where some lack, and the marker after them, or the fault. Of blocks it is the marker
-- before restart markers are passed over.
pub record DataBrought : Type 0 where
  pub found : Found
  pub rows : Option ℕ
  pub met : Outcome (Option Marker)

-- A scan of blocks.
unfoldable pub data_reached : Found → Frame → Pass → List Coding → List ℕ → DataBrought
data_reached found frame p codings bytes =
    let r = blocks_reached p (vias_from 0 codings)
    (found.said.restart * mcu_size (components_of codings)) (spots_of frame (components_of codings))
    (blocks_at codings (arrays_before found frame)) bytes in record {
      found = with_arrays p codings r.reached (record (once_scanned found) {
        kept = blocks_after found frame codings r.reached;
      });
      rows = option_map (rows_above frame (components_of codings)) r.unread;
      met = r.rest;
    }

-- The data of a scan of blocks were read. Where zeros follow the markers that end them, the call
-- answered what they give; where nothing does, what they bring up to their first fault is there,
-- unless memory ran out.
pub record ReadsData (scan : BlockScan) (frame : Frame) (base : Found) (old : Decoded)
    (from : Stream) (result : Result (Option Marker) Error) (new : Decoded) (to : Stream)
    : Type 0 where
  pub answers : scan.beyond ≡ Zeros → Answers (λ m. (once_scanned (with_decoded base new), m))
      (scan_data (with_decoded base old) frame scan.pass scan.codings) from result to
  pub found : scan.beyond ≡ Nothing → OnTold from to result
      (once_scanned (with_decoded base new) ≡ (data_reached (with_decoded base old) frame scan.pass
      scan.codings from.bytes).found)
  pub rows : scan.beyond ≡ Nothing → OnTold from to result
      (new.rows ≡ (data_reached (with_decoded base old) frame scan.pass
      scan.codings from.bytes).rows)
  pub met : scan.beyond ≡ Nothing → UnlessRefused result (Answers (λ m. m)
      (λ bytes. (data_reached (with_decoded base old) frame scan.pass scan.codings bytes).met)
      from result to)

-- ---- a lossless scan

-- the components of a lossless scan, where its restart interval has whole rows
abbrev pub whole_codings : Said → Frame → List LosslessCoding → Result (List LosslessCoding) Fault
whole_codings said frame codings =
    if is_of_rows (mcus_across frame codings) (mcus_down frame codings) said.restart
    then Ok codings else Err Malformed

abbrev pub sample_codings : Said → Frame → headers.Scan → Result (List LosslessCoding) Fault
sample_codings said frame scan =
    lossless_codings said.huffman.dc frame scan.components scan.dc_destinations
    >>= whole_codings said frame

-- How a lossless scan of a frame is coded: its tables, and whole rows of MCUs in each interval.
pub record IsSampleScan (said : Said) (frame : Frame) (header : headers.Scan) (s : SampleScan)
    : Type 0 where
  pub tables : List Table
  pub are : tables_in said.huffman.dc header.dc_destinations ≡ Ok tables
  pub parts : map part_in s.parts.items
      ≡ parts_at (length header.components == 1) frame.components header.components tables
  pub coding : s.coding ≡ record {
    wide = mcus_wide frame header.components;
    high = mcus_high frame header.components;
    precision = frame.precision;
    predictor = header.predictor;
    point_transform = header.point_transform;
    restart_interval = said.restart;
  }
  pub whole : is_of_rows s.coding.wide s.coding.high said.restart ≡ true
  pub rows : s.rows ≡ counted_rows s.coding.high
      (rows_of_interval s.coding.wide s.coding.high said.restart)

-- planes with the rows of a scan appended, as far as they can be read, and the marker after it
abbrev pub planes_reached : Way → ℕ → ℕ → List (List ℕ) → List ℕ
    → List (List ℕ) × Outcome (Option Marker)
planes_reached w n high planes bytes =
    let rows = scan_tables w high in
    let r = scan_rows_reached 0 (first_group n rows) (other_groups n rows) bytes in
    (with_all_rows w r.0 planes, r.1)

-- samples, and after them those of a whole plane that are left
abbrev pub over : List ℕ → List ℕ → List ℕ
over whole samples = samples ++ drop (length samples) whole

-- the samples of a component before a scan, or else grey
abbrev pub samples_or_grey : Frame → List (Option (List ℕ)) → ℕ → List ℕ
samples_or_grey frame samples index =
    unwrap_or (slice_index_or samples index None)
    (grey_samples frame (get_or frame.components index no_component))

-- Planes of the components at some indices, each over the samples before the scan, or else grey.
unfoldable pub planes_over : Frame → List (Option (List ℕ)) → List ℕ → List (List ℕ)
    → List (List ℕ)
planes_over frame samples (index ∷ indices) (plane ∷ planes) =
    over (samples_or_grey frame samples index) plane ∷ planes_over frame samples indices planes
planes_over frame samples _ _ = []

-- A scan of samples.
unfoldable pub samples_reached : Found → Frame → headers.Scan → List LosslessCoding → List ℕ
    → DataBrought
samples_reached found frame scan codings bytes =
    let r = planes_brought found frame scan codings bytes in record {
      found = after_samples found codings (map (samples_over found frame) (zip codings r.0));
      rows = rows_of_planes frame codings r.0;
      met = r.1;
    }
