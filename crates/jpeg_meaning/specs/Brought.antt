-- What a stream has brought up to its first fault: the blocks that can be read of the bits that are
-- there, or the rows of samples, how many rows of the picture they complete, and the fault (T.81,
-- B.1.1.5, E.2.4, F.2, G.2 and H.2).
--
-- They are read as in a stream without fault, with one difference: nothing follows the bits where a
-- marker ends the data, in place of zeros. A block or a row of MCUs that needs one bit more isn't
-- read, nor is any after it.
use Rattle.std.specs.Prelude.{ℕ, suc, ◌*◌, ◌-◌, ◌^◌, List, [], ◌∷◌, ◌++◌, map, length, drop}
use Rattle.std.specs.Prelude.{zip, replicate, get_or, slice_index_or, unwrap_or, Bool}
use Rattle.std.specs.Prelude.{Option, Some, None, option_map, slice_get, Result, Ok, Err}
use Rattle.std.specs.Prelude.{if◌then◌else◌}
use Rattle.jpeg_bits.specs.Reading.{Fault, Malformed, Outcome, ◌>>=◌}
use Rattle.jpeg_bits.specs.Entropy.{Text, closed, text_at}
use Rattle.jpeg_bits.specs.Intervals.{end_after, is_restart, first_group, other_groups}
use Rattle.jpeg_bits.specs.declared.beyond.Beyond.TheVariants.{Nothing}
use Rattle.jpeg_bits.specs.Codes.{Table}
use Rattle.jpeg_bits.specs.Passes.{Pass, Via}
use Rattle.jpeg_bits.specs.declared.marker.Marker.{Marker}
use Rattle.jpeg_segments.specs.Checks.{needed}
use Rattle.jpeg_lossless.specs.RowsReached.{rows_reached}
use Rattle.jpeg_lossless.specs.Scans.{is_of_rows, lines_by_component, planes_of, rows_of_interval}
use Rattle.jpeg_lossless.specs.Scans.{scan_tables}
use Rattle.jpeg_segments.specs.Frame.{Component, Frame}
use Rattle.jpeg_segments.specs.ScanHeader.{Scan, sos_at}
use Rattle.jpeg_segments.specs.declared.frame.CodingProcess.{CodingProcess}
use Rattle.jpeg_segments.specs.declared.frame.CodingProcess.TheVariants.{Lossless}
use Rattle.jpeg_meaning.specs.Found.{Found}
use Rattle.jpeg_meaning.specs.InTurn.{Reached, at_start, turn_from}
use Rattle.jpeg_meaning.specs.LosslessScans.{LosslessCoding, lossless_codings, mcus_down, way_of}
use Rattle.jpeg_meaning.specs.Order.{Spot, spots_of, mcu_size}
use Rattle.jpeg_meaning.specs.Scans.{Arrays}
use Rattle.jpeg_meaning.specs.ScanSegments.{after_restarts, after_samples, after_scan}
use Rattle.jpeg_meaning.specs.ScanSegments.{arrays_before, codings_of, components_of, Coding}
use Rattle.jpeg_meaning.specs.ScanSegments.{pass_of, scan_turn, vias_from}
use Rattle.jpeg_meaning.specs.Segments.{Turn}
use Rattle.jpeg_meaning.specs.WholeRows.{rows_above, rows_of_planes}

-- ---- a restart interval

-- the text of these bytes, where nothing follows the marker that ends it
abbrev pub stopping : List ℕ → Text
stopping bytes = record (text_at bytes) { ending = closed Nothing (text_at bytes).ending }

-- What stands after the interval that begins these bytes, where these bits are left after what is
-- read of it, or with this fault: its end, as where zeros follow a marker.
abbrev pub stopped : List ℕ → Result (List Bool) Fault → Outcome (Option Marker)
stopped bytes r = r >>= λ left. end_after (length (text_at bytes).bits - length left) bytes left
    (text_at bytes).ending

-- What is reached of some blocks: the first spot whose block isn't read, if there is one, and what
-- stands after the last block, or the fault.
pub record Through (A : Type 0) (B : Type 0) : Type 0 where
  pub reached : A
  pub unread : Option Spot
  pub rest : Result B Fault

-- The blocks at some spots, up to the first that can't be read, and the bits after the last block.
unfoldable pub reached_from : Pass → List Via → List Spot → Reached → Text
    → Through Reached (List Bool)
reached_from p vias [] old t = record { reached = old; unread = None; rest = Ok t.bits }
reached_from p vias (s ∷ spots) old t = elim (turn_from p vias s old t) [
  | Ok r ↦ reached_from p vias spots r.0 r.1
  | Err fault ↦ record { reached = old; unread = Some s; rest = Err fault }
]

-- blocks that are reached, and the outcome of what follows them
abbrev pub BlocksTo : Type 0 → Type 0
BlocksTo A = Through Arrays (A × List ℕ)

-- The interval that begins these bytes: the blocks as far as they can be read; and its end.
unfoldable pub interval_reached : Pass → List Via → List Spot → Arrays → List ℕ
    → BlocksTo (Option Marker)
interval_reached p vias spots arrays bytes =
    let r = reached_from p vias spots (at_start arrays) (stopping bytes) in
    record { reached = r.reached.arrays; unread = r.unread; rest = stopped bytes r.rest }

-- ---- a scan

-- after an interval that isn't the last RST k has to stand: the bytes after it
abbrev pub after_interval : ℕ → Option Marker × List ℕ → Result (List ℕ) Fault
after_interval k m = if is_restart k m.0 then Ok m.1 else Err Malformed

-- after the last interval: the marker that ends it, where restart markers are passed over
abbrev pub after_intervals : Option Marker × List ℕ → Outcome (Option Marker)
after_intervals m = after_restarts (suc (length m.1)) m.0 m.1

-- Where all blocks of an interval are read, and the next doesn't follow it, its first block.
abbrev pub or_first : Option Spot → List Spot → Option Spot
or_first None next = slice_get next 0
or_first (Some s) next = Some s

-- One interval and more, between which RST stand in turn from number k on: the blocks as far as
-- they can be read, and the marker after the scan, or the fault.
unfoldable pub intervals_reached
    : Pass → List Via → ℕ → List Spot → List (List Spot) → Arrays → List ℕ
    → BlocksTo (Option Marker)
intervals_reached p vias k spots [] arrays bytes =
    let r = interval_reached p vias spots arrays bytes in
    record { reached = r.reached; unread = r.unread; rest = r.rest >>= after_intervals }
intervals_reached p vias k spots (next ∷ more) arrays bytes =
    let r = interval_reached p vias spots arrays bytes in
    elim (r.rest >>= after_interval k) [
      | Ok rest ↦ intervals_reached p vias (suc k) next more r.reached rest
      | Err fault ↦
          record { reached = r.reached; unread = or_first r.unread next; rest = Err fault }
    ]

-- A scan in intervals of n blocks, or in one where n is 0.
abbrev pub scan_reached
    : Pass → ℕ → List Via → List Spot → Arrays → List ℕ → BlocksTo (Option Marker)
scan_reached p n vias spots arrays bytes =
    intervals_reached p vias 0 (first_group n spots) (other_groups n spots) arrays bytes

-- ---- a scan of blocks

-- What is found where a turn ends with a fault; where it is a scan that lacks blocks or lines of
-- samples, how many rows of the picture are complete; and the turn or its fault.
pub record Brought : Type 0 where
  pub found : Found
  pub rows : Option ℕ
  pub turn : Outcome Turn

-- what brings nothing before its fault
abbrev pub unbrought : Found → Outcome Turn → Brought
unbrought found turn = record { found = found; rows = None; turn = turn }

-- The blocks that were reached count as if the scan had ended after them.
unfoldable pub blocks_brought_by : Found → Frame → Scan → List Coding → List ℕ → Brought
blocks_brought_by found frame scan codings bytes =
    let r = scan_reached (pass_of scan) (found.said.restart * mcu_size (components_of codings))
    (vias_from 0 codings) (spots_of frame (components_of codings))
    (map (λ c. get_or (arrays_before found frame) c.index []) codings) bytes in
    let after = after_scan found frame scan codings r.reached in
    record {
      found = after;
      rows = option_map (rows_above frame (components_of codings)) r.unread;
      turn = r.rest >>= λ m. Ok (scan_turn found after m.0, m.1);
    }

unfoldable pub blocks_brought : Found → Frame → Scan → List ℕ → Brought
blocks_brought found frame scan bytes = elim (codings_of found.said frame scan) [
  | Ok codings ↦ blocks_brought_by found frame scan codings bytes
  | Err fault ↦ unbrought found (Err fault)
]

-- ---- a scan of a lossless frame

-- The interval that begins these bytes: the differences of its rows of MCUs, each by its tables, as
-- far as rows can be read whole; and its end.
unfoldable pub interval_rows_reached : List (List Table) → List ℕ
    → List (List ℕ) × Outcome (Option Marker)
interval_rows_reached rows bytes =
    let r = rows_reached rows (stopping bytes) in (r.0, stopped bytes r.1)

-- One interval and more, between which RST stand in turn from number k on: the rows of each as far
-- as they can be read, and the marker after the scan, or the fault.
unfoldable pub scan_rows_reached : ℕ → List (List Table) → List (List (List Table)) → List ℕ
    → List (List (List ℕ)) × Outcome (Option Marker)
scan_rows_reached k rows [] bytes =
    let r = interval_rows_reached rows bytes in
    (r.0 ∷ [], r.1 >>= after_intervals)
scan_rows_reached k rows (next ∷ more) bytes =
    let r = interval_rows_reached rows bytes in
    elim (r.1 >>= after_interval k) [
      | Ok rest ↦ let s = scan_rows_reached (suc k) next more rest in (r.0 ∷ s.0, s.1)
      | Err fault ↦ (r.0 ∷ [], Err fault)
    ]

-- a lossless component's samples before any scan: half of their range
abbrev pub grey_samples : Frame → Component → List ℕ
grey_samples frame c = replicate (c.width * c.height) (2 ^ (frame.precision - 1))

-- Samples that are reached, and after them those that an earlier scan gave, or else grey.
abbrev pub samples_over : Found → Frame → LosslessCoding × List ℕ → List ℕ
samples_over found frame x = x.1 ++ drop (length x.1)
    (unwrap_or (slice_index_or found.samples x.0.index None) (grey_samples frame x.0.component))

-- The lines of each component in the rows of MCUs that were reached, and the marker after the scan,
-- or the fault.
abbrev pub planes_brought : Found → Frame → Scan → List LosslessCoding → List ℕ
    → List (List ℕ) × Outcome (Option Marker)
planes_brought found frame scan codings bytes =
    let w = way_of frame scan.predictor scan.point_transform codings in
    let n = rows_of_interval w.wide (mcus_down frame codings) found.said.restart in
    let rows = scan_tables w (mcus_down frame codings) in
    let r = scan_rows_reached 0 (first_group n rows) (other_groups n rows) bytes in
    (planes_of scan.point_transform w.parts (lines_by_component w 0 w.parts r.0), r.1)

-- A scan of samples: these lines count.
unfoldable pub samples_brought_by : Found → Frame → Scan → List LosslessCoding → List ℕ → Brought
samples_brought_by found frame scan codings bytes =
    let r = planes_brought found frame scan codings bytes in
    let after = after_samples found codings (map (samples_over found frame) (zip codings r.0)) in
    record {
      found = after;
      rows = rows_of_planes frame codings r.0;
      turn = r.1 >>= λ m. Ok (scan_turn found after m.0, m.1);
    }

-- whether the restart interval of a scan has whole rows
abbrev pub has_whole_rows : Found → Frame → Scan → List LosslessCoding → Bool
has_whole_rows found frame scan codings =
    is_of_rows (way_of frame scan.predictor scan.point_transform codings).wide
    (mcus_down frame codings) found.said.restart

unfoldable pub samples_brought : Found → Frame → Scan → List ℕ → Brought
samples_brought found frame scan bytes =
    elim (lossless_codings found.said.huffman.dc frame scan.components scan.dc_destinations) [
      | Ok codings ↦ if has_whole_rows found frame scan codings
          then samples_brought_by found frame scan codings bytes
          else unbrought found (Err Malformed)
      | Err fault ↦ unbrought found (Err fault)
    ]

abbrev pub brought_by : CodingProcess → Found → Frame → Scan → List ℕ → Brought
brought_by Lossless found frame scan bytes = samples_brought found frame scan bytes
brought_by _ found frame scan bytes = blocks_brought found frame scan bytes

-- the frame, and the header of a scan of it
abbrev pub frame_and_scan : Found → List ℕ → Result (Frame × (Scan × List ℕ)) Fault
frame_and_scan found bytes =
    needed found.said.frame >>= (λ frame. sos_at frame bytes >>= (λ scan. Ok (frame, scan)))

unfoldable pub scan_brought : Found → List ℕ → Brought
scan_brought found bytes = elim (frame_and_scan found bytes) [
  | Ok x ↦ brought_by x.0.process found x.0 x.1.0 x.1.1
  | Err fault ↦ unbrought found (Err fault)
]
