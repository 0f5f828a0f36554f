-- What a scan adds to what was found: its tables, its data, and the planes that it decides (T.81,
-- B.2.3).
use Rattle.std.specs.Prelude.{ℕ, zero, suc, ◌+◌, ◌-◌, ◌*◌, ◌==◌, ◌&&◌, nat_lt, List, [], ◌∷◌, ◌++◌}
use Rattle.std.specs.Prelude.{map, length, take, drop, set, get_or, replicate, slice_index_or}
use Rattle.std.specs.Prelude.{slice_set, Bool, true, false, Option, Some, None, Result, Ok, Err}
use Rattle.std.specs.Prelude.{slice_get, zip, if◌then◌else◌, fold, unwrap_or}
use Rattle.std.specs.List.{list_all}
use Rattle.jpeg_bits.specs.Reading.{Outcome, Fault, End, ◌>>=◌}
use Rattle.jpeg_bits.specs.Marker.{next_marker}
use Rattle.jpeg_bits.specs.Codes.{Table}
use Rattle.jpeg_bits.specs.DefaultTables.{luminance_dc, chrominance_dc, luminance_ac}
use Rattle.jpeg_bits.specs.DefaultTables.{chrominance_ac, with_defaults}
use Rattle.jpeg_bits.specs.declared.huffman.codes.HuffmanTableClass.{HuffmanTableClass}
use Rattle.jpeg_bits.specs.declared.huffman.codes.HuffmanTableClass.TheVariants as classes
use Rattle.jpeg_bits.specs.declared.marker.Marker.{Marker}
use Rattle.jpeg_bits.specs.declared.marker.Marker.TheVariants.{RST}
use Rattle.jpeg_segments.specs.declared.frame.CodingProcess.{CodingProcess}
use Rattle.jpeg_segments.specs.declared.frame.CodingProcess.TheVariants.{DctProgressive, Lossless}
use Rattle.jpeg_segments.specs.Frame.{Frame, Component}
use Rattle.jpeg_segments.specs.ScanHeader.{Scan, sos_at}
use Rattle.jpeg_segments.specs.HuffmanTables.{Tables}
use Rattle.jpeg_bits.specs.Passes.{Pass, Via, Block}
use Rattle.jpeg_meaning.specs.Rasters.{plane_by}
use Rattle.jpeg_meaning.specs.Order.{spots_of, mcu_size}
use Rattle.jpeg_meaning.specs.Scans.{Arrays, zero_arrays, no_table, arrays_at}
use Rattle.jpeg_lossless.specs.Scans.{scan_at}
use Rattle.jpeg_meaning.specs.LosslessScans.{LosslessCoding, lossless_codings}
use Rattle.jpeg_meaning.specs.LosslessScans.{mcus_down, way_of, with_samples}
use Rattle.jpeg_segments.specs.Checks.{needed, gathered}
use Rattle.jpeg_meaning.specs.declared.before.Before.{Before}
use Rattle.jpeg_meaning.specs.declared.before.Before.TheVariants.{FirstScan, LaterScan}
use Rattle.jpeg_meaning.specs.Found.{Found, none_finished, Said, with_said}
use Rattle.jpeg_meaning.specs.Segments.{Turn, onward}

-- ---- scans

abbrev pub is_progressive : CodingProcess → Bool
is_progressive DctProgressive = true
is_progressive _ = false

-- what a scan codes
unfoldable pub pass_of : Scan → Pass
pass_of scan =
    record { is_first = scan.high == 0; ss = scan.first; se = scan.after - 1; al = scan.low }

-- The Huffman tables in force for a scan. In a frame of an MJPEG stream the default ones stand in
-- the unset destinations that the scan names.
unfoldable pub tables_of : Said → Scan → Tables
tables_of said scan =
    if said.metadata.avi1 then record {
      dc = with_defaults luminance_dc chrominance_dc scan.dc_destinations said.huffman.dc;
      ac = with_defaults luminance_ac chrominance_ac scan.ac_destinations said.huffman.ac;
    } else said.huffman

-- A component of a scan: its index in the frame, the component, its quantization table, and its
-- Huffman tables.
pub record Coding : Type 0 where
  pub index : ℕ
  pub component : Component
  pub quantization : List ℕ
  pub dc : Table
  pub ac : Table

abbrev pub components_of : List Coding → List Component
components_of codings = map (λ c. c.component) codings

-- a table that has to be there where the scan needs it
abbrev pub needed_if : Bool → HuffmanTableClass → Option Table → Result Table Fault
needed_if true class table = needed table
needed_if false class table = Ok (no_table class)

-- The quantization table is needed, a table for DC where the pass has DC, also in a refinement, and
-- one for AC where it has AC.
unfoldable pub component_coding : Said → Frame → Pass → Tables → ℕ → ℕ → ℕ → Result Coding Fault
component_coding said frame p tables index dc_destination ac_destination = do
  component ← needed (slice_get frame.components index)
  table ← needed (slice_index_or said.quantization component.factors.quantization None)
  dc ← needed_if (p.ss == 0) classes.DC (slice_index_or tables.dc dc_destination None)
  ac ← needed_if (nat_lt 0 p.se) classes.AC (slice_index_or tables.ac ac_destination None)
  Ok (record { index = index; component = component; quantization = table; dc = dc; ac = ac })

-- those of a scan's components, with the destinations of their tables
unfoldable pub codings_of : Said → Frame → Scan → Result (List Coding) Fault
codings_of said frame scan =
    gathered
    (λ s. component_coding said frame (pass_of scan) (tables_of said scan) s.0 s.1.0 s.1.1)
    (zip scan.components (zip scan.dc_destinations scan.ac_destinations))

-- how the blocks of each component of a scan are coded, from a slot on
unfoldable pub vias_from : ℕ → List Coding → List Via
vias_from slot [] = []
vias_from slot (c ∷ more) = record { component = slot; dc = c.dc; ac = c.ac } ∷ vias_from (slot + 1)
    more

-- The blocks of a frame's components before a scan: in a progressive frame those kept, and in a
-- sequential one zeros.
unfoldable pub arrays_before : Found → Frame → Arrays
arrays_before found frame = if is_progressive frame.process && found.said.scanned then found.kept
    else zero_arrays frame.components

-- The blocks of the scan's components after it, and the marker after it, if it is met.
unfoldable pub scan_arrays : Found → Frame → Scan → List Coding → List ℕ
    → Outcome (Arrays × Option Marker)
scan_arrays found frame scan codings bytes =
    let components = map (λ c. c.component) codings in
    arrays_at (pass_of scan) (found.said.restart * mcu_size components) (vias_from 0 codings)
    (spots_of frame components)
    (map (λ c. get_or (arrays_before found frame) c.index []) codings) bytes

-- ---- after a scan

-- A pass at level 0 finishes its indices.
unfoldable pub finished_by : Pass → List Bool → List Bool
finished_by p marks = if p.al == 0
    then take p.ss marks ++ (replicate (suc p.se - p.ss) true ++ drop (suc p.se) marks) else marks

-- The first plane stays.
abbrev pub decided : Option (List ℕ) → List ℕ → Option (List ℕ)
decided first plane = Some (unwrap_or first plane)

-- A component of the scan whose indices are all finished now: its plane is decided, by the
-- quantization table in force.
unfoldable pub with_plane : Coding → List Block → List Bool → List (Option (List ℕ))
    → List (Option (List ℕ))
with_plane c blocks marks planes =
    if list_all (λ mark. mark) marks
    then slice_set planes c.index (decided (slice_index_or planes c.index None)
    (plane_by c.component c.quantization blocks)) else planes

unfoldable pub with_blocks : Pass → Coding → List Block → Found → Found
with_blocks p c blocks found =
    let marks = finished_by p (slice_index_or found.finished c.index none_finished) in
    record found {
      finished = slice_set found.finished c.index marks;
      planes = with_plane c blocks marks found.planes;
    }

-- with each component of the scan
unfoldable pub with_arrays : Pass → List Coding → Arrays → Found → Found
with_arrays p codings arrays found =
    fold (λ found x. with_blocks p x.0 x.1 found) found (zip codings arrays)

-- the blocks of a scan's components in place of those of the frame
unfoldable pub put_arrays : List Coding → Arrays → Arrays → Arrays
put_arrays codings arrays kept = fold (λ kept x. set kept x.0.index x.1) kept (zip codings arrays)

abbrev pub blocks_after : Found → Frame → List Coding → Arrays → Arrays
blocks_after found frame codings arrays = if is_progressive frame.process
    then put_arrays codings arrays (arrays_before found frame) else []

-- what was found, where a scan was read
abbrev pub once_scanned : Found → Found
once_scanned found = with_said (λ said. record said { scanned = true }) found

unfoldable pub after_scan : Found → Frame → Scan → List Coding → Arrays → Found
after_scan found frame scan codings arrays =
    let kept = blocks_after found frame codings arrays in
    with_arrays (pass_of scan) codings arrays (record (once_scanned found) { kept = kept })

-- The marker after a scan, where restart markers at its end are passed over, fewer than this many.
unfoldable pub after_restarts : ℕ → Option Marker → List ℕ → Outcome (Option Marker)
after_restarts zero met bytes = Err End
after_restarts (suc turns) (Some (RST n)) bytes =
    next_marker bytes >>= (λ m. after_restarts turns (Some m.0) m.1)
after_restarts (suc turns) met bytes = Ok (met, bytes)

abbrev pub scan_before : Found → Before
scan_before found = if found.said.scanned then LaterScan else FirstScan

-- what a scan leads to: what is found after it, and the marker after it, if it is met
abbrev pub scan_turn : Found → Found → Option Marker → Turn
scan_turn found after met = record (onward after) { before = scan_before found; met = met }

-- A scan of blocks.
unfoldable pub blocks_scan : Found → Frame → Scan → List ℕ → Outcome Turn
blocks_scan found frame scan bytes = do
  codings ← codings_of found.said frame scan
  read ← scan_arrays found frame scan codings bytes
  met ← after_restarts (suc (length read.1)) read.0.1 read.1
  Ok (scan_turn found (after_scan found frame scan codings read.0.0) met.0, met.1)

-- The samples of a lossless scan, and the marker after it, if it is met.
abbrev pub scan_samples : Found → Frame → Scan → List LosslessCoding → List ℕ
    → Outcome (List (List ℕ) × Option Marker)
scan_samples found frame scan codings bytes =
    scan_at (way_of frame scan.predictor scan.point_transform codings) (mcus_down frame codings)
    found.said.restart scan.point_transform bytes

-- The last scan of a component decides its samples.
abbrev pub after_samples : Found → List LosslessCoding → List (List ℕ) → Found
after_samples found codings planes =
    let samples = with_samples (map (λ k. k.index) codings) planes found.samples in
    record (once_scanned found) { samples = samples }

-- A lossless scan. It has no quantization tables, and no default tables.
unfoldable pub lossless_scan : Found → Frame → Scan → List ℕ → Outcome Turn
lossless_scan found frame scan bytes = do
  codings ← lossless_codings found.said.huffman.dc frame scan.components scan.dc_destinations
  read ← scan_samples found frame scan codings bytes
  met ← after_restarts (suc (length read.1)) read.0.1 read.1
  Ok (scan_turn found (after_samples found codings read.0.0) met.0, met.1)

abbrev pub scan_by : CodingProcess → Found → Frame → Scan → List ℕ → Outcome Turn
scan_by Lossless found frame scan bytes = lossless_scan found frame scan bytes
scan_by _ found frame scan bytes = blocks_scan found frame scan bytes

unfoldable pub scan_segment : Found → List ℕ → Outcome Turn
scan_segment found bytes = do
  frame ← needed found.said.frame
  scan ← sos_at frame bytes
  scan_by frame.process found frame scan.0 scan.1
