-- What the decoder's own clauses need beside the meaning of a stream: what a caller sees after a
-- segment, the marker after a scan, and the components of a scan with their tables.
use Rattle.std.specs.Prelude.{◌≡◌, ◌<◌, ◌≤◌, ℕ, suc, ◌&&◌, not, is_some, slice_set, ◌*◌}
use Rattle.std.specs.Prelude.{◌/◌, min, List, [], ◌∷◌, drop, map, set, length, replicate, get_or}
use Rattle.std.specs.Prelude.{Bool, true, false, Option, slice_get, slice_index_or, Some, None}
use Rattle.std.specs.Prelude.{Result, Ok, Err, if◌then◌else◌, All, IfOk, MatchResult, OnErr, OnOk}
use Rattle.jpeg_bits.specs.Reading.{Names, Outcome, Fault, Malformed, ◌>>=◌}
use Rattle.jpeg_bits.specs.Codes.{Table}
use Rattle.jpeg_bits.specs.DefaultTables.{luminance_dc, chrominance_dc, luminance_ac}
use Rattle.jpeg_bits.specs.DefaultTables.{chrominance_ac, with_defaults}
use Rattle.jpeg_bits.specs.declared.error.Error.{Error}
use Rattle.jpeg_bits.specs.declared.error.Error.TheVariants as errors
use Rattle.jpeg_bits.specs.declared.marker.Marker.{Marker}
use Rattle.jpeg_bits.specs.declared.marker.Marker.TheVariants.{RST}
use Rattle.jpeg_segments.specs.Frame.{AllHaveSampling, Frame, Component}
use Rattle.jpeg_pixels.specs.Planes.{cropped}
use Rattle.jpeg_segments.specs.Scales.{is_scale}
use Rattle.jpeg_meaning.specs.Scans.{Arrays, arrays_at, no_table, zero_arrays}
use Rattle.jpeg_decoder.specs.Scanning.{arrays_in, scan_components, BlockScan}
use Rattle.jpeg_meaning.specs.Order.{spots_of, mcu_size}
use Rattle.jpeg_decoder.specs.declared.scan.decoded.Decoded.{Decoded}
use Rattle.jpeg_bits.specs.Passes.{Pass, whole_pass}
use Rattle.std.specs.List.{list_all, AllByRecursion}
use Rattle.jpeg_segments.specs.FrameView.{component_in}
use Rattle.jpeg_segments.specs.ScanHeader as headers
use Rattle.jpeg_meaning.specs.InTurn.{Fits}
use Rattle.jpeg_decoder.specs.declared.stream.state.Step.{Step}
use Rattle.jpeg_decoder.specs.declared.scan.coded.Coded.{Coded}
use Rattle.jpeg_decoder.specs.declared.scan.codings.Spare.{Spare}
use Rattle.jpeg_bits.specs.declared.huffman.codes.HuffmanTableClass.TheVariants as classes
use Rattle.jpeg_segments.specs.Checks.{needed}
use Rattle.jpeg_meaning.specs.ScanSegments.{component_coding, components_of, Coding, tables_of}
use Rattle.jpeg_meaning.specs.ScanSegments.{codings_of, pass_of, after_restarts, finished_by}
use Rattle.jpeg_meaning.specs.ScanSegments.{blocks_after}
use Rattle.jpeg_meaning.specs.ScanSegments.{with_arrays, decided, arrays_before, once_scanned}
use Rattle.jpeg_meaning.specs.ScanSegments.{is_progressive, vias_from, after_samples, scan_samples}
use Rattle.jpeg_meaning.specs.Segments.{Turn}
use Rattle.jpeg_meaning.specs.Found.{Found, none_finished, Said}
use Rattle.jpeg_meaning.specs.FoundPictures.{is_as_large}
use Rattle.jpeg_meaning.specs.LosslessScans.{lossless_codings}
use Rattle.jpeg_meaning.specs.Sound.{IsSound, IsUnread}
use Rattle.jpeg_meaning.specs.Stream.{told_of}
use Rattle.jpeg_meaning.specs.Work.{is_above, work_of_header}
use Rattle.jpeg_segments.specs.declared.frame.CodingProcess.{CodingProcess}
use Rattle.jpeg_segments.specs.declared.frame.CodingProcess.TheVariants.{DctSequential}
use Rattle.jpeg_segments.specs.declared.frame.CodingProcess.TheVariants.{DctProgressive, Lossless}
use Rattle.jpeg_decoder.specs.PlanesView.{planes_in}
use Rattle.jpeg_decoder.specs.Strips.{no_samples}

abbrev pub turn_of : Found → Step → Turn
turn_of found step =
    record { found = found; before = step.before; met = step.met; ended = step.ended }

-- What a segment does to what was found before it, beside what it says. A refusal changes nothing
-- that a caller is told; an image ends with a frame; a frame that was read stays; and what holds
-- between segments still does.
pub record IsStep (old : Found) (result : Result Step Error) (new : Found) : Type 0 where
  pub kept : OnErr result (told_of new.said ≡ told_of old.said)
  pub framed : IfOk result (λ s. s.ended ≡ true → is_some new.said.frame ≡ true)
  pub stays : is_some old.said.frame ≡ true → new.said.frame ≡ old.said.frame
  pub sound : IsSound old → OnOk result (IsSound new)
  pub unread : old.said.frame ≡ None → IsUnread old → OnOk result (IsUnread new)

-- ---- after a scan

-- whether a restart marker is met
abbrev pub is_restart_marker : Option Marker → Bool
is_restart_marker (Some (RST n)) = true
is_restart_marker _ = false

-- the marker after a scan, where all restart markers are passed over
unfoldable pub after_all : Option Marker → List ℕ → Outcome (Option Marker)
after_all met bytes = after_restarts (suc (length bytes)) met bytes

-- ---- the tables of a scan

-- the default tables at the destinations that a scan names, where a frame of an MJPEG stream was
-- named
abbrev pub default_dc : Bool → List ℕ → List (Option Table)
default_dc is_mjpeg named = if is_mjpeg then with_defaults luminance_dc chrominance_dc named
    (replicate 4 None) else []

abbrev pub default_ac : Bool → List ℕ → List (Option Table)
default_ac is_mjpeg named = if is_mjpeg then with_defaults luminance_ac chrominance_ac named
    (replicate 4 None) else []

-- the table at a destination, or else the spare one there
abbrev pub or_spare : Option Table → Option Table → Option Table
or_spare (Some table) spare = Some table
or_spare None spare = spare

abbrev pub in_force : List (Option Table) → List (Option Table) → ℕ → Option Table
in_force tables spare destination = or_spare (slice_index_or tables destination None)
    (slice_index_or spare destination None)

-- the table where it is needed, and else another
abbrev pub table_if : Bool → Table → Option Table → Result Table Fault
table_if true other table = needed table
table_if false other table = Ok other

-- what a caller sees of a component of a scan
abbrev pub coding_in : Coded → Coding
coding_in c =
    record {
      index = c.index;
      component = component_in c.component.now;
      quantization = c.quantization.now;
      dc = c.dc.now;
      ac = c.ac.now;
    }

-- a component is decoded at a scale
abbrev pub HasScale : Component → Type 0
HasScale c = is_scale c.scale ≡ true

-- the component in a slot of a scan
abbrev pub coding_in_slot : Said → Frame → headers.Scan → ℕ → Result Coding Fault
coding_in_slot said frame scan slot =
    component_coding said frame (pass_of scan) (tables_of said scan)
    (get_or scan.components slot 0)
    (get_or scan.dc_destinations slot 0) (get_or scan.ac_destinations slot 0)

-- The spare tables of a scan: the default ones by what was said, and one without codes of each
-- class, in place of those that it doesn't need.
pub record IsSpareOf (said : Said) (scan : headers.Scan) (spare : Spare) : Type 0 where
  pub dc : spare.dc.items ≡ default_dc said.metadata.avi1 scan.dc_destinations
  pub ac : spare.ac.items ≡ default_ac said.metadata.avi1 scan.ac_destinations
  pub no_dc : spare.no_dc ≡ no_table classes.DC
  pub no_ac : spare.no_ac ≡ no_table classes.AC

-- A scan of blocks as its header says, with the tables in force.
pub record IsScanBy (said : Said) (frame : Frame) (header : headers.Scan) (s : BlockScan)
    : Type 0 where
  pub pass : s.pass ≡ pass_of header
  pub restart : s.restart_interval ≡ said.restart
  pub codings : codings_of said frame header ≡ Ok s.codings
  pub count : length s.codings ≡ length header.components

-- ---- blocks and planes

-- a state with what scans have given
abbrev pub with_decoded : Found → Decoded → Found
with_decoded found d = record found {
  kept = arrays_in d.kept.items;
  finished = d.finished;
  planes = d.planes;
  samples = planes_in d.samples;
}

-- Planes with that of a component: where all of these indices are finished the first one decides.
unfoldable pub decided_planes : List Bool → ℕ → List ℕ → List (Option (List ℕ))
    → List (Option (List ℕ))
decided_planes marks index plane planes = if list_all (λ mark. mark) marks
    then slice_set planes index (decided (slice_index_or planes index None) plane) else planes

-- the finished indices of a component after a pass
abbrev pub marks_after : Pass → List (List Bool) → ℕ → List Bool
marks_after p finished index = finished_by p (slice_index_or finished index none_finished)

-- whether the plane of a component is decided now
abbrev pub is_wanted : List Bool → Option (List ℕ) → Bool
is_wanted marks plane = list_all (λ mark. mark) marks && not (is_some plane)

-- a component of the scan with its plane
unfoldable pub with_its_plane : Pass → ℕ → List ℕ → Found → Found
with_its_plane p index plane found = record found {
  finished = slice_set found.finished index (marks_after p found.finished index);
  planes = decided_planes (marks_after p found.finished index) index plane found.planes;
}

-- each component of the scan with its plane
unfoldable pub with_planes : Pass → List Coding → List (List ℕ) → Found → Found
with_planes p (c ∷ codings) (plane ∷ planes) found =
    with_planes p codings planes (with_its_plane p c.index plane found)
with_planes p _ _ found = found

-- the plane of a component is decided
abbrev pub IsDecided : List (Option (List ℕ)) → Coding → Type 0
IsDecided planes c = is_some (slice_index_or planes c.index None) ≡ true

-- those of all components of a scan after the first k are
abbrev pub AreDecidedFrom : ℕ → List (Option (List ℕ)) → List Coding → Type 0
AreDecidedFrom k planes codings = All (IsDecided planes) (drop k codings)

-- the first components of the scan, each with its plane, and then the others, whose planes are
-- decided
abbrev pub with_first_planes : Pass → List Coding → List (List ℕ) → Found → Found
with_first_planes p codings planes found =
    let others = drop (length planes) codings in
    with_planes p others (no_samples others) (with_planes p codings planes found)

-- the blocks of a scan's components, of those of a frame
abbrev pub blocks_at : List Coding → Arrays → Arrays
blocks_at codings kept = map (λ c. get_or kept c.index []) codings

-- the blocks before a scan of a frame, by whether another was read before it
abbrev pub blocks_before : Bool → Decoded → Frame → Arrays
blocks_before scanned d frame = if is_progressive frame.process && scanned
    then arrays_in d.kept.items else zero_arrays frame.components

-- the data of a scan: what is found after it, and the marker after it, if it is met
unfoldable pub scan_data : Found → Frame → Pass → List Coding → List ℕ
    → Outcome (Found × Option Marker)
scan_data found frame p codings bytes = do
  r ← arrays_at p (found.said.restart * mcu_size (components_of codings)) (vias_from 0 codings)
      (spots_of frame (components_of codings))
      (blocks_at codings (arrays_before found frame)) bytes
  Ok (
    (
      with_arrays p codings r.0.0 (record (once_scanned found) {
        kept = blocks_after found frame codings r.0.0;
      }),
      r.0.1,
    ),
    r.1,
  )

-- each index is above the one before
abbrev pub AreRising : List Coding → Type 0
AreRising [] = Unit {0}
AreRising (c ∷ []) = Unit {0}
AreRising (c ∷ d ∷ more) = (c.index < d.index) × AreRising (d ∷ more)

-- a component of a scan is that of the frame at its index
abbrev pub IsCodingOf : Frame → Coding → Type 0
IsCodingOf frame c = slice_get frame.components c.index ≡ Some c.component

-- What was found before a scan: whether another was read, and the restart interval in force.
pub record IsBefore (was : Bool) (scan : BlockScan) (found : Found) : Type 0 where
  pub scanned : found.said.scanned ≡ was
  pub restart : scan.restart_interval ≡ found.said.restart

-- What a scan of a frame needs to be read.
pub record IsReadable (frame : Frame) (scan : BlockScan) : Type 0 where
  pub some : 1 ≤ length scan.codings
  pub fits : AllByRecursion (Fits frame) (scan_components scan)
  pub of_frame : AllByRecursion (IsCodingOf frame) scan.codings
  pub rising : AreRising scan.codings
  pub sampling : AllHaveSampling frame.components

-- the components of a scan are those of the frame in their order
abbrev pub IsInOrder : List Coding → Type 0
IsInOrder codings = (slot : ℕ) (d : Coding) → slot < length codings
    → (get_or codings slot d).index ≡ slot

-- No plane is decided, and a scan codes all coefficients of the components of its frame.
pub record IsFirst (planes : List (Option (List ℕ))) (scan : BlockScan) : Type 0 where
  pub none : planes ≡ replicate 4 None
  pub whole : scan.pass ≡ whole_pass
  pub in_order : IsInOrder scan.codings

-- those of the frame that are left
unfoldable pub without_blocks : List Coding → Arrays → Arrays
without_blocks [] kept = kept
without_blocks (c ∷ more) kept = without_blocks more (set kept c.index [])

-- a plane of a component, cropped to a size as far as the plane goes
abbrev pub cropped_to : Component → ℕ → ℕ → List ℕ → List ℕ
cropped_to c width height plane =
    let stride = c.scale * c.blocks_wide in
    cropped stride (min width stride) (min height (length plane / stride)) plane

-- The plane of a component has the samples of its own size.
pub record HasOwnSize (c : Component) (plane : List ℕ) : Type 0 where
  pub wide : c.width ≤ c.scale * c.blocks_wide
  pub lines : c.height * (c.scale * c.blocks_wide) ≤ length plane

-- the plane of a component has a sample for each pixel of a picture
pub record CoversPicture (frame : Frame) (c : Component) (plane : List ℕ) : Type 0 where
  pub high : ℕ
  pub whole : length plane ≡ high * (c.scale * c.blocks_wide)
  pub wide : frame.output_width ≤ c.scale * c.blocks_wide
  pub lines : frame.output_height ≤ high

-- that of the first component does, where that is as large as the picture
abbrev pub FirstCovers : Frame → List ℕ → Type 0
FirstCovers frame plane =
    (c : Component) → slice_get frame.components 0 ≡ Some c → is_as_large frame c ≡ true
    → CoversPicture frame c plane

-- ---- a scan

-- a process by blocks
abbrev pub IsDct : CodingProcess → Type 0
IsDct DctSequential = Unit {0}
IsDct DctProgressive = Unit {0}
IsDct Lossless = ⊥

-- a lossless scan
unfoldable pub samples_read : Found → Frame → headers.Scan → List ℕ
    → Outcome (Found × Option Marker)
samples_read found frame scan bytes = do
  codings ← lossless_codings found.said.huffman.dc frame scan.components scan.dc_destinations
  r ← scan_samples found frame scan codings bytes
  met ← after_all r.0.1 r.1
  Ok ((after_samples found codings r.0.0, met.0), met.1)

-- a scan of blocks
unfoldable pub blocks_read : Found → Frame → headers.Scan → List ℕ
    → Outcome (Found × Option Marker)
blocks_read found frame scan bytes = do
  codings ← codings_of found.said frame scan
  r ← scan_data found frame (pass_of scan) codings bytes
  met ← after_all r.0.1 r.1
  Ok ((r.0.0, met.0), met.1)

-- a scan of either
abbrev pub read_by : CodingProcess → Found → Frame → headers.Scan → List ℕ
    → Outcome (Found × Option Marker)
read_by Lossless found frame scan bytes = samples_read found frame scan bytes
read_by _ found frame scan bytes = blocks_read found frame scan bytes

-- the header of a scan, which needs a frame
abbrev pub header_at : Found → List ℕ → Outcome headers.Scan
header_at found bytes = needed found.said.frame >>= λ frame. headers.sos_at frame bytes

-- that of a scan of no more blocks than are left
abbrev pub header_within : Option ℕ → Found → List ℕ → Outcome headers.Scan
header_within left found bytes =
    if is_above left (work_of_header found bytes) then Err Malformed else header_at found bytes

-- what is read after it
abbrev pub read_after : Found → headers.Scan → List ℕ → Outcome (Found × Option Marker)
read_after found scan bytes =
    needed found.said.frame >>= λ frame. read_by frame.process found frame scan bytes

-- The frame that was found has such a scan.
pub record IsHeaderOf (found : Found) (scan : headers.Scan) : Type 0 where
  pub frame : Frame
  pub framed : found.said.frame ≡ Some frame
  pub legal : headers.IsScanOf frame scan

-- ---- refusals

-- an error that a call with no source answers
abbrev pub IsRefusal : Error → Type 0
IsRefusal (errors.Format text) = Unit {0}
IsRefusal (errors.Unsupported feature) = Unit {0}
IsRefusal (errors.Io e) = ⊥
IsRefusal (errors.Internal text) = ⊥
IsRefusal errors.OutOfMemory = Unit {0}

-- A call returns what is expected, seen by a view, or names the fault that is expected.
abbrev pub Returns : {V X : Type 0} → Result V Fault → (X → V) → Result X Error → Type 0
Returns expected view result = MatchResult result (λ x. expected ≡ Ok (view x))
    (λ e. IsRefusal e × Names e expected)
