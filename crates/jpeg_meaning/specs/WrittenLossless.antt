-- Lossless streams as a writer emits them for samples (T.81, B.2.1 and Annex H). Nothing here
-- reads bytes.
use Rattle.std.specs.Prelude.{◌≡◌, ℕ, ◌*◌, ◌≤◌, true, List, [], ◌∷◌, ◌++◌, length, map, Some}
use Rattle.std.specs.Prelude.{None, Option, slice_get, slice_index_or, take, zip}
use Rattle.std.specs.List.{AllByRecursion, range_with_len}
use Rattle.jpeg_segments.specs.Frame.{Frame}
use Rattle.jpeg_segments.specs.ScanHeader.{predictor_by}
use Rattle.jpeg_segments.specs.ScanHeaders.{ScanHeader, scan_written, selectors_in}
use Rattle.jpeg_segments.specs.WrittenSegments.{Header, Segment}
use Rattle.jpeg_lossless.specs.Differences.{Part}
use Rattle.jpeg_lossless.specs.Pictures.{picture_by_samples}
use Rattle.jpeg_lossless.specs.Positions.{at_position}
use Rattle.jpeg_lossless.specs.Scans.{is_of_rows, lines_by_component, rows_of_interval, scan_tables}
use Rattle.jpeg_lossless.specs.Written.{WritesRows}
use Rattle.jpeg_bits.specs.Codes.{Table}
use Rattle.jpeg_bits.specs.DefaultTables.{names}
use Rattle.jpeg_bits.specs.Intervals.{first_group, other_groups}
use Rattle.jpeg_bits.specs.Written.{WritesIntervals}
use Rattle.jpeg_meaning.specs.LosslessScans.{LosslessCoding, mcus_across, mcus_down}
use Rattle.jpeg_meaning.specs.LosslessScans.{way_of}
use Rattle.jpeg_meaning.specs.WrittenStreams.{Closes, Starts, Writes}
use Rattle.jpeg_meaning.specs.Found.{nothing_said, Said}

-- By its index in the frame, a component's lines of samples.
abbrev pub Samples : Type 0
Samples = ℕ → List (List ℕ)

-- ---- segments

abbrev pub IsLossless : Segment → Type 0
IsLossless (Header number h) = number ≡ 3
IsLossless _ = Unit {0}

-- ---- a scan

-- A component of a scan, by its index in the frame and the destination of its table, which is
-- defined.
pub record IsSampleCoding (tables : List (Option Table)) (frame : Frame) (slot : ℕ × ℕ)
    (k : LosslessCoding) : Type 0 where
  pub index : slot.0 ≡ k.index
  pub component : slice_get frame.components slot.0 ≡ Some k.component
  pub table : slice_index_or tables slot.1 None ≡ Some k.table

unfoldable pub AreSampleCodings :
    List (Option Table) → Frame → List (ℕ × ℕ) → List LosslessCoding → Type 0
AreSampleCodings tables frame [] [] = Unit {0}
AreSampleCodings tables frame (slot ∷ slots) (k ∷ codings) =
    IsSampleCoding tables frame slot k × AreSampleCodings tables frame slots codings
AreSampleCodings tables frame _ _ = ⊥

-- the lines of a component in the MCUs of a scan, without padding
abbrev pub own_lines : Part → List (List ℕ) → List (List ℕ)
own_lines p lines = map (take p.width) (take p.height lines)

-- The lines of each component in the MCUs of a scan are its samples, with any padding to the right
-- and below.
unfoldable pub HoldSamples
    : Samples → List LosslessCoding → List Part → List (List (List ℕ)) → Type 0
HoldSamples samples [] [] [] = Unit {0}
HoldSamples samples (k ∷ codings) (p ∷ parts) (lines ∷ more) =
    (own_lines p lines ≡ samples k.index) × HoldSamples samples codings parts more
HoldSamples samples _ _ _ = ⊥

-- The data of a scan: differences that give the samples of its components with their predictions,
-- each by its table in force, in whole rows of MCUs, without a point transform.
pub record WritesSamplesScan (said : Said) (frame : Frame) (h : ScanHeader) (samples : Samples)
    (bytes : List ℕ) : Type 0 where
  pub codings : List LosslessCoding
  pub coded :
      let scan = scan_written frame h in
      AreSampleCodings said.huffman.dc frame (zip scan.components scan.dc_destinations) codings
  pub point : h.low ≡ 0
  pub interval :
      is_of_rows (mcus_across frame codings) (mcus_down frame codings) said.restart ≡ true
  pub rows : List (List (Table × ℕ))
  pub tables : map (map (λ x. x.0)) rows
      ≡ scan_tables (way_of frame (predictor_by h.first) 0 codings) (mcus_down frame codings)
  pub kept :
      let w = way_of frame (predictor_by h.first) 0 codings in
      let n = rows_of_interval w.wide (mcus_down frame codings) said.restart in
      let values = map (map (λ x. x.1)) rows in
      HoldSamples samples codings w.parts
      (lines_by_component w 0 w.parts (first_group n values ∷ other_groups n values))
  pub written :
      let n = rows_of_interval (mcus_across frame codings) (mcus_down frame codings)
      said.restart in
      WritesIntervals WritesRows 0 (first_group n rows) (other_groups n rows) bytes

-- ---- a stream

-- A scan, and the components that scans have had after it, by their indices in the frame.
abbrev pub SendsSamples : Samples → Said → List ℕ → Frame → ScanHeader → List ℕ → List ℕ → Type 0
SendsSamples samples said sent frame h bytes next =
    WritesSamplesScan said frame h samples bytes
    × (map (λ s. s.component) (selectors_in h) ++ sent ≡ next)

-- The end of a lossless image: scans have had all components.
abbrev pub ClosesSamples : Said → List ℕ → List ℕ → Type 0
ClosesSamples said sent bytes =
    Closes (λ frame. AllByRecursion (λ k. names sent k ≡ true)
    (range_with_len 0 (length frame.components))) said bytes

-- A stream for samples: SOI, and then segments and scans up to EOI. `final` is what is said at its
-- end, and `sent` the components that scans have had.
pub record WritesSamples (samples : Samples) (bytes : List ℕ) (final : Said) : Type 0 where
  pub sent : List ℕ
  pub written : Starts (λ after. Writes (λ said s. IsLossless s) (SendsSamples samples)
      ClosesSamples nothing_said [] after final sent) bytes

-- ---- its picture

-- The picture of samples: its pixels, line by line.
unfoldable pub picture_of_samples : Frame → Samples → List ℕ
picture_of_samples frame samples = picture_by_samples frame (λ c. at_position (samples c.0))

-- The picture of a frame is within a limit on its samples.
pub record IsWithinLimit (limit : ℕ) (final : Said) (frame : Frame) : Type 0 where
  pub is_said : final.frame ≡ Some frame
  pub limited : length frame.components * (frame.output_width * frame.output_height) ≤ limit
