-- Streams in whose data a marker stands where one bit more is needed, and the meaning takes zeros.
use Rattle.std.specs.Prelude.{◌≡◌, ◌≢◌, ◌*◌, ℕ, suc, List, ◌∷◌, Bool, true, false}
use Rattle.std.specs.Prelude.{Option, None, Result, Ok, Err}
use Rattle.jpeg_bits.specs.Codes.{Table}
use Rattle.jpeg_bits.specs.Entropy.{Broken, Text, text_at}
use Rattle.jpeg_bits.specs.Entropy as entropy
use Rattle.jpeg_bits.specs.Intervals.{first_group, other_groups}
use Rattle.jpeg_bits.specs.Marker.{found_or, next_marker}
use Rattle.jpeg_bits.specs.Passes.{Pass, Via}
use Rattle.jpeg_bits.specs.Reading.{End, Fault, ◌>>=◌}
use Rattle.jpeg_bits.specs.declared.beyond.Beyond.TheVariants.{Nothing}
use Rattle.jpeg_bits.specs.declared.marker.Marker.{Marker}
use Rattle.jpeg_bits.specs.declared.marker.Marker.TheVariants.{SOS}
use Rattle.jpeg_lossless.specs.RowsReached.{rows_reached}
use Rattle.jpeg_lossless.specs.Scans.{rows_of_interval, scan_tables}
use Rattle.jpeg_segments.specs.declared.frame.CodingProcess.TheVariants.{Lossless}
use Rattle.jpeg_segments.specs.Frame.{Frame}
use Rattle.jpeg_segments.specs.ScanHeader.{Scan}
use Rattle.jpeg_meaning.specs.declared.before.Before.{Before}
use Rattle.jpeg_meaning.specs.declared.before.Before.TheVariants.{Elsewhere}
use Rattle.jpeg_meaning.specs.Brought.{after_interval, frame_and_scan, has_whole_rows}
use Rattle.jpeg_meaning.specs.Brought.{interval_reached, interval_rows_reached, reached_from}
use Rattle.jpeg_meaning.specs.Found.{Found, nothing_found}
use Rattle.jpeg_meaning.specs.InTurn.{at_start}
use Rattle.jpeg_meaning.specs.LosslessScans.{LosslessCoding, lossless_codings, mcus_down, way_of}
use Rattle.jpeg_meaning.specs.Order.{Spot, mcu_size, spots_of}
use Rattle.jpeg_meaning.specs.Scans.{Arrays}
use Rattle.jpeg_meaning.specs.ScanSegments.{Coding, codings_of, components_of, pass_of, vias_from}
use Rattle.jpeg_meaning.specs.Segments.{Turn}
use Rattle.jpeg_meaning.specs.Stream.{start_at, turn_at}
use Rattle.jpeg_meaning.specs.LongerStreams.{arrays_of}

-- the bits of a text, and none after them
abbrev pub sealed : Text → Text
sealed t = record t { ending = Broken End }

-- Where this is read of a restart interval's bits, with none after them, its data end early: they
-- end with a marker, and one bit more is needed.
pub record EndsEarly (bytes : List ℕ) (r : Result (List Bool) Fault) : Type 0 where
  pub marker : Marker
  pub rest : List ℕ
  pub ends : (text_at bytes).ending ≡ entropy.Found marker rest
  pub lacks : r ≡ Err End

-- The data of one of the intervals of a scan of blocks end early, and those in front are read.
pub data BlocksEndEarly (p : Pass) (vias : List Via)
    : ℕ → List Spot → List (List Spot) → Arrays → List ℕ → Type 0 where
  here : (k : ℕ) (spots : List Spot) (more : List (List Spot)) (arrays : Arrays) (bytes : List ℕ)
      → EndsEarly bytes (reached_from p vias spots (at_start arrays) (sealed (text_at bytes))).rest
      → BlocksEndEarly p vias k spots more arrays bytes
  later : (k : ℕ) (spots next : List Spot) (more : List (List Spot)) (arrays : Arrays)
      (bytes rest : List ℕ)
      → (interval_reached p vias spots arrays bytes).rest >>= after_interval k ≡ Ok rest
      → BlocksEndEarly p vias (suc k) next more (interval_reached p vias spots arrays bytes).reached
      rest
      → BlocksEndEarly p vias k spots (next ∷ more) arrays bytes

-- The same of one of the intervals of a lossless scan.
pub data RowsEndEarly : ℕ → List (List Table) → List (List (List Table)) → List ℕ → Type 0 where
  here_too : (k : ℕ) (rows : List (List Table)) (more : List (List (List Table)))
      (bytes : List ℕ) → EndsEarly bytes (rows_reached rows (sealed (text_at bytes))).1
      → RowsEndEarly k rows more bytes
  later_too : (k : ℕ) (rows next : List (List Table)) (more : List (List (List Table)))
      (bytes rest : List ℕ)
      → (interval_rows_reached rows bytes).1 >>= after_interval k ≡ Ok rest
      → RowsEndEarly (suc k) next more rest → RowsEndEarly k rows (next ∷ more) bytes

-- The data of a scan, which begins after its marker, end early.
pub data ScanEndsEarly (found : Found) (bytes : List ℕ) : Type 0 where
  of_blocks : (frame : Frame) (scan : Scan) (codings : List Coding) (data_bytes : List ℕ)
      → frame_and_scan found bytes ≡ Ok (frame, (scan, data_bytes)) → frame.process ≢ Lossless
      → codings_of found.said frame scan ≡ Ok codings
      → (let n = found.said.restart * mcu_size (components_of codings) in
      let spots = spots_of frame (components_of codings) in
      BlocksEndEarly (pass_of scan) (vias_from 0 codings) 0 (first_group n spots)
      (other_groups n spots) (arrays_of found frame codings) data_bytes)
      → ScanEndsEarly found bytes
  of_rows : (frame : Frame) (scan : Scan) (codings : List LosslessCoding) (data_bytes : List ℕ)
      → frame_and_scan found bytes ≡ Ok (frame, (scan, data_bytes)) → frame.process ≡ Lossless
      → lossless_codings found.said.huffman.dc frame scan.components scan.dc_destinations
      ≡ Ok codings
      → has_whole_rows found frame scan codings ≡ true
      → (let w = way_of frame scan.predictor scan.point_transform codings in
      let n = rows_of_interval w.wide (mcus_down frame codings) found.said.restart in
      let rows = scan_tables w (mcus_down frame codings) in
      RowsEndEarly 0 (first_group n rows) (other_groups n rows) data_bytes)
      → ScanEndsEarly found bytes

-- Segments in turn come to a scan whose data end early, and none before it has a fault.
pub data SegmentsEndEarly : Before → Found → Option Marker → List ℕ → Type 0 where
  at_scan : (before : Before) (found : Found) (met : Option Marker) (bytes rest : List ℕ)
      → found_or met bytes (next_marker bytes) ≡ Ok (SOS, rest) → ScanEndsEarly found rest
      → SegmentsEndEarly before found met bytes
  later_turn : (before : Before) (found : Found) (met : Option Marker) (bytes : List ℕ) (t : Turn)
      (rest : List ℕ) → (turn_at Nothing before found met bytes).turn ≡ Ok (t, rest)
      → t.ended ≡ false → SegmentsEndEarly t.before t.found t.met rest
      → SegmentsEndEarly before found met bytes

-- In a stream there is such a scan.
abbrev pub StreamEndsEarly : List ℕ → Type 0
StreamEndsEarly bytes = (rest : List ℕ) × (start_at bytes ≡ Ok (tt, rest))
    × SegmentsEndEarly Elsewhere nothing_found None rest
