-- Scripts of lossless streams: the scans that are sent of samples, one after the other (T.81, B.2.3
-- and Annex H).
use Rattle.std.specs.Prelude.{◌≡◌, ℕ, ◌<◌, true, List, length, map, flat_map, slice_get, Some}
use Rattle.std.specs.List.{AllByRecursion}
use Rattle.jpeg_bits.specs.DefaultTables.{names}
use Rattle.jpeg_segments.specs.Frame.{Frame}
use Rattle.jpeg_segments.specs.ScanHeaders.{IsScan}
use Rattle.jpeg_segments.specs.WrittenSegments.{frame_written, FrameHeader}
use Rattle.jpeg_lossless.specs.Scans.{is_of_rows}
use Rattle.jpeg_meaning.specs.Found.{Said}
use Rattle.jpeg_meaning.specs.FrameSamples.{AreBytes, FitsFields}
use Rattle.jpeg_meaning.specs.LosslessScans.{LosslessCoding, mcus_across, mcus_down}
use Rattle.jpeg_meaning.specs.Scripts.{indices_in, scans_in, ScriptedScan}
use Rattle.jpeg_meaning.specs.WrittenLossless.{Samples, WritesSamples}

-- The restart interval of a scan is none, whole rows of its MCUs, or at least the whole scan,
-- whichever tables its components have.
abbrev pub IsOfRows : Frame → ScriptedScan → Type 0
IsOfRows frame s =
    (codings : List LosslessCoding) → map (λ k. k.index) codings ≡ indices_in s.header →
    AllByRecursion (λ k. slice_get frame.components k.index ≡ Some k.component) codings →
    is_of_rows (mcus_across frame codings) (mcus_down frame codings) s.restart ≡ true

-- A scan keeps the rules of its header and has no point transform, and its restart interval is one
-- of rows and fits its field.
pub record IsLosslessScan (frame : Frame) (s : ScriptedScan) : Type 0 where
  pub is_scan : IsScan frame s.header
  pub point : s.header.low ≡ 0
  pub rows : IsOfRows frame s
  pub fits : s.restart < 65536

-- A script has such scans, and each component of the frame is in one of them or more.
pub record IsLosslessScript (frame : Frame) (script : List ScriptedScan) : Type 0 where
  pub scans : AllByRecursion (IsLosslessScan frame) script
  pub whole :
      (index : ℕ) → index < length frame.components →
      names (flat_map (λ s. indices_in s.header) script) index ≡ true

-- They are a stream for these samples, in a frame with this header, whose scans are those of the
-- script; and bytes where the header fits its fields.
pub record AreWrittenUnder (h : FrameHeader) (script : List ScriptedScan) (samples : Samples)
    (bytes : List ℕ) : Type 0 where
  pub final : Said
  pub written : WritesSamples samples bytes final
  pub framed : final.frame ≡ Some (frame_written 3 h)
  pub scripted : scans_in written.written.written ≡ script
  pub are_bytes : FitsFields h → AreBytes bytes
