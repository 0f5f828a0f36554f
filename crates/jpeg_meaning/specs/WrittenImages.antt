-- Streams as a writer emits them for the coefficients of an image (T.81, B.2.1): segments by their
-- parameters, and scans in a legal order. Nothing here reads bytes.
use Rattle.std.specs.Prelude.{◌≡◌, ℕ, ◌≤◌, true, false, List, length, map}
use Rattle.std.specs.List.{AllByRecursion, range_with_len}
use Rattle.jpeg_segments.specs.Frame.{Frame}
use Rattle.jpeg_segments.specs.ScanHeaders.{ScanHeader, scan_written}
use Rattle.jpeg_segments.specs.WrittenSegments.{Header, Quantization, Segment}
use Rattle.jpeg_meaning.specs.Levels.{Levels, nothing_sent}
use Rattle.jpeg_meaning.specs.ScanSegments.{Coding, pass_of, is_progressive}
use Rattle.jpeg_meaning.specs.Found.{nothing_said, Said}
use Rattle.jpeg_meaning.specs.WrittenScans.{Coefficients, HasTable, IsComplete, IsLegalScan}
use Rattle.jpeg_meaning.specs.WrittenScans.{levels_after, WritesScan}
use Rattle.jpeg_meaning.specs.WrittenStreams.{Closes, Starts, Writes}

-- Frame headers are SOF0, SOF1 or SOF2, the processes by DCT and Huffman codes; and after a scan
-- comes no quantization table.
abbrev pub MayStandInImage : Said → Segment → Type 0
MayStandInImage said (Quantization ts) = said.scanned ≡ false
MayStandInImage said (Header number h) = number ≤ 2
MayStandInImage said _ = Unit {0}

-- A scan that may be sent where these levels were, and the levels after it.
pub record WritesImageScan (array : Coefficients) (said : Said) (levels : ℕ → Levels)
    (frame : Frame) (h : ScanHeader) (bytes : List ℕ) (next : ℕ → Levels) : Type 0 where
  pub codings : List Coding
  pub legal : IsLegalScan said frame levels (scan_written frame h) codings
  pub written : WritesScan frame said.restart (pass_of (scan_written frame h)) codings array bytes
  pub sent :
      levels_after (pass_of (scan_written frame h)) (map (λ c. c.index) codings) levels ≡ next

-- The end of an image: after a scan, where each component has its quantization table and, in a
-- sequential frame, every bit was sent.
abbrev pub ClosesImage : Said → (ℕ → Levels) → List ℕ → Type 0
ClosesImage said levels bytes =
    Closes (λ frame. (said.scanned ≡ true) × AllByRecursion (HasTable said) frame.components
    × (is_progressive frame.process ≡ false →
    AllByRecursion (λ k. IsComplete (levels k)) (range_with_len 0 (length frame.components))))
    said bytes

-- Segments and scans of an image, up to an end.
abbrev pub WritesPart : Coefficients → (Said → (ℕ → Levels) → List ℕ → Type 0)
    → Said → (ℕ → Levels) → List ℕ → Said → (ℕ → Levels) → Type 0
WritesPart array ends = Writes MayStandInImage (WritesImageScan array) ends

-- A stream for an array: SOI, and then segments and scans up to EOI. `final` is what is said at its
-- end, and `last` what was sent of each coefficient.
abbrev pub WritesImage : Coefficients → List ℕ → Said → (ℕ → Levels) → Type 0
WritesImage array bytes final last =
    Starts (λ after. WritesPart array ClosesImage nothing_said (λ k. nothing_sent) after final last)
    bytes
