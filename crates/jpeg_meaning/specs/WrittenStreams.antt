-- Streams of any kind as a writer emits them, segment by segment and scan by scan (T.81, B.2.1).
-- Nothing here reads bytes.
use Rattle.std.specs.Prelude.{◌≡◌, ℕ, true, List, [], ◌∷◌, ◌++◌, Some}
use Rattle.jpeg_bits.specs.Written.{marker}
use Rattle.jpeg_segments.specs.Frame.{Frame}
use Rattle.jpeg_segments.specs.ScanHeaders.{ScanHeader, scan_payload, IsScan}
use Rattle.jpeg_segments.specs.WrittenSegments.{marker_code, payload_of, Segment, with_length}
use Rattle.jpeg_meaning.specs.Found.{Said}
use Rattle.jpeg_meaning.specs.SaidSegments.{Stands, said_after}

-- Segments and scans up to an end: what was said and what scans have sent before them, their bytes,
-- and the same at the end. By the kind of the stream, `may` says which segments may stand where so
-- much was said, `scans` what the data of a scan are and what is sent after it, and `ends` which
-- bytes the end has.
pub data Writes {Sent : Type 0} (may : Said → Segment → Type 0)
    (scans : Said → Sent → Frame → ScanHeader → List ℕ → Sent → Type 0)
    (ends : Said → Sent → List ℕ → Type 0)
    : Said → Sent → List ℕ → Said → Sent → Type 0 where
  end : (said : Said) (sent : Sent) (bytes : List ℕ)
      → ends said sent bytes → Writes may scans ends said sent bytes said sent
  segment : (said final : Said) (sent last : Sent) (fill : ℕ) (s : Segment) (more : List ℕ)
      → Stands said s → may said s
      → Writes may scans ends (said_after said s) sent more final last
      → Writes may scans ends said sent
      (marker fill (marker_code s) (with_length (payload_of s) ++ more)) final last
  scan : (said final : Said) (sent next last : Sent) (frame : Frame) (fill : ℕ) (h : ScanHeader)
      (data_bytes more : List ℕ)
      → said.frame ≡ Some frame → IsScan frame h → scans said sent frame h data_bytes next
      → Writes may scans ends (record said { scanned = true }) next more final last
      → Writes may scans ends said sent
      (marker fill 218 (with_length (scan_payload h) ++ (data_bytes ++ more))) final last

-- SOI, and after it bytes of which this holds.
pub record Starts (rest : List ℕ → Type 0) (bytes : List ℕ) : Type 0 where
  pub after : List ℕ
  pub starts : bytes ≡ 255 ∷ 216 ∷ after
  pub written : rest after

-- EOI, where this holds of the frame.
pub record Closes (may_end : Frame → Type 0) (said : Said) (bytes : List ℕ) : Type 0 where
  pub frame : Frame
  pub fill : ℕ
  pub is_said : said.frame ≡ Some frame
  pub ended : may_end frame
  pub closed : bytes ≡ marker fill 217 []
