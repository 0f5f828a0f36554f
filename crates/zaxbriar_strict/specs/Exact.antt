-- What a strict verdict says of a stream (T.81, B.2.1).
use Rattle.std.specs.Prelude.{◌≡◌, ◌⊎◌, ◌+◌, ◌≤◌, ◌<◌, ◌∷◌, ◌++◌, [], ℕ, List, slice_index}
use Rattle.std.specs.Prelude.{Some, true}
use Rattle.jpeg_bits.specs.Written.{marker}
use Rattle.jpeg_segments.specs.Frame.{Frame}
use Rattle.jpeg_segments.specs.ScanHeaders.{ScanHeader, scan_payload}
use Rattle.jpeg_segments.specs.WrittenSegments.{FrameHeader, Segment, frame_payload, is_known}
use Rattle.jpeg_segments.specs.WrittenSegments.{marker_code, payload_of, with_length}
use Rattle.jpeg_meaning.specs.Found.{Said, nothing_said}
use Rattle.jpeg_meaning.specs.AcceptedFrames.{HasPicture, HasSamples}
use Rattle.jpeg_meaning.specs.Levels.{Is8Bit, Levels, nothing_sent}
use Rattle.jpeg_meaning.specs.SaidSegments.{Stands, said_after}
use Rattle.jpeg_meaning.specs.WholeImages.{AllComplete}
use Rattle.jpeg_meaning.specs.WrittenImages.{MayStandInImage, WritesImage, WritesPart}
use Rattle.jpeg_meaning.specs.WrittenLossless.{IsLossless, Samples, SendsSamples, WritesSamples}
use Rattle.jpeg_meaning.specs.WrittenScans.{Coefficients}
use Rattle.jpeg_meaning.specs.WrittenStreams.{Writes}

-- Segments one after the other, from the start of some bytes up to these others: what was said
-- before them and after.
pub data WritesSegments (start : Said) (bytes : List ℕ) : Said → List ℕ → Type 0 where
  none : WritesSegments start bytes start bytes
  more : (said : Said) (fill : ℕ) (s : Segment) (rest : List ℕ)
      → WritesSegments start bytes said
      (marker fill (marker_code s) (with_length (payload_of s) ++ rest))
      → Stands said s → MayStandInImage said s
      → WritesSegments start bytes (said_after said s) rest

-- A stream that a writer emits for the coefficients of an image.
pub record IsWritten (bytes : List ℕ) : Type 0 where
  pub array : Coefficients
  pub final : Said
  pub last : ℕ → Levels
  pub written : WritesImage array bytes final last
  pub in_range : (index row column : ℕ) → Is8Bit (array index row column)

-- Somewhere stands an Adobe segment (APP14) whose colour transform is none of the three that are
-- defined: T.81 doesn't say what applications write, and no writer here writes it.
pub record HasOtherAdobe (bytes : List ℕ) : Type 0 where
  pub front : List ℕ
  pub fill : ℕ
  pub payload : List ℕ
  pub after : List ℕ
  pub are : bytes ≡ front ++ marker fill 238 (with_length payload ++ after)
  pub adobe : is_known 14 payload ≡ true
  pub other : 2 < slice_index payload 11

-- The frame header of a stream, after SOI and the segments before it.
pub record HasHeader (bytes : List ℕ) : Type 0 where
  pub before : ℕ
  pub after : List ℕ
  pub said : Said
  pub fill : ℕ
  pub number : ℕ
  pub header : FrameHeader
  pub rest : List ℕ
  pub starts : bytes ≡ marker before 216 after
  pub segments : WritesSegments nothing_said after said
      (marker fill (192 + number) (with_length (frame_payload header) ++ rest))

-- These bytes are the others of a stream, where what is written before them is told.
abbrev pub IsUpTo : List ℕ → Said → (ℕ → Levels) → List ℕ → Type 0
IsUpTo others said sent bytes = bytes ≡ others

-- A segment of quantization tables (DQT) stands after a scan, and before it segments and scans that
-- a writer emits for some coefficients: writers here define these tables before the first scan, and
-- T.81 lets them stand after it. These bytes follow SOI.
pub record HasLaterTables (after : List ℕ) : Type 0 where
  pub array : Coefficients
  pub said : Said
  pub sent : ℕ → Levels
  pub fill : ℕ
  pub payload : List ℕ
  pub rest : List ℕ
  pub written : WritesPart array (IsUpTo (marker fill 219 (with_length payload ++ rest)))
      nothing_said (λ k. nothing_sent) after said sent
  pub scanned : said.scanned ≡ true

-- A stream that a writer emits for the coefficients of an image, with all bits of all of them.
pub record IsWhollyWritten (bytes : List ℕ) : Type 0 where
  pub image : IsWritten bytes
  pub frame : Frame
  pub framed : image.final.frame ≡ Some frame
  pub complete : AllComplete frame image.last

-- A sequential frame that has a picture, and so 8 bits a sample.
pub record HasSequentialPicture (number : ℕ) (h : FrameHeader) : Type 0 where
  pub sequential : number ≤ 1
  pub picture : HasPicture h

-- A progressive frame that has a picture, and so 8 bits a sample.
pub record HasProgressivePicture (number : ℕ) (h : FrameHeader) : Type 0 where
  pub progressive : number ≡ 2
  pub picture : HasPicture h

-- Somewhere stands a scan whose level Al is above 7: T.81 has levels up to 13, and writers here
-- send no bits of samples of 8 bits above that. These bytes follow SOI.
pub record HasDeepScan (after : List ℕ) : Type 0 where
  pub front : List ℕ
  pub fill : ℕ
  pub header : ScanHeader
  pub rest : List ℕ
  pub are : after ≡ front ++ marker fill 218 (with_length (scan_payload header) ++ rest)
  pub deep : 7 < header.low

-- A stream that a writer emits for the samples of a lossless image.
pub record IsWrittenForSamples (bytes : List ℕ) : Type 0 where
  pub samples : Samples
  pub final : Said
  pub written : WritesSamples samples bytes final

-- These bytes are the others of a stream, where what is written before them is told.
abbrev pub IsUpToSamples : List ℕ → Said → List ℕ → List ℕ → Type 0
IsUpToSamples others said sent bytes = bytes ≡ others

-- Segments and scans of a lossless image, up to these others.
abbrev pub WritesSamplesPart : Samples → List ℕ → List ℕ → Said → List ℕ → Type 0
WritesSamplesPart samples others after said sent =
    Writes (λ said s. IsLossless s) (SendsSamples samples) (IsUpToSamples others) nothing_said []
    after said sent

-- A scan with a point transform stands after segments and scans that a writer emits for some
-- samples: writers here send samples themselves. These bytes follow SOI.
pub record HasShiftedScan (after : List ℕ) : Type 0 where
  pub samples : Samples
  pub said : Said
  pub sent : List ℕ
  pub fill : ℕ
  pub header : ScanHeader
  pub rest : List ℕ
  pub written : WritesSamplesPart samples
      (marker fill 218 (with_length (scan_payload header) ++ rest)) after said sent
  pub shifted : 1 ≤ header.low

-- A stream with this frame header is written for some coefficients and all their bits, where the
-- frame is sequential or progressive and has a picture, unless it defines quantization tables after
-- a scan, or a scan of a progressive frame has a level Al above 7; and for some samples, where the
-- frame is lossless and has samples, unless a scan has a point transform: without the fill bytes
-- that may stand before SOI.
pub record IsExactFor (bytes : List ℕ) : Type 0 where
  pub headed : HasHeader bytes
  pub written : HasSequentialPicture headed.number headed.header
      → IsWhollyWritten (255 ∷ 216 ∷ headed.after) ⊎ HasLaterTables headed.after
  pub progressive : HasProgressivePicture headed.number headed.header
      → IsWhollyWritten (255 ∷ 216 ∷ headed.after)
      ⊎ (HasLaterTables headed.after ⊎ HasDeepScan headed.after)
  pub samples : HasSamples headed.number headed.header
      → IsWrittenForSamples (255 ∷ 216 ∷ headed.after) ⊎ HasShiftedScan headed.after

abbrev pub IsExact : List ℕ → Type 0
IsExact bytes = IsExactFor bytes ⊎ HasOtherAdobe bytes
