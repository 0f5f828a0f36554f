-- Scripts: the scans that are sent of an image, one after the other (T.81, B.2.3 and G.1.1.1), the
-- tables that suffice for them, and the scans that a written stream has.
use Rattle.std.specs.Prelude.{◌≡◌, ◌≢◌, ℕ, ◌+◌, ◌*◌, ◌<◌, ◌≤◌, ◌==◌, ◌&&◌, nat_le, Bool, true}
use Rattle.std.specs.Prelude.{false, List, [], ◌∷◌, length, map, Option, Some, None, if◌then◌else◌}
use Rattle.std.specs.List.{AllByRecursion, list_any, range_with_len}
use Rattle.jpeg_bits.specs.Codes.{Table}
use Rattle.jpeg_bits.specs.Passes.{Pass}
use Rattle.jpeg_bits.specs.Written.{IsCoded}
use Rattle.jpeg_segments.specs.Frame.{Frame}
use Rattle.jpeg_segments.specs.ScanHeaders.{IsScan, ScanHeader, selectors_in}
use Rattle.jpeg_segments.specs.WrittenSegments.{frame_written, FrameHeader, Segment}
use Rattle.jpeg_segments.specs.declared.frame.CodingProcess.{CodingProcess}
use Rattle.jpeg_segments.specs.declared.frame.CodingProcess.TheVariants.{DctSequential}
use Rattle.jpeg_meaning.specs.Found.{Said}
use Rattle.jpeg_meaning.specs.FrameSamples.{AreBytes, FitsFields}
use Rattle.jpeg_meaning.specs.Levels.{Levels}
use Rattle.jpeg_meaning.specs.ScanSegments.{Coding, is_progressive}
use Rattle.jpeg_meaning.specs.WrittenImages.{WritesImage}
use Rattle.jpeg_meaning.specs.WrittenScans.{Coefficients}
use Rattle.jpeg_meaning.specs.WrittenStreams.{end, scan, segment, Writes}

-- ---- tables that suffice

-- a table has a code for this symbol
abbrev pub HasCode : Table → ℕ → Type 0
HasCode table symbol = (code : List Bool) × IsCoded table symbol code

-- It has one for each category of DC differences of 8-bit samples (F.1.2.1).
abbrev pub HasDcCodes : Table → Type 0
HasDcCodes table = (s : ℕ) → s ≤ 11 → HasCode table s

-- the greatest category of AC coefficients of 8-bit samples: 10, and 1 in a refinement
abbrev pub greatest_category : Bool → ℕ
greatest_category true = 10
greatest_category false = 1

-- It has one for each run of up to 15 zeros before a value of a category of at most `most`, for
-- sixteen zeros, and for the end of a block (F.1.2.2 and G.1.2).
pub record HasAcCodes (most : ℕ) (table : Table) : Type 0 where
  pub value : (r s : ℕ) → r ≤ 15 → 1 ≤ s → s ≤ most → HasCode table (16 * r + s)
  pub sixteen : HasCode table (16 * 15 + 0)
  pub ended : HasCode table (16 * 0 + 0)

-- The tables of a component have a code for each symbol that the pass may need.
pub record Suffices (p : Pass) (k : Coding) : Type 0 where
  pub dc : p.ss ≡ 0 → p.is_first ≡ true → HasDcCodes k.dc
  pub ac : 0 < p.se → HasAcCodes (greatest_category p.is_first) k.ac

-- ---- scripts

-- A scan of a script: its header, and the restart interval that is in force for it.
pub record ScriptedScan : Type 0 where
  pub header : ScanHeader
  pub restart : ℕ

-- The level at which each coefficient was sent last, by the index of its component in the frame and
-- its own index in zigzag order. None where no scan has sent it.
abbrev pub SentLevels : Type 0
SentLevels = ℕ → ℕ → Option ℕ

abbrev pub none_sent : SentLevels
none_sent index k = None

-- the indices of a scan's components in the frame
abbrev pub indices_in : ScanHeader → List ℕ
indices_in h = map (λ s. s.component) (selectors_in h)

-- The index of the last coefficient that a scan codes: Se, and in a sequential scan 63, also where
-- Se is 0.
abbrev pub last_in : CodingProcess → ScanHeader → ℕ
last_in DctSequential h = 63
last_in _ h = h.last

-- A scan may code a component of which so much was sent: in a first scan (Ah = 0) none of its
-- coefficients was sent, in a refinement all of them were at level Ah, and a scan of AC alone comes
-- after DC. The level Al is at most 7, below the precision of 8 bits.
pub record Allows (process : CodingProcess) (h : ScanHeader) (sent : ℕ → Option ℕ) : Type 0 where
  pub low : h.low ≤ 7
  pub first : h.high ≡ 0 → (k : ℕ) → h.first ≤ k → k ≤ last_in process h → sent k ≡ None
  pub refined : h.high ≢ 0 → (k : ℕ) → h.first ≤ k → k ≤ last_in process h → sent k ≡ Some h.high
  pub after_dc : h.first ≢ 0 → sent 0 ≢ None

-- After it, the coefficients that it codes of its components were sent at level Al.
abbrev pub sent_after_scan : CodingProcess → ScanHeader → SentLevels → SentLevels
sent_after_scan process h sent index k =
    if list_any (λ i. index == i) (indices_in h)
    && (nat_le h.first k && nat_le k (last_in process h))
    then Some h.low else sent index k

-- A scan keeps the rules of its header, each of its components allows it, and its restart interval
-- fits its field.
pub record IsLegalHere (frame : Frame) (sent : SentLevels) (s : ScriptedScan) : Type 0 where
  pub is_scan : IsScan frame s.header
  pub allowed :
      AllByRecursion (λ index. Allows frame.process s.header (sent index)) (indices_in s.header)
  pub fits : s.restart < 65536

-- Each is legal after those before it.
unfoldable pub AreLegal : Frame → SentLevels → List ScriptedScan → Type 0
AreLegal frame sent [] = Unit {0}
AreLegal frame sent (s ∷ more) =
    IsLegalHere frame sent s
    × AreLegal frame (sent_after_scan frame.process s.header sent) more

-- what was sent after all of them
unfoldable pub sent_by : Frame → SentLevels → List ScriptedScan → SentLevels
sent_by frame sent [] = sent
sent_by frame sent (s ∷ more) = sent_by frame (sent_after_scan frame.process s.header sent) more

-- every bit of each coefficient of the frame was sent
abbrev pub IsAllSent : Frame → SentLevels → Type 0
IsAllSent frame sent =
    (index k : ℕ) → index < length frame.components → k < 64 → sent index k ≡ Some 0

-- A script has scans, each is legal after those before it, and in a sequential frame they send
-- every bit.
pub record IsScript (frame : Frame) (script : List ScriptedScan) : Type 0 where
  pub some : script ≢ []
  pub legal : AreLegal frame none_sent script
  pub whole :
      is_progressive frame.process ≡ false → IsAllSent frame (sent_by frame none_sent script)

-- The levels of a component are those of its coefficients.
pub record AreLevelsOf (sent : ℕ → Option ℕ) (l : Levels) : Type 0 where
  pub dc : l.dc ≡ sent 0
  pub acs : l.acs ≡ map sent (range_with_len 1 63)

-- ---- the scans of a stream

-- the headers of its scans, in order, with the restart intervals in force
unfoldable pub scans_in : {Sent : Type 0} {may : Said → Segment → Type 0}
    {scans : Said → Sent → Frame → ScanHeader → List ℕ → Sent → Type 0}
    {ends : Said → Sent → List ℕ → Type 0} {said final : Said} {sent last : Sent} {bytes : List ℕ}
    → Writes may scans ends said sent bytes final last → List ScriptedScan
scans_in (end said sent bytes e) = []
scans_in (segment said final sent last fill s more stands may w) = scans_in w
scans_in (scan said final sent next last frame fill h data_bytes more framed is sends w) =
    record { header = h; restart = said.restart } ∷ scans_in w

-- They are a stream for the array, in a frame with this header, whose scans are those of the
-- script; and bytes where the header fits its fields.
pub record IsWrittenUnder (number : ℕ) (h : FrameHeader) (script : List ScriptedScan)
    (array : Coefficients) (bytes : List ℕ) : Type 0 where
  pub final : Said
  pub last : ℕ → Levels
  pub written : WritesImage array bytes final last
  pub framed : final.frame ≡ Some (frame_written number h)
  pub scripted : scans_in written.written ≡ script
  pub sent :
      (index : ℕ) →
      AreLevelsOf (sent_by (frame_written number h) none_sent script index) (last index)
  pub are_bytes : FitsFields h → AreBytes bytes
