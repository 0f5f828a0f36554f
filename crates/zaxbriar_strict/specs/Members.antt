-- Scan headers that are taken of their bytes, and what is noted of a scan in its frame (T.81,
-- B.2.3).
use Rattle.std.specs.Prelude.{◌≡◌, ◌≤◌, ◌<◌, ◌++◌, ℕ, true, List, Some, length, map}
use Rattle.std.specs.List.{AllByRecursion}
use Rattle.jpeg_segments.specs.HuffmanTables.{greatest_destination}
use Rattle.jpeg_segments.specs.ScanHeader.{Selector, index_of, is_mcu}
use Rattle.jpeg_segments.specs.ScanHeaders.{AreChoices, choice_bytes, scan_payload}
use Rattle.zaxbriar_strict.specs.Changes.{kept_of}
use Rattle.zaxbriar_strict.specs.Heads.{AreUnsent, IsLosslessFrame, IsSameFrame, IsSentOnce}
use Rattle.zaxbriar_strict.specs.Heads.{IsSequential, choice_of, has_scans}
use Rattle.zaxbriar_strict.specs.Heads.{header_of, sent_with}
use Rattle.zaxbriar_strict.specs.Heads.{is_baseline_process, is_progressive_process, members_of}
use Rattle.zaxbriar_strict.specs.Heads.{SendsPart, lowest_of, pass_in, scan_header_of}
use Rattle.zaxbriar_strict.specs.Heads.{written_frame}
use Rattle.zaxbriar_strict.specs.Progress.{AreNoted}
use Rattle.zaxbriar_strict.specs.declared.frame.Frame.{Frame}
use Rattle.zaxbriar_strict.specs.declared.frame.Process.{Process}
use Rattle.zaxbriar_strict.specs.declared.scan.Member.{Member}
use Rattle.zaxbriar_strict.specs.declared.scan.Scan.{Scan}

-- ---- what is taken

-- components of a scan, by their identifiers and their indices in the frame
abbrev pub choices_of : Frame → List Member → List (ℕ × Selector)
choices_of f ms = map (choice_of (header_of f).components) ms

abbrev pub selectors_of : Frame → List Member → List Selector
selectors_of f ms = map (λ c. c.1) (choices_of f ms)

-- Bytes that begin with a component of the frame, and these others.
pub record TakesMember (f : Frame) (m : Member) (bytes rest : List ℕ) : Type 0 where
  pub identified : index_of (written_frame f).components
      (choice_of (header_of f).components m).0 ≡ Some m.component
  pub within : m.component < length f.components.items
  pub parts : bytes ≡ choice_bytes (choice_of (header_of f).components m) ++ rest

-- The tables' destinations are at most this.
abbrev pub HaveTables : ℕ → List Member → Type 0
HaveTables most ms = AllByRecursion (λ m. (m.dc ≤ most) × (m.ac ≤ most)) ms

-- the greatest destination of Huffman tables
abbrev pub most_tables : Process → ℕ
most_tables p = greatest_destination (Some (is_baseline_process p))

-- The components stand in the frame's order, each once, and an MCU of several has at most 10
-- blocks.
pub record AreMembers (f : Frame) (ms : List Member) : Type 0 where
  pub choices : HaveTables (most_tables f.process) ms
      → AreChoices (written_frame f) 0 (choices_of f ms)
  pub fits : is_mcu (written_frame f) (selectors_of f ms) ≡ true

-- These are the bytes of a scan header.
pub record TakesScan (f : Frame) (s : Scan) (bytes : List ℕ) : Type 0 where
  pub are : bytes ≡ scan_payload (scan_header_of f s)
  pub some : 1 ≤ s.count
  pub most : s.count ≤ 4
  pub sized : length s.members ≡ 4
  pub members : AreMembers f (members_of s)

-- ---- what is noted

-- The scan sends all bits of all coefficients.
pub record SendsAll (s : Scan) : Type 0 where
  pub first : s.first ≡ 0
  pub last : s.last ≡ 63
  pub high : s.high ≡ 0
  pub low : s.low ≡ 0

-- The scan has a predictor of Table H.1, and a point transform that leaves bits of a sample.
pub record Predicts (precision : ℕ) (s : Scan) : Type 0 where
  pub some : 1 ≤ s.first
  pub most : s.first ≤ 7
  pub last : s.last ≡ 0
  pub high : s.high ≡ 0
  pub below : s.low < precision

-- The scan may come after what was noted in the frame, and is noted.
pub record NotesScan (s : Scan) (old new : Frame) : Type 0 where
  pub tables : HaveTables (most_tables old.process) (members_of s)
  pub whole : IsSequential old → SendsAll s
  pub part : is_progressive_process old.process ≡ true → SendsPart s
  pub noted : is_progressive_process old.process ≡ true
      → AreNoted (pass_in s) (members_of s) (lowest_of old) (lowest_of new)
  pub predicted : IsLosslessFrame old → Predicts old.precision s
  pub same : IsSameFrame old new
  pub unsent : IsSentOnce old → AreUnsent (has_scans old) (members_of s)
  pub sent : has_scans new ≡ sent_with (members_of s) (has_scans old)
  pub kept : map kept_of new.components.items ≡ map kept_of old.components.items
