-- What a walk over a stream takes of its segments (T.81, B.2.1).
use Rattle.std.specs.Prelude.{◌≡◌, ◌≢◌, ◌⊎◌, ◌≤◌, ◌<◌, ◌++◌, ℕ, true, List, length, replicate}
use Rattle.std.specs.Prelude.{None, Some, false}
use Rattle.std.specs.List.{AllByRecursion}
use Rattle.jpeg_segments.specs.HuffmanTables.{no_tables}
use Rattle.jpeg_segments.specs.WrittenSegments.{u16_bytes, with_length}
use Rattle.zaxbriar_strict.specs.Changes.{IsComponentInRange}
use Rattle.zaxbriar_strict.specs.ScanData.{ReadsIfEight}
use Rattle.zaxbriar_strict.specs.ScanSamples.{ReadsIfLossless}
use Rattle.zaxbriar_strict.specs.Heads.{IsMade, IsSameFrame, ReadsFrame, ReadsHeader}
use Rattle.zaxbriar_strict.specs.Heads.{has_scans, is_progressive_process, lowest_of}
use Rattle.zaxbriar_strict.specs.Installed.{InstallsCodes, InstallsSteps, codes_of, steps_of}
use Rattle.zaxbriar_strict.specs.declared.frame.Frame.{Frame}
use Rattle.zaxbriar_strict.specs.declared.scan.Scan.{Scan}
use Rattle.zaxbriar_strict.specs.declared.tables.Tables.{Tables}
use Rattle.zaxbriar_strict.specs.declared.walk.Walk.{Walk}

-- Nothing was read yet.
pub record IsFresh (w : Walk) : Type 0 where
  pub steps : steps_of w.tables ≡ replicate 4 None
  pub codes : codes_of w.tables ≡ no_tables
  pub interval : w.tables.interval ≡ 0
  pub frame : w.frame ≡ None

-- ---- tables and applications

-- the codes of the markers APPn and COM
abbrev pub IsSilent : ℕ → Type 0
IsSilent code = ((224 ≤ code) × (code ≤ 239)) ⊎ (code ≡ 254)

-- the codes of DHT, DQT, DRI, APPn and COM
abbrev pub IsOther : ℕ → Type 0
IsOther code = (code ≡ 196) ⊎ ((code ≡ 219) ⊎ ((code ≡ 221) ⊎ IsSilent code))

-- The bytes of a DRI segment after its length (B.2.4.4).
pub record InstallsInterval (bytes : List ℕ) (old new : Tables) : Type 0 where
  pub are : bytes ≡ u16_bytes new.interval
  pub steps : steps_of new ≡ steps_of old
  pub codes : codes_of new ≡ codes_of old

-- The bytes of a segment after its length, where its marker has one of these codes: it installs
-- tables, or leaves them as they are.
pub record WalksOther (code : ℕ) (bytes : List ℕ) (old new : Walk) : Type 0 where
  pub codes : code ≡ 196 → InstallsCodes old.frame bytes old.tables new.tables
  pub steps : code ≡ 219 → InstallsSteps bytes old.tables new.tables
  pub interval : code ≡ 221 → InstallsInterval bytes old.tables new.tables
  pub others : code ≢ 196 → code ≢ 219 → code ≢ 221 → new.tables ≡ old.tables
  pub frame : new.frame ≡ old.frame
  pub scans : new.scans ≡ old.scans
  pub due : new.is_scan_due ≡ true

-- ---- frames and scans

-- A frame header, where there was none.
pub record WalksFrame (code : ℕ) (bytes : List ℕ) (old new : Walk) : Type 0 where
  pub frame : Frame
  pub first : old.frame ≡ None
  pub is : new.frame ≡ Some frame
  pub read : ReadsFrame code bytes frame
  pub tables : new.tables ≡ old.tables

-- A scan, from its header to what follows its data: the frame before it and after it, and one
-- between, after the header.
pub record ReadsScan (header start rest : List ℕ) (t : Tables) (old new : Frame) : Type 0 where
  pub scan : Scan
  pub between : Frame
  pub sized : length scan.members ≡ 4
  pub headed : ReadsHeader header scan old between
  pub read : ReadsIfEight t between new scan start rest
  pub samples : ReadsIfLossless t between scan start rest
  pub same : IsSameFrame between new
  pub sent : has_scans new ≡ has_scans between
  pub lowest : lowest_of new ≡ lowest_of between

-- A scan, where there was a frame.
pub record WalksScan (header start rest : List ℕ) (old new : Walk) : Type 0 where
  pub frame : Frame
  pub last : Frame
  pub was : old.frame ≡ Some frame
  pub is : new.frame ≡ Some last
  pub some : 0 < new.scans
  pub tables : new.tables ≡ old.tables
  pub read : IsMade frame → ReadsScan header start rest old.tables frame last

-- A segment after the marker of this code, and after a scan header its data, up to what follows.
pub data WalksSegment (code : ℕ) (bytes rest : List ℕ) (old new : Walk) : Type 0 where
  of_other : (payload : List ℕ) → IsOther code → bytes ≡ with_length payload ++ rest
      → WalksOther code payload old new → WalksSegment code bytes rest old new
  of_frame : (payload : List ℕ) → bytes ≡ with_length payload ++ rest
      → WalksFrame code payload old new → WalksSegment code bytes rest old new
  of_scan : (header start : List ℕ) → code ≡ 218 → bytes ≡ with_length header ++ start
      → WalksScan header start rest old new → WalksSegment code bytes rest old new

-- ---- the end

-- What holds at EOI of a progressive frame: the blocks of samples of 8 bits are in range, no number
-- was beyond 16 bits, and all bits of all coefficients were sent.
pub record FinishesBlocks (f : Frame) : Type 0 where
  pub in_range : f.precision ≡ 8 → AllByRecursion IsComponentInRange f.components.items
  pub inner : AllByRecursion (λ c. c.is_wide ≡ false) f.components.items
  pub whole : AllByRecursion (λ c. AllByRecursion (λ l. l ≡ Some 0) c.lowest) f.components.items

-- What holds at EOI: there is a frame, each of its components has a scan, and no tables stand after
-- the last one.
pub record Finishes (w : Walk) : Type 0 where
  pub frame : Frame
  pub is : w.frame ≡ Some frame
  pub due : w.is_scan_due ≡ true → w.scans ≡ 0
  pub sent : AllByRecursion (λ c. c.has_scan ≡ true) frame.components.items
  pub blocks : is_progressive_process frame.process ≡ true → FinishesBlocks frame
