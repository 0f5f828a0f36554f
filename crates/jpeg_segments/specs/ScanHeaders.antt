-- Scan headers as a writer emits them (T.81, B.2.3): their parameters, the bytes of those, and the
-- rules that they keep. Nothing here speaks of reading.
use Rattle.std.specs.Prelude.{◌≡◌, ℕ, ◌≤◌, ◌<◌, ◌+◌, true, List, [], ◌∷◌, ◌++◌, length, map}
use Rattle.std.specs.Prelude.{flat_map, Some, nat_lt}
use Rattle.jpeg_segments.specs.Frame.{Frame}
use Rattle.jpeg_segments.specs.HuffmanTables.{greatest_destination}
use Rattle.jpeg_segments.specs.ScanHeader.{Scan, Selector, index_of, is_mcu, is_band, scan_of}
use Rattle.jpeg_segments.specs.WrittenSegments.{nibbles}

-- The components, each by its identifier Csj, with its index in the frame and the destinations Tdj
-- and Taj of its DC and AC tables; the first and the last coefficient Ss and Se in zigzag order,
-- and the levels Ah and Al of successive approximation. In a lossless scan Ss is the predictor and
-- Al the point transform.
pub record ScanHeader : Type 0 where
  pub choices : List (ℕ × Selector)
  pub first : ℕ
  pub last : ℕ
  pub high : ℕ
  pub low : ℕ

-- the parameters of a component
abbrev pub choice_bytes : ℕ × Selector → List ℕ
choice_bytes c = c.0 ∷ nibbles c.1.dc c.1.ac ∷ []

-- its bytes after the length
unfoldable pub scan_payload : ScanHeader → List ℕ
scan_payload h =
    length h.choices ∷
    (flat_map choice_bytes h.choices ++ (h.first ∷ h.last ∷ nibbles h.high h.low ∷ []))

abbrev pub selectors_in : ScanHeader → List Selector
selectors_in h = map (λ c. c.1) h.choices

-- A component of the frame whose index is at least `least`, with destinations of tables that the
-- frame has: 0 and 1 in a baseline frame, else 0 to 3.
pub record IsChoice (frame : Frame) (least : ℕ) (c : ℕ × Selector) : Type 0 where
  pub identified : index_of frame.components c.0 ≡ Some c.1.component
  pub ordered : least ≤ c.1.component
  pub dc_bounded : c.1.dc ≤ greatest_destination (Some frame.is_baseline)
  pub ac_bounded : c.1.ac ≤ greatest_destination (Some frame.is_baseline)

-- The components stand in the frame's order, each once.
unfoldable pub AreChoices : Frame → ℕ → List (ℕ × Selector) → Type 0
AreChoices frame least [] = Unit {0}
AreChoices frame least (c ∷ more) =
    IsChoice frame least c × AreChoices frame (c.1.component + 1) more

-- A scan header of a frame keeps these rules (Table B.3): it has one to four components, of which
-- two or more have at most 10 blocks in an MCU, the level Al is below the sample precision, and the
-- coefficients and levels are ones that the process codes.
pub record IsScan (frame : Frame) (h : ScanHeader) : Type 0 where
  pub some : 1 ≤ length h.choices
  pub most : length h.choices ≤ 4
  pub choices : AreChoices frame 0 h.choices
  pub fits : is_mcu frame (selectors_in h) ≡ true
  pub narrow : h.low < 16
  pub precise : nat_lt h.low frame.precision ≡ true
  pub band : is_band frame.process (length h.choices) h.first h.last h.high h.low ≡ true

-- the scan that a header gives
abbrev pub scan_written : Frame → ScanHeader → Scan
scan_written frame h = scan_of frame (selectors_in h) h.first h.last (nibbles h.high h.low)
