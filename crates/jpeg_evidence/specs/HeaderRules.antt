-- The rules of frame and scan headers, parameter by parameter, as T.81 has them in Tables B.2 and
-- B.3 and in A.2.3. No test that a reader runs stands here.
use Rattle.std.specs.Prelude.{◌≡◌, ◌≢◌, ℕ, ◌+◌, ◌*◌, ◌<◌, ◌≤◌, true, List, [], ◌∷◌, length, sum_by}
use Rattle.std.specs.Prelude.{◌==◌, Option, Some, None, slice_get}
use Rattle.std.specs.List.{AllByRecursion}
use Rattle.jpeg_bits.specs.Passes.{Pass}
use Rattle.jpeg_segments.specs.declared.frame.CodingProcess.{CodingProcess}
use Rattle.jpeg_segments.specs.declared.frame.CodingProcess.TheVariants.{DctSequential}
use Rattle.jpeg_segments.specs.declared.frame.CodingProcess.TheVariants.{DctProgressive, Lossless}
use Rattle.jpeg_segments.specs.Frame.{Component, Factors, Frame}
use Rattle.jpeg_segments.specs.ScanHeader.{Selector}
use Rattle.jpeg_segments.specs.ScanHeaders.{ScanHeader, selectors_in}
use Rattle.jpeg_segments.specs.WrittenSegments.{FrameHeader}

-- ---- frame headers (Table B.2)

-- Hi and Vi are 1 to 4, and Tqi is 0 to 3, in a lossless frame 0.
pub record KeepsComponentRules (number : ℕ) (c : Factors) : Type 0 where
  pub some_across : 1 ≤ c.horizontal
  pub few_across : c.horizontal ≤ 4
  pub some_down : 1 ≤ c.vertical
  pub few_down : c.vertical ≤ 4
  pub table : c.quantization ≤ 3
  pub lossless : number ≡ 3 → c.quantization ≡ 0

-- no two components have the same identifier
unfoldable pub AreDistinct : List Factors → Type 0
AreDistinct [] = Unit {0}
AreDistinct (c ∷ more) =
    AllByRecursion (λ d. c.identifier ≢ d.identifier) more × AreDistinct more

-- A header of SOF0 to SOF3. P is 8 in a baseline frame, 8 or 12 in another by DCT, and at most 16
-- in a lossless one; X and Y are not 0; there are components, at most 4 in a progressive frame.
pub record KeepsFrameRules (number : ℕ) (h : FrameHeader) : Type 0 where
  pub numbered : number ≤ 3
  pub baseline : number ≡ 0 → h.precision ≡ 8
  pub by_dct : number ≤ 2 → h.precision ≢ 8 → h.precision ≡ 12
  pub lossless : number ≡ 3 → h.precision ≤ 16
  pub wide : 1 ≤ h.width
  pub high : 1 ≤ h.height
  pub some : 1 ≤ length h.components
  pub few : number ≡ 2 → length h.components ≤ 4
  pub components : AllByRecursion (KeepsComponentRules number) h.components
  pub distinct : AreDistinct h.components

-- ---- scan headers (Table B.3)

-- Csj is the identifier of the component at its index in the frame, and of none before that; Tdj
-- and Taj are 0 to 3, in a baseline frame 0 or 1.
pub record KeepsChoiceRules (frame : Frame) (c : ℕ × Selector) : Type 0 where
  pub component : Component
  pub stands : slice_get frame.components c.1.component ≡ Some component
  pub named : component.factors.identifier ≡ c.0
  pub is_first :
      (i : ℕ) (other : Component) → i < c.1.component →
      slice_get frame.components i ≡ Some other → other.factors.identifier ≢ c.0
  pub dc : c.1.dc ≤ 3
  pub ac : c.1.ac ≤ 3
  pub baseline_dc : frame.is_baseline ≡ true → c.1.dc ≤ 1
  pub baseline_ac : frame.is_baseline ≡ true → c.1.ac ≤ 1

-- the components stand in the frame's order
unfoldable pub AreInOrder : List (ℕ × Selector) → Type 0
AreInOrder [] = Unit {0}
AreInOrder (c ∷ more) =
    AllByRecursion (λ d. c.1.component < d.1.component) more × AreInOrder more

-- the number of blocks that a component has in an MCU: Hi * Vi
abbrev pub blocks_of : Option Component → ℕ
blocks_of (Some c) = c.factors.horizontal * c.factors.vertical
blocks_of None = 0

-- Ss, Se, Ah and Al of a scan of `count` components. In a sequential scan Ss is 0, Se 63 (or 0: own
-- to the decoder), and Ah and Al are 0. A progressive one codes DC alone, or AC of one component;
-- levels are at most 13, and a refinement lowers the level by one. In a lossless scan Ss is the
-- predictor, 1 to 7 (or 0: own to the decoder).
abbrev pub KeepsBandRules : CodingProcess → ℕ → ScanHeader → Type 0
KeepsBandRules DctSequential count h =
    (h.first ≡ 0) × (h.last ≢ 0 → h.last ≡ 63) × (h.high ≡ 0) × (h.low ≡ 0)
KeepsBandRules DctProgressive count h =
    (h.first ≤ h.last) × (h.last ≤ 63) × (h.first ≡ 0 → h.last ≡ 0) × (h.first ≢ 0 → count ≡ 1)
    × (h.high ≤ 13) × (h.low ≤ 13) × (h.high ≢ 0 → h.high ≡ h.low + 1)
KeepsBandRules Lossless count h = (h.first ≤ 7) × (h.last ≡ 0) × (h.high ≡ 0)

-- It has one to four components, of which two or more have at most 10 blocks in an MCU (A.2.3), and
-- Al is a number of four bits below the sample precision.
pub record KeepsScanRules (frame : Frame) (h : ScanHeader) : Type 0 where
  pub some : 1 ≤ length h.choices
  pub most : length h.choices ≤ 4
  pub choices : AllByRecursion (KeepsChoiceRules frame) h.choices
  pub ordered : AreInOrder h.choices
  pub few_blocks :
      2 ≤ length h.choices →
      sum_by (λ s. blocks_of (slice_get frame.components s.component)) (selectors_in h) ≤ 10
  pub narrow : h.low < 16
  pub precise : h.low < frame.precision
  pub band : KeepsBandRules frame.process (length h.choices) h

-- the pass of a header that codes up to this coefficient
abbrev pub pass_by : ℕ → ScanHeader → Pass
pass_by last h = record { is_first = h.high == 0; ss = h.first; se = last; al = h.low }
