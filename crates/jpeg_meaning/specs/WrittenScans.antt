-- The scans that a writer sends of the coefficients of an image, and when a scan may be sent
-- (T.81, A.2, E.1.4 and G.1).
use Rattle.std.specs.Prelude.{◌≡◌, ℕ, ◌*◌, ◌/◌, ◌%◌, ◌==◌, ◌<◌, nat_lt, Bool, true, false, List}
use Rattle.std.specs.Prelude.{[], ◌∷◌, slice_get, slice_index_or, zip, Option, Some, None, IsSome}
use Rattle.std.specs.List.{AllByRecursion}
use Rattle.jpeg_bits.specs.Codes.{Table}
use Rattle.jpeg_bits.specs.Intervals.{first_group, other_groups}
use Rattle.jpeg_bits.specs.Passes.{Pass, Block, predictors_at_start}
use Rattle.jpeg_bits.specs.declared.huffman.codes.HuffmanTableClass.{HuffmanTableClass}
use Rattle.jpeg_bits.specs.declared.huffman.codes.HuffmanTableClass.TheVariants.{DC, AC}
use Rattle.jpeg_segments.specs.Frame.{Frame, Component}
use Rattle.jpeg_segments.specs.HuffmanTables.{Tables}
use Rattle.jpeg_segments.specs.ScanHeader.{Scan}
use Rattle.jpeg_meaning.specs.declared.grids.Grid.{Grid}
use Rattle.jpeg_meaning.specs.Levels.{Is8Bit, IsLegal, Levels, sent_after, numbers_at}
use Rattle.jpeg_meaning.specs.Order.{Spot, grid_of, mcu_size, spots_of}
use Rattle.jpeg_meaning.specs.Scans.{no_table, turns_of}
use Rattle.jpeg_meaning.specs.ScanSegments.{Coding, components_of, pass_of, tables_of, vias_from}
use Rattle.jpeg_meaning.specs.Found.{Said}
use Rattle.jpeg_bits.specs.Written.{WritesIntervals}
use Rattle.jpeg_meaning.specs.WrittenData.{WritesBlocks}

-- ---- the coefficients of an image

-- The quantized coefficients of an image: the block of a component, by the component's index in the
-- frame, in a row and a column of blocks.
abbrev pub Coefficients : Type 0
Coefficients = ℕ → ℕ → ℕ → Block

-- ---- the blocks of a scan

-- A block that its component has by its own size. The others are padding up to whole MCUs (A.2.4).
pub record IsOwn (g : Grid) (index : ℕ) : Type 0 where
  pub row : index / g.wide < g.own_high
  pub column : index % g.wide < g.own_wide

-- The data of a scan with restart intervals of `restart` MCUs, or in one interval where that is 0.
-- The blocks that are sent are those of the array, and any others of the same range in the places
-- of padding.
pub record WritesScan (frame : Frame) (restart : ℕ) (p : Pass) (codings : List Coding)
    (array : Coefficients) (bytes : List ℕ) : Type 0 where
  pub sent : Spot → Block
  pub in_range : (s : Spot) → Is8Bit (sent s)
  pub is_own : (s : Spot) (c : Coding)
      → slice_get codings s.slot ≡ Some c → IsOwn (grid_of c.component) s.index
      → sent s ≡ array c.index (s.index / c.component.blocks_wide)
      (s.index % c.component.blocks_wide)
  pub coded :
      let n = restart * mcu_size (components_of codings) in
      let spots = spots_of frame (components_of codings) in
      let turns = turns_of (vias_from 0 codings) spots (λ s. numbers_at p.al (sent s)) in
      WritesIntervals (WritesBlocks p predictors_at_start 0) 0 (first_group n turns)
      (other_groups n turns) bytes

-- ---- tables in force

-- a component has its quantization table
abbrev pub HasTable : Said → Component → Type 0
HasTable w c = IsSome (slice_index_or w.quantization c.factors.quantization None)

-- The Huffman table at a destination, where a scan needs one, and else one without codes.
abbrev pub IsTableAt : Bool → HuffmanTableClass → List (Option Table) → ℕ → Table → Type 0
IsTableAt true class tables destination table = slice_index_or tables destination None ≡ Some table
IsTableAt false class tables destination table = no_table class ≡ table

-- A component of a scan, by its index in the frame and the destinations of its Huffman tables for
-- DC and AC: its quantization table is defined, the one for DC where the scan codes DC, and the one
-- for AC where it codes AC.
pub record IsInForce (w : Said) (frame : Frame) (p : Pass) (tables : Tables) (slot : ℕ × (ℕ × ℕ))
    (k : Coding) : Type 0 where
  pub index : slot.0 ≡ k.index
  pub component : slice_get frame.components slot.0 ≡ Some k.component
  pub quantization :
      slice_index_or w.quantization k.component.factors.quantization None ≡ Some k.quantization
  pub dc : IsTableAt (p.ss == 0) DC tables.dc slot.1.0 k.dc
  pub ac : IsTableAt (nat_lt 0 p.se) AC tables.ac slot.1.1 k.ac

unfoldable pub AreInForce : Said → Frame → Pass → Tables → List (ℕ × (ℕ × ℕ)) → List Coding → Type 0
AreInForce w frame p tables [] [] = Unit {0}
AreInForce w frame p tables (slot ∷ slots) (k ∷ codings) =
    IsInForce w frame p tables slot k × AreInForce w frame p tables slots codings
AreInForce w frame p tables _ _ = ⊥

-- the components of a scan, with their tables
abbrev pub HasCodings : Said → Frame → Scan → List Coding → Type 0
HasCodings w frame scan codings =
    AreInForce w frame (pass_of scan) (tables_of w scan)
    (zip scan.components (zip scan.dc_destinations scan.ac_destinations)) codings

-- ---- scripts (G.1.1.1)

-- the levels of each component after a scan of one
abbrev pub levels_of_one : Pass → ℕ → (ℕ → Levels) → ℕ → Levels
levels_of_one p index levels k =
    elim (k == index) as (λ _. Levels) [ true ↦ sent_after p (levels k) | false ↦ levels k ]

-- after a scan of some
unfoldable pub levels_after : Pass → List ℕ → (ℕ → Levels) → ℕ → Levels
levels_after p [] levels = levels
levels_after p (index ∷ indices) levels = levels_after p indices (levels_of_one p index levels)

-- A scan may be sent where these levels were: its tables are defined, and each of its components
-- allows it.
pub record IsLegalScan (w : Said) (frame : Frame) (levels : ℕ → Levels) (scan : Scan)
    (codings : List Coding) : Type 0 where
  pub are_in_force : HasCodings w frame scan codings
  pub legal : AllByRecursion (λ c. IsLegal (pass_of scan) (levels c.index)) codings

-- Every bit of each coefficient was sent.
pub record IsComplete (l : Levels) : Type 0 where
  pub dc : l.dc ≡ Some 0
  pub acs : AllByRecursion (λ x. x ≡ Some 0) l.acs
