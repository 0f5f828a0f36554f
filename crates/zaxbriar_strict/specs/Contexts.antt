-- Scans of a frame by DCT, the ways in which their blocks are coded, and the places of these.
use Rattle.std.specs.Prelude.{◌≡◌, ◌≤◌, ◌+◌, ◌*◌, ◌==◌, ◌++◌, ◌∷◌, [], ℕ, zero, suc, List, Option}
use Rattle.std.specs.Prelude.{None, Some, false, if◌then◌else◌, map, nat_lt, replicate}
use Rattle.std.specs.Prelude.{slice_get, true}
use Rattle.std.specs.List.{flat_map, range_with_len}
use Rattle.jpeg_bits.specs.Passes.{Pass, Via, whole_pass}
use Rattle.jpeg_bits.specs.declared.huffman.codes.HuffmanTableClass.TheVariants.{AC, DC}
use Rattle.jpeg_meaning.specs.WrittenScans.{IsTableAt}
use Rattle.zaxbriar_strict.specs.Changes.{Place, kept_in}
use Rattle.zaxbriar_strict.specs.Heads.{members_of}
use Rattle.zaxbriar_strict.specs.Installed.{codes_of}
use Rattle.zaxbriar_strict.specs.Loaded.{data_of}
use Rattle.zaxbriar_strict.specs.Runs.{ReadsRun}
use Rattle.zaxbriar_strict.specs.Sent.{IsBand, IsPass}
use Rattle.zaxbriar_strict.specs.declared.bits.Bits.{Bits}
use Rattle.zaxbriar_strict.specs.declared.frame.Component.{Component}
use Rattle.zaxbriar_strict.specs.declared.scan.Member.{Member}
use Rattle.zaxbriar_strict.specs.declared.tables.Tables.{Tables}
use Rattle.zaxbriar_strict.specs.declared.transform.Context.{Context}
use Rattle.zaxbriar_strict.specs.declared.transform.Past.{Past}

-- There is a table.
pub record IsInstalled {A : Type 0} (place : Option A) : Type 0 where
  pub table : A
  pub is : place ≡ Some table

-- The component in a slot of a scan is coded in this way, by the tables that are installed.
pub record IsWay (p : Pass) (t : Tables) (slot : ℕ) (m : Member) (v : Via) : Type 0 where
  pub slotted : v.component ≡ slot
  pub dc_within : m.dc ≤ 3
  pub ac_within : m.ac ≤ 3
  pub dc_is : IsTableAt (p.ss == 0) DC (codes_of t).dc m.dc v.dc
  pub ac_is : IsTableAt (nat_lt 0 p.se) AC (codes_of t).ac m.ac v.ac

-- those in the slots from one on
unfoldable pub AreWays : Pass → Tables → ℕ → List Member → List Via → Type 0
AreWays p t slot [] [] = Unit {0}
AreWays p t slot (m ∷ ms) (v ∷ vias) = IsWay p t slot m v × AreWays p t (slot + 1) ms vias
AreWays p t slot _ _ = ⊥

-- A scan of a frame of 8 bits is read, whose components are coded in these ways.
pub record IsContext (x : Context) (p : Pass) (vias : List Via) : Type 0 where
  pub sequential : x.is_progressive ≡ false → p ≡ whole_pass
  pub passed : x.is_progressive ≡ true → IsPass p x.band
  pub banded : x.is_progressive ≡ true → IsBand p
  pub eight : x.is_deep ≡ false
  pub ways : AreWays p x.tables.now 0 (members_of x.scan.now) vias

-- Blocks that are coded in these ways were read at these places.
abbrev pub ReadsBlocks : Context → Pass → List Via → List Place → Past → Past → List Component
    → List Component → Bits → Bits → Type 0
ReadsBlocks x p ways places before after cs ds old new =
    ReadsRun x.is_progressive p ways places before after (kept_in cs) (kept_in ds) (data_of old)
    (data_of new)

-- ---- the blocks of an MCU

-- how many blocks a component has in an MCU of a scan of so many components (A.2.2 and A.2.3)
abbrev pub blocks_in : ℕ → Component → ℕ
blocks_in count c = if count == 1 then 1 else c.down * c.across

-- how many the component at an index has, if there is one
unfoldable pub blocks_at : ℕ → List Component → ℕ → ℕ
blocks_at count [] index = 0
blocks_at count (c ∷ cs) zero = blocks_in count c
blocks_at count (c ∷ cs) (suc index) = blocks_at count cs index

-- how the blocks of an MCU are coded, component by component
unfoldable pub unit_of : ℕ → List Component → List Member → List Via → List Via
unit_of count cs (m ∷ ms) (v ∷ vias) =
    replicate (blocks_at count cs m.component) v ++ unit_of count cs ms vias
unit_of count cs _ _ = []

-- ---- their places

-- the block in a row and a column of those that a component has in the MCU in a row and a column
abbrev pub part_place : ℕ → ℕ → ℕ → Component → ℕ → ℕ → Place
part_place row column index c below beside =
    record { index = index; row = row * c.down + below; column = column * c.across + beside }

abbrev pub part_line : ℕ → ℕ → ℕ → Component → ℕ → ℕ → List Place
part_line row column index c count below =
    map (part_place row column index c below) (range_with_len 0 count)

-- those of a component by its index, in an MCU of a scan of so many components
unfoldable pub part_places : ℕ → ℕ → ℕ → ℕ → Component → List Place
part_places count row column index c =
    if count == 1 then record { index = index; row = row; column = column } ∷ []
    else flat_map (part_line row column index c c.across) (range_with_len 0 c.down)

unfoldable pub places_at : ℕ → ℕ → ℕ → ℕ → Option Component → List Place
places_at count row column index None = []
places_at count row column index (Some c) = part_places count row column index c

-- component by component
unfoldable pub unit_places : ℕ → List Component → List Member → ℕ → ℕ → List Place
unit_places count cs [] row column = []
unit_places count cs (m ∷ ms) row column =
    places_at count row column m.component (slice_get cs m.component)
    ++ unit_places count cs ms row column

-- those of the MCUs in a row, in the first columns
abbrev pub row_places : ℕ → List Component → List Member → ℕ → ℕ → List Place
row_places count cs ms row columns =
    flat_map (unit_places count cs ms row) (range_with_len 0 columns)

-- those of all MCUs in the first rows
abbrev pub scan_places : ℕ → List Component → List Member → ℕ → ℕ → List Place
scan_places count cs ms columns rows =
    flat_map (λ row. row_places count cs ms row columns) (range_with_len 0 rows)
