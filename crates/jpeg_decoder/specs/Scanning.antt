-- What a caller sees of a scan, of what is kept of it, and of the state of an interval.
use Rattle.std.specs.Prelude.{◌≡◌, ◌<◌, ℕ, ◌-◌, List, ◌++◌, map, length, get_or}
use Rattle.std.specs.Prelude.{replicate, Bool, true, false, ℤ, pos, All}
use Rattle.jpeg_bits.specs.Codes.{Table}
use Rattle.jpeg_segments.specs.Frame.{Component}
use Rattle.jpeg_bits.specs.Passes.{Pass, Via, Block, zero_block}
use Rattle.jpeg_meaning.specs.Scans.{Arrays}
use Rattle.jpeg_meaning.specs.InTurn.{Reached, Counted}
use Rattle.jpeg_meaning.specs.McuRows.{on_arrays}
use Rattle.jpeg_bits.specs.Readers.{Reads, ◌>>=◌, gives}
use Rattle.jpeg_bits.specs.Skips.{dc_alone}
use Rattle.jpeg_decoder.specs.declared.scan.block_array.BlockArray.{BlockArray}
use Rattle.jpeg_decoder.specs.declared.scan.blocks.Interval.{Interval}
use Rattle.jpeg_meaning.specs.Order.{Spot}
use Rattle.jpeg_bits.specs.BlockView.{IsPass, to_block}
use Rattle.jpeg_bits.specs.declared.beyond.Beyond.{Beyond}
use Rattle.jpeg_bits.specs.declared.beyond.Beyond.TheVariants.{Nothing}
use Rattle.jpeg_meaning.specs.ScanSegments.{Coding, components_of, vias_from}

-- A scan of blocks, as it is read: what it codes, how many MCUs a restart interval has, its
-- components with their tables, whether the AC coefficients of its blocks are kept, and what
-- follows the markers that end its data.
pub record BlockScan : Type 0 where
  pub pass : Pass
  pub restart_interval : ℕ
  pub codings : List Coding
  pub keeps_ac : Bool
  pub beyond : Beyond

abbrev pub block_scan : Pass → ℕ → List Coding → Bool → Beyond → BlockScan
block_scan p n codings keeps beyond = record {
  pass = p;
  restart_interval = n;
  codings = codings;
  keeps_ac = keeps;
  beyond = beyond;
}

-- It codes what a pass may. Where it doesn't keep the AC coefficients, it is a first pass, and a
-- block gives one sample, which is of DC alone; and then zeros follow the markers.
pub record IsBlockScan (s : BlockScan) : Type 0 where
  pub legal : IsPass s.pass
  pub dc_alone : s.keeps_ac ≡ false → (s.pass.is_first ≡ true)
      × All (λ c. c.component.scale ≡ 1) s.codings
  pub kept : s.beyond ≡ Nothing → s.keeps_ac ≡ true

-- the way of the component in a slot, by its tables
abbrev pub via_by : ℕ → Table → Table → Via
via_by slot dc ac = record { component = slot; dc = dc; ac = ac }

-- the ways and the components of its slots
abbrev pub scan_vias : BlockScan → List Via
scan_vias s = vias_from 0 s.codings

abbrev pub scan_components : BlockScan → List Component
scan_components s = components_of s.codings

-- the blocks of a component: those that are stored, and zeros
unfoldable pub blocks_in : BlockArray → List Block
blocks_in a = map to_block a.blocks.items
    ++ replicate (a.count - length a.blocks.items) zero_block

-- blocks in block order, and zeros after them up to this many
abbrev pub filled : ℕ → List (List ℤ) → List (List ℤ)
filled count blocks = blocks ++ replicate (count - length blocks) (replicate 64 (pos 0))

abbrev pub arrays_in : List BlockArray → Arrays
arrays_in arrays = map blocks_in arrays

-- how many blocks each array has
abbrev pub sizes_of : List BlockArray → List ℕ
sizes_of arrays = map (λ a. length (blocks_in a)) arrays

-- all blocks are stored
abbrev pub IsFull : BlockArray → Type 0
IsFull a = blocks_in a ≡ map to_block a.blocks.items

-- the block of a slot and an index is stored
abbrev pub IsStored : List BlockArray → ℕ → ℕ → Type 0
IsStored arrays slot index =
    (a : BlockArray) → index < length (get_or arrays slot a).blocks.items

abbrev pub reached : Interval → Arrays → Reached
reached i arrays =
    record { arrays = arrays; predictors = i.carried.predictors; run = i.carried.run }

abbrev pub counted : Interval → Arrays → Counted
counted i arrays = record {
  reached = reached i arrays;
  left = i.left;
  number = i.number;
  beyond = i.beyond;
}

-- what is kept of the blocks of a scan, where their AC coefficients are or aren't
abbrev pub kept_arrays : Bool → Arrays → Arrays
kept_arrays true arrays = arrays
kept_arrays false arrays = map (map dc_alone) arrays

abbrev pub kept_counted : Bool → Counted → Counted
kept_counted keeps c = on_arrays (kept_arrays keeps c.reached.arrays) c

abbrev pub kept_after : Bool → Counted → Reads Counted
kept_after keeps c = gives (kept_counted keeps c)

abbrev pub kept_blocks : Bool → Reads Counted → Reads Counted
kept_blocks keeps p = p >>= kept_after keeps

-- the block of a slot and an index is kept
pub record IsKeptBlock (sizes : List ℕ) (slot index : ℕ) : Type 0 where
  pub has_slot : slot < length sizes
  pub has_index : index < get_or sizes slot 0

-- a spot of a scan of this many slots, whose block is kept
pub record IsSpotOf (slots : ℕ) (sizes : List ℕ) (s : Spot) : Type 0 where
  pub slot : s.slot < slots
  pub kept : IsKeptBlock sizes s.slot s.index

-- ---- how many blocks a component has in a line, and how many lines in an MCU

abbrev pub wide_in : Coding → ℕ
wide_in c = c.component.blocks_wide

abbrev pub down_in : Coding → ℕ
down_in c = c.component.factors.vertical
