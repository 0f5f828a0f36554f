-- The blocks after a scan (T.81, A.2, E.2.3 and G.1).
use Rattle.std.specs.Prelude.{ℕ, ◌*◌, List, [], fold, map, set, get_or, replicate, zip, Option, Ok}
use Rattle.jpeg_bits.specs.Reading.{Outcome, ◌>>=◌}
use Rattle.jpeg_bits.specs.Codes.{Table}
use Rattle.jpeg_bits.specs.declared.huffman.codes.HuffmanTableClass.{HuffmanTableClass}
use Rattle.jpeg_bits.specs.declared.huffman.codes.HuffmanTableClass.TheVariants.{DC, AC}
use Rattle.jpeg_bits.specs.declared.marker.Marker.{Marker}
use Rattle.jpeg_segments.specs.Frame.{Component}
use Rattle.jpeg_bits.specs.Passes.{Pass, Via, Block, blocks_of, predictors_at_start, zero_block}
use Rattle.jpeg_bits.specs.Intervals.{intervals, first_group, other_groups}
use Rattle.jpeg_meaning.specs.Order.{Spot}

-- Blocks of some components: for each its blocks, those of all MCUs in raster order.
abbrev pub Arrays : Type 0
Arrays = List (List Block)

abbrev pub block_at : Arrays → Spot → Block
block_at arrays s = get_or (get_or arrays s.slot []) s.index zero_block

abbrev pub put_block : Spot → Block → Arrays → Arrays
put_block s b arrays = set arrays s.slot (set (get_or arrays s.slot []) s.index b)

-- blocks put at their spots, one after the other
unfoldable pub put_blocks : List Spot → List Block → Arrays → Arrays
put_blocks spots blocks arrays =
    fold (λ arrays x. put_block x.0 x.1 arrays) arrays (zip spots blocks)

-- the blocks of a component in which nothing was read yet
abbrev pub zero_of : Component → List Block
zero_of c = replicate (c.blocks_high * c.blocks_wide) zero_block

-- those of some components
unfoldable pub zero_arrays : List Component → Arrays
zero_arrays components = map zero_of components

-- a table without codes
abbrev pub no_table : HuffmanTableClass → Table
no_table class = record { class = class; counts = replicate 16 0; symbols = [] }

-- how a block of a slot is coded, by the ways of the scan's slots
abbrev pub via_at : List Via → ℕ → Via
via_at vias slot =
    get_or vias slot (record { component = slot; dc = no_table DC; ac = no_table AC })

-- the blocks at the spots, and how each is coded
unfoldable pub turns_of : List Via → List Spot → (Spot → Block) → List (Via × Block)
turns_of vias spots at = map (λ s. (via_at vias s.slot, at s)) spots

-- A scan: the blocks at its spots are read in intervals of n blocks, or in one where n is 0, and
-- are put back; and the marker after the scan, if it is met.
unfoldable pub arrays_at : Pass → ℕ → List Via → List Spot → Arrays → List ℕ
    → Outcome (Arrays × Option Marker)
arrays_at p n vias spots arrays bytes =
    let turns = turns_of vias spots (block_at arrays) in do
      r ← intervals (blocks_of p predictors_at_start 0) 0 (first_group n turns)
          (other_groups n turns) bytes
      Ok ((put_blocks spots r.0.0 arrays, r.0.1), r.1)
