-- The blocks of a sequential scan, row by row of MCUs, as they are read into the blocks of a row.
use Rattle.std.specs.Prelude.{ℕ, ◌-◌, ◌*◌, min, List, [], ◌∷◌, ◌++◌, map, replicate, Option, Ok}
use Rattle.std.specs.List.{range_with_len}
use Rattle.jpeg_bits.specs.Reading as reading
use Rattle.jpeg_bits.specs.Reading.{Outcome}
use Rattle.jpeg_bits.specs.Entropy.{upcoming, fresh, marker_from}
use Rattle.jpeg_bits.specs.declared.marker.Marker.{Marker}
use Rattle.jpeg_bits.specs.Readers.{Reads, ◌>>=◌, gives}
use Rattle.jpeg_segments.specs.Frame.{Frame, Component}
use Rattle.jpeg_bits.specs.Passes.{Pass, Via, zero_block}
use Rattle.jpeg_meaning.specs.Order.{Spot, grid_of, own_spots, all_spots, mcu_size}
use Rattle.jpeg_meaning.specs.Scans.{Arrays}
use Rattle.jpeg_meaning.specs.InTurn.{Counted, blocks_from, counted_at_start}

-- the blocks that a component has in a row of MCUs
abbrev pub row_size : Component → ℕ
row_size c = c.factors.vertical * c.blocks_wide

-- the blocks in a row of MCUs of a scan, by their indices in that row: of a component that is alone
-- its own ones
abbrev pub own_row : Component → ℕ → List Spot
own_row c row = own_spots (record (grid_of c) {
  own_high = min c.factors.vertical ((grid_of c).own_high - row * c.factors.vertical);
})

unfoldable pub mcu_row : Frame → List Component → ℕ → List Spot
mcu_row frame [] row = []
mcu_row frame (c ∷ []) row = own_row c row
mcu_row frame (c ∷ d ∷ more) row = all_spots frame.mcus_wide 1 (c ∷ d ∷ more)

-- the rows of MCUs of a scan
abbrev pub rows_of : Frame → List Component → List (List Spot)
rows_of frame components = map (mcu_row frame components) (range_with_len 0 frame.mcus_high)

-- the blocks of this many rows of MCUs, in which nothing was read yet
unfoldable pub zero_rows : ℕ → List Component → Arrays
zero_rows rows components = map (λ c. replicate (rows * row_size c) zero_block) components

-- each component's blocks, with more after
unfoldable pub each_with_more : Arrays → Arrays → Arrays
each_with_more (a ∷ front) (b ∷ more) = (a ++ b) ∷ each_with_more front more
each_with_more _ _ = []

abbrev pub on_arrays : Arrays → Counted → Counted
on_arrays arrays c =
    record {
      reached = record { arrays = arrays; predictors = c.reached.predictors; run = c.reached.run };
      left = c.left;
      number = c.number;
      beyond = c.beyond;
    }

-- rows of MCUs after the blocks in front, each read into blocks of its own
unfoldable pub mcu_rows_from : Pass → List Via → ℕ → List Component → List (List Spot) → Arrays
    → Counted → Reads Counted
mcu_rows_from p vias n components [] front old = gives (on_arrays front old)
mcu_rows_from p vias n components (spots ∷ rows) front old =
    blocks_from p vias n spots (on_arrays (zero_rows 1 components) old) >>= (λ r.
    mcu_rows_from p vias n components rows (each_with_more front r.reached.arrays) r)

-- a scan from zeros, row by row, in intervals of n MCUs
unfoldable pub scan_by_rows : Pass → List Via → ℕ → Frame → List Component → List ℕ
    → Outcome (Arrays × Option Marker)
scan_by_rows p vias n frame components bytes =
    let blocks = n * mcu_size components in
    reading.◌>>=◌ (mcu_rows_from p vias blocks components (rows_of frame components)
    (map (λ c. []) components) (counted_at_start blocks []) (upcoming fresh bytes)) (λ r.
    reading.◌>>=◌ (marker_from r.1) (λ m. Ok ((r.0.reached.arrays, m.0), m.1)))
