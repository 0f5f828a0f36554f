-- The blocks of a component, and the order in which a scan codes the blocks of its components
-- (T.81, A.2).
use Rattle.std.specs.Prelude.{ℕ, ◌+◌, ◌*◌, List, [], ◌∷◌, ◌++◌, map, sum_by}
use Rattle.std.specs.List.{range_with_len, flat_map}
use Rattle.jpeg_segments.specs.Frame.{Frame, Component, ceiling}
use Rattle.jpeg_meaning.specs.declared.grids.Grid.{Grid}

-- The blocks of a component, across and down: its own, which cover its samples, and all of them,
-- with the padding that fills up the MCUs of the frame (A.2.4).
abbrev pub grid_of : Component → Grid
grid_of c = record {
  own_wide = ceiling c.width c.scale;
  own_high = ceiling c.height c.scale;
  wide = c.blocks_wide;
  high = c.blocks_high;
}

-- A block of a scan: the slot of its component in the scan, and its index among all blocks of that
-- component in raster order.
pub record Spot : Type 0 where
  pub slot : ℕ
  pub index : ℕ

-- The blocks of a component that is alone in a scan: its own, in raster order (A.2.2).
unfoldable pub own_spots : Grid → List Spot
own_spots g =
    flat_map
    (λ row. map (λ column. record { slot = 0; index = row * g.wide + column })
    (range_with_len 0 g.own_wide))
    (range_with_len 0 g.own_high)

-- The block in row v and column h of a component's part of the MCU in a row and a column.
abbrev pub part_spot : ℕ → ℕ → ℕ → Component → ℕ → ℕ → Spot
part_spot row column slot c v h =
    let line = (row * c.factors.vertical + v) * c.blocks_wide in
    record { slot = slot; index = line + (column * c.factors.horizontal + h) }

-- The part of a component in an MCU: as many rows as its vertical sampling factor, each of as many
-- blocks as its horizontal one (A.2.3).
unfoldable pub part_spots : ℕ → ℕ → ℕ → Component → List Spot
part_spots row column slot c =
    flat_map (λ v. map (part_spot row column slot c v) (range_with_len 0 c.factors.horizontal))
    (range_with_len 0 c.factors.vertical)

-- The blocks of the MCU in a row and a column, component by component, from a slot on.
unfoldable pub mcu_spots : ℕ → ℕ → ℕ → List Component → List Spot
mcu_spots row column slot [] = []
mcu_spots row column slot (c ∷ more) =
    part_spots row column slot c ++ mcu_spots row column (slot + 1) more

-- The blocks of the MCUs, this many across and down, in raster order of the MCUs.
unfoldable pub all_spots : ℕ → ℕ → List Component → List Spot
all_spots wide high components =
    flat_map
    (λ row. flat_map (λ column. mcu_spots row column 0 components) (range_with_len 0 wide))
    (range_with_len 0 high)

-- The blocks of a scan of some components, in order.
unfoldable pub spots_of : Frame → List Component → List Spot
spots_of frame [] = []
spots_of frame (c ∷ []) = own_spots (grid_of c)
spots_of frame (c ∷ d ∷ more) = all_spots frame.mcus_wide frame.mcus_high (c ∷ d ∷ more)

-- The number of blocks in an MCU. Where a component is alone, it is one.
unfoldable pub mcu_size : List Component → ℕ
mcu_size [] = 0
mcu_size (c ∷ []) = 1
mcu_size (c ∷ d ∷ more) = sum_by (λ c. c.factors.horizontal * c.factors.vertical) (c ∷ d ∷ more)
