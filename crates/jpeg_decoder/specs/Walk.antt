-- The order of the blocks of a scan (T.81, A.2), as it is walked: MCU by MCU, and of each MCU
-- member by member.
use Rattle.std.specs.Prelude.{◌≡◌, ◌<◌, ℕ, ◌+◌, ◌-◌, ◌*◌, min, List, [], ◌∷◌, ◌++◌, map, drop}
use Rattle.std.specs.Prelude.{length, Option, Some, None}
use Rattle.std.specs.List.{range_with_len, flat_map}
use Rattle.jpeg_segments.specs.Frame.{Frame, Component}
use Rattle.jpeg_meaning.specs.Order.{Spot, mcu_size, spots_of}
use Rattle.jpeg_meaning.specs.McuRows.{mcu_row}
use Rattle.jpeg_meaning.specs.declared.grids.Grid.{Grid}
use Rattle.jpeg_decoder.specs.declared.scan.order.ScanOrder.{ScanOrder}
use Rattle.jpeg_decoder.specs.declared.scan.spots.Member.{Member}
use Rattle.jpeg_decoder.specs.declared.scan.spots.Spot as taken

-- ---- a raster

-- this many positions of a row, from a column on
abbrev pub positions_of : ℕ → ℕ → ℕ → List (ℕ × ℕ)
positions_of row column n = map (λ c. (row, c)) (range_with_len column n)

-- this many rows, from a row on
abbrev pub row_positions : ℕ → ℕ → ℕ → List (ℕ × ℕ)
row_positions wide row n = flat_map (λ r. positions_of r 0 wide) (range_with_len row n)

-- the positions of a raster, each a row and a column
abbrev pub raster : ℕ → ℕ → List (ℕ × ℕ)
raster wide high = row_positions wide 0 high

-- what is left: the rest of a row, and the rows below
abbrev pub raster_left : ℕ → ℕ → ℕ → ℕ → ℕ → ℕ → List (ℕ × ℕ)
raster_left wide row column columns below rows =
    positions_of row column columns ++ row_positions wide below rows

-- the first position of those to come, and the others; or none
abbrev pub NextPosition : List (ℕ × ℕ) → Option (ℕ × ℕ) → List (ℕ × ℕ) → Type 0
NextPosition old None new = (old ≡ []) × (new ≡ [])
NextPosition old (Some p) new = old ≡ p ∷ new

-- ---- the blocks of a scan

-- a block of the MCU in a row and a column
abbrev pub spot_at : ℕ × ℕ → Member → Spot
spot_at mcu m = record { slot = m.slot; index = mcu.0 * m.down + mcu.1 * m.across + m.first }

-- the blocks of an MCU
abbrev pub mcu_at : List Member → ℕ × ℕ → List Spot
mcu_at members mcu = map (spot_at mcu) members

-- those of some MCUs
abbrev pub spots_at : List Member → List (ℕ × ℕ) → List Spot
spots_at members mcus = flat_map (mcu_at members) mcus

-- what is left: the rest of an MCU, and the MCUs to come
abbrev pub spots_left : List Member → ℕ → ℕ × ℕ → List (ℕ × ℕ) → List Spot
spots_left members number mcu mcus =
    map (spot_at mcu) (drop number members) ++ spots_at members mcus

-- a block that is taken
abbrev pub spot_of : taken.Spot → Spot
spot_of s = record { slot = s.slot; index = s.index }

-- the first block of those to come, and the others; or none
abbrev pub NextSpot : List Spot → Option taken.Spot → List Spot → Type 0
NextSpot old None new = (old ≡ []) × (new ≡ [])
NextSpot old (Some s) new = old ≡ spot_of s ∷ new

-- ---- the members of an MCU

-- the block in row v and column h of a component's part of an MCU
abbrev pub member_of : ℕ → Component → ℕ → ℕ → Member
member_of slot c v h = record {
  slot = slot;
  first = v * c.blocks_wide + h;
  across = c.factors.horizontal;
  down = c.factors.vertical * c.blocks_wide;
}

abbrev pub line_members : ℕ → Component → ℕ → List Member
line_members slot c v = map (member_of slot c v) (range_with_len 0 c.factors.horizontal)

abbrev pub part_members : ℕ → Component → List Member
part_members slot c = flat_map (line_members slot c) (range_with_len 0 c.factors.vertical)

-- those of the components in the slots from one on
unfoldable pub members_from : ℕ → List Component → List Member
members_from slot [] = []
members_from slot (c ∷ more) = part_members slot c ++ members_from (slot + 1) more

-- that of a component that is alone in a scan, whose own blocks are an MCU each
abbrev pub own_member : Grid → Member
own_member g = record { slot = 0; first = 0; across = 1; down = g.wide }

-- the blocks of a component that is alone, from an index on, and those of some lines, from one on
abbrev pub line_spots : ℕ → ℕ → List Spot
line_spots first n = map (λ k. record { slot = 0; index = k }) (range_with_len first n)

abbrev pub rows_spots : Grid → ℕ → ℕ → List Spot
rows_spots g row n = flat_map (λ r. line_spots (r * g.wide) g.own_wide) (range_with_len row n)

-- ---- the order of a scan

-- the blocks of all its MCUs, and of those in a row of the frame's MCUs
abbrev pub walk_of : ScanOrder → List Spot
walk_of o = spots_at o.members.items (raster o.wide o.high)

abbrev pub walk_of_row : ScanOrder → ℕ → List Spot
walk_of_row o row = spots_at o.members.items (raster o.wide (min o.lines (o.high - row * o.lines)))

-- those of each row of the frame's MCUs
abbrev pub walks_of_rows : ScanOrder → List (List Spot)
walks_of_rows o = map (walk_of_row o) (range_with_len 0 o.rows)

-- It is the order of the blocks of these components of a frame, in restart intervals of n MCUs.
pub record IsOrderOf (frame : Frame) (components : List Component) (n : ℕ) (o : ScanOrder) : Type 0
  where
    pub some : 0 < length o.members.items
    pub interval : o.interval ≡ n * mcu_size components
    pub rows : o.rows ≡ frame.mcus_high
    pub all : walk_of o ≡ spots_of frame components
    pub each : (row : ℕ) → row < frame.mcus_high → walk_of_row o row ≡ mcu_row frame components row
