-- The planes of a sequential scan, as they grow row by row of MCUs, so that no blocks are kept of
-- more than one row.
use Rattle.std.specs.Prelude.{ℕ, ◌*◌, List, [], ◌∷◌, ◌++◌, map, replicate, Option, Ok}
use Rattle.std.specs.declared.alloc.Global.{Global}
use Rattle.std.specs.declared.vec.Vec.{Vec}
use Rattle.jpeg_bits.specs.Reading as reading
use Rattle.jpeg_bits.specs.Reading.{Outcome}
use Rattle.jpeg_bits.specs.Entropy.{upcoming, fresh, marker_from}
use Rattle.jpeg_bits.specs.declared.marker.Marker.{Marker}
use Rattle.jpeg_bits.specs.Readers.{Reads, ◌>>=◌, gives}
use Rattle.jpeg_bits.specs.Passes.{Pass, Via, Block, zero_block}
use Rattle.jpeg_segments.specs.Frame.{Frame}
use Rattle.jpeg_pixels.specs.Planes.{plane_of}
use Rattle.jpeg_bits.specs.Zigzag.{values_in_block_order}
use Rattle.jpeg_meaning.specs.Order.{Spot, spots_of, mcu_size}
use Rattle.jpeg_meaning.specs.Scans.{Arrays, zero_arrays, arrays_at}
use Rattle.jpeg_meaning.specs.Rasters.{in_raster, plane_by}
use Rattle.jpeg_meaning.specs.InTurn.{Counted, blocks_from, counted_at_start}
use Rattle.jpeg_meaning.specs.McuRows.{zero_rows, rows_of, on_arrays}
use Rattle.jpeg_meaning.specs.ScanSegments.{components_of, Coding}
use Rattle.jpeg_decoder.specs.Scanning.{down_in, wide_in}

-- the planes of a scan's components by their blocks
unfoldable pub planes_by : List Coding → Arrays → List (List ℕ)
planes_by (c ∷ codings)
    (blocks ∷ arrays) = plane_by c.component c.quantization blocks ∷ planes_by codings arrays
planes_by _ _ = []

-- The planes of a sequential scan, and the marker after it, if it is met: of n blocks an interval,
-- where 0 is one interval.
unfoldable pub planes_at : Pass → ℕ → List Via → Frame → List Coding → List ℕ
    → Outcome (List (List ℕ) × Option Marker)
planes_at p n vias frame codings bytes =
    reading.◌>>=◌ (arrays_at p (n * mcu_size (components_of codings)) vias (spots_of frame
    (components_of codings)) (zero_arrays (components_of codings)) bytes) (λ r.
    Ok ((planes_by codings r.0.0, r.0.1), r.1))

-- ---- row by row of MCUs

-- the samples of the blocks of a component that are `high` blocks high
unfoldable pub samples_of : ℕ → Coding → List Block → List ℕ
samples_of high c blocks =
    plane_of c.component.scale
    (values_in_block_order c.quantization) c.component.blocks_wide high
    (in_raster c.component.blocks_wide blocks)

-- after each plane the samples of its component's blocks in a row of MCUs
unfoldable pub with_strips : List Coding → Arrays → List (List ℕ) → List (List ℕ)
with_strips (c ∷ codings) (blocks ∷ arrays) (plane ∷ planes) =
    (plane ++ samples_of c.component.factors.vertical c blocks) ∷ with_strips codings arrays planes
with_strips _ _ _ = []

-- the samples of each component's blocks in a row of MCUs
unfoldable pub strips_of : List Coding → Arrays → List (List ℕ)
strips_of (c ∷ codings) (blocks ∷ arrays) =
    samples_of c.component.factors.vertical c blocks ∷ strips_of codings arrays
strips_of _ _ = []

-- the planes after some more rows of MCUs, each of which is read into blocks of its own
unfoldable pub strips_from : Pass → List Via → ℕ → List Coding → List (List Spot)
    → List (List ℕ) → Counted → Reads (List (List ℕ))
strips_from p vias n codings [] planes old = gives planes
strips_from p vias n codings (spots ∷ rows) planes old =
    blocks_from p vias n spots (on_arrays (zero_rows 1 (components_of codings)) old) >>= (λ r.
    strips_from p vias n codings rows (with_strips codings r.reached.arrays planes)
    (on_arrays [] r))

-- a scan from zeros, by its blocks in each row of MCUs, in intervals of this many blocks, after the
-- planes in `start`; where there are none, nothing is made of the blocks
abbrev pub planes_in_order : Pass → List Via → ℕ → List Coding → List (List Spot) → List (List ℕ)
    → List ℕ → Outcome (List (List ℕ) × Option Marker)
planes_in_order p vias blocks codings rows start bytes =
    reading.◌>>=◌ (strips_from p vias blocks codings rows start (counted_at_start blocks [])
    (upcoming fresh bytes)) (λ r.
    reading.◌>>=◌ (marker_from r.1) (λ m. Ok ((r.0, m.0), m.1)))

-- one of a frame, in intervals of n MCUs
unfoldable pub planes_by_rows : Pass → List Via → ℕ → Frame → List Coding → List (List ℕ) → List ℕ
    → Outcome (List (List ℕ) × Option Marker)
planes_by_rows p vias n frame codings start bytes =
    planes_in_order p vias (n * mcu_size (components_of codings)) codings
    (rows_of frame (components_of codings)) start bytes

-- the quantization tables of a scan's components, in block order
abbrev pub tables_of : List Coding → List (List ℕ)
tables_of codings = map (λ c. values_in_block_order c.quantization) codings

-- a plane without samples for each component
abbrev pub no_samples : List Coding → List (List ℕ)
no_samples codings = map (λ c. []) codings

-- ---- what a caller sees

abbrev pub plane_lists : List (Vec ℕ Global) → List (List ℕ)
plane_lists planes = map (λ v. v.items) planes

-- how many blocks each component has in a row of MCUs
abbrev pub row_sizes : List Coding → List ℕ
row_sizes codings = map (λ c. down_in c * wide_in c) codings

-- blocks of zeros, by their number for each component
abbrev pub zeros_of : List ℕ → Arrays
zeros_of sizes = map (λ n. replicate n zero_block) sizes

-- the number of samples of a component's blocks that are `high` blocks high
abbrev pub strip_samples : ℕ → Coding → ℕ
strip_samples high c = c.component.scale * wide_in c * (c.component.scale * high)
