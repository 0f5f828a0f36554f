-- The blocks of a scan up to the first that can't be read, as they are read: block by block, and of
-- a sequential scan row by row of MCUs (T.81, A.2, E.2.4 and F.2).
use Rattle.std.specs.Prelude.{◌≡◌, ℕ, zero, suc, ◌+◌, ◌*◌, List, [], ◌∷◌, map, length, get_or}
use Rattle.std.specs.Prelude.{Option, Some, None, option_map, Ok, Err}
use Rattle.jpeg_bits.specs.Reading.{◌>>=◌}
use Rattle.jpeg_bits.specs.Entropy.{Text, fresh_before, marker_from, upcoming}
use Rattle.jpeg_bits.specs.Passes.{Pass, Via, zero_block}
use Rattle.jpeg_bits.specs.declared.beyond.Beyond.TheVariants.{Nothing}
use Rattle.jpeg_bits.specs.declared.marker.Marker.{Marker}
use Rattle.jpeg_segments.specs.Frame.{Frame}
use Rattle.jpeg_meaning.specs.Brought.{BlocksTo, Through}
use Rattle.jpeg_meaning.specs.InTurn.{Counted, counted_before, next_from}
use Rattle.jpeg_meaning.specs.McuRows.{on_arrays, row_size, rows_of, zero_rows}
use Rattle.jpeg_meaning.specs.Order.{Spot, mcu_size}
use Rattle.jpeg_meaning.specs.Scans.{Arrays, put_block}
use Rattle.jpeg_meaning.specs.ScanSegments.{Coding, components_of}
use Rattle.jpeg_decoder.specs.Strips.{with_strips}
use Rattle.jpeg_decoder.specs.Walk.{spot_of}
use Rattle.jpeg_decoder.specs.declared.scan.spots.Spot as taken

-- ---- block by block

-- Blocks in turn, in restart intervals of n, up to the first that can't be read: what is kept by
-- then, and the text after the last block.
unfoldable pub counted_reached : Pass → List Via → ℕ → List Spot → Counted → Text
    → Through Counted Text
counted_reached p vias n [] old t = record { reached = old; unread = None; rest = Ok t }
counted_reached p vias n (s ∷ spots) old t = elim (next_from p vias n s old t) [
  | Ok r ↦ counted_reached p vias n spots r.0 r.1
  | Err fault ↦ record { reached = old; unread = Some s; rest = Err fault }
]

-- Those of a scan whose data begin these bytes, where nothing follows the markers that end them:
-- the blocks that can be read, and the marker after its data.
unfoldable pub blocks_reached : Pass → List Via → ℕ → List Spot → Arrays → List ℕ
    → BlocksTo (Option Marker)
blocks_reached p vias n spots arrays bytes =
    let r = counted_reached p vias n spots (counted_before Nothing n arrays)
    (upcoming (fresh_before Nothing) bytes) in
    record { reached = r.reached.reached.arrays; unread = r.unread; rest = r.rest >>= marker_from }

-- The arrays and the spot that are left are those that were reached.
abbrev pub IsReached : Through Counted Text → Arrays → Option taken.Spot → Type 0
IsReached r arrays unread =
    (arrays ≡ r.reached.reached.arrays) × (option_map spot_of unread ≡ r.unread)

-- arrays without the block at a spot
abbrev pub cleared : Option Spot → Arrays → Arrays
cleared None arrays = arrays
cleared (Some s) arrays = put_block s zero_block arrays

-- the same, but for the block that was refused
abbrev pub IsReachedBeside : Through Counted Text → Arrays → Option taken.Spot → Type 0
IsReachedBeside r arrays unread =
    (cleared r.unread arrays ≡ cleared r.unread r.reached.reached.arrays)
    × (option_map spot_of unread ≡ r.unread)

-- ---- row by row of MCUs

-- after the planes the samples of this many rows of MCUs of zeros
unfoldable pub zero_strips : ℕ → List Coding → List (List ℕ) → List (List ℕ)
zero_strips zero codings planes = planes
zero_strips (suc rows) codings planes = zero_strips rows codings
    (with_strips codings (zero_rows 1 (components_of codings)) planes)

-- a spot of a row of MCUs by its index among all blocks
abbrev pub in_frame : List Coding → ℕ → Spot → Spot
in_frame codings row s = record {
  slot = s.slot;
  index = row * get_or (map row_size (components_of codings)) s.slot 0 + s.index;
}

-- The planes after some more rows of MCUs, from a row on, up to the first block that can't be read:
-- what its row lacks is zeros, and so are the rows below.
unfoldable pub strips_reached : Pass → List Via → ℕ → List Coding → ℕ → List (List Spot)
    → List (List ℕ) → Counted → Text → Through (List (List ℕ)) Text
strips_reached p vias n codings row [] planes old t =
    record { reached = planes; unread = None; rest = Ok t }
strips_reached p vias n codings row (spots ∷ rows) planes old t =
    let r = counted_reached p vias n spots
    (on_arrays (zero_rows 1 (components_of codings)) old) t in
    let more = with_strips codings r.reached.reached.arrays planes in
    elim r.rest [
      | Ok u ↦ strips_reached p vias n codings (suc row) rows more (on_arrays [] r.reached) u
      | Err fault ↦ record {
        reached = zero_strips (length rows) codings more;
        unread = option_map (in_frame codings row) r.unread;
        rest = Err fault;
      }
    ]

-- Those of a scan of a frame, in intervals of n MCUs, after the planes in `start`, and the marker
-- after its data; where there are no planes, nothing is made of the blocks.
unfoldable pub planes_through : Pass → List Via → ℕ → Frame → List Coding → List (List ℕ) → List ℕ
    → Through (List (List ℕ)) (Option Marker × List ℕ)
planes_through p vias n frame codings start bytes =
    let blocks = n * mcu_size (components_of codings) in
    let r = strips_reached p vias blocks codings 0 (rows_of frame (components_of codings)) start
    (counted_before Nothing blocks []) (upcoming (fresh_before Nothing) bytes) in
    record { reached = r.reached; unread = r.unread; rest = r.rest >>= marker_from }
