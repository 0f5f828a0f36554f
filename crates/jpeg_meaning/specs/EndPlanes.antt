-- The plane of a component at the end of an image, by what there is of it.
use Rattle.std.specs.Prelude.{◌≡◌, ◌*◌, ◌&&◌, ℕ, List, [], length, get_or, Bool, true, false}
use Rattle.std.specs.Prelude.{Option, Some, None, Result, Ok, Err}
use Rattle.jpeg_bits.specs.Reading.{Fault, Malformed, ◌>>=◌}
use Rattle.jpeg_bits.specs.Passes.{Block}
use Rattle.jpeg_segments.specs.Frame.{Frame, Component}
use Rattle.jpeg_meaning.specs.Scans.{Arrays}
use Rattle.jpeg_segments.specs.Checks.{needed}
use Rattle.jpeg_meaning.specs.Rasters.{plane_by}
use Rattle.jpeg_meaning.specs.ScanSegments.{is_progressive}
use Rattle.jpeg_meaning.specs.Found.{Found}

-- the blocks at an index, where blocks are kept
abbrev pub blocks_if : Bool → Arrays → ℕ → Option (List Block)
blocks_if true kept index = Some (get_or kept index [])
blocks_if false kept index = None

-- whether a frame has blocks that are kept
abbrev pub is_kept : Found → Frame → Bool
is_kept found frame = is_progressive frame.process && found.said.scanned

-- The plane that is decided, or else that of the blocks that are kept, by the quantization table.
abbrev pub plane_or : Component → Option (List ℕ) → Option (List ℕ) → Option (List Block)
    → Result (List ℕ) Fault
plane_or c table (Some plane) blocks = Ok plane
plane_or c table None (Some blocks) =
    needed table >>= (λ quantization. Ok (plane_by c quantization blocks))
plane_or c table None None = Err Malformed

-- all blocks of a component, where there are some
abbrev pub AreBlocksOf : Component → Option (List Block) → Type 0
AreBlocksOf c (Some blocks) = length blocks ≡ c.blocks_high * c.blocks_wide
AreBlocksOf c None = Unit {0}
