-- Planes that are made row by row, each row of all coefficients of one row of MCUs (own to the
-- decoder).
use Rattle.std.specs.Prelude.{◌≡◌, ◌<◌, ◌≤◌, ℕ, ◌+◌, ◌-◌, ◌*◌, List, [], ◌∷◌, ◌++◌, length, take}
use Rattle.std.specs.Prelude.{drop, set, replicate, get_or, option_map, ℤ, Option, Some, None}
use Rattle.std.specs.declared.vec.Vec.{Vec}
use Rattle.std.specs.declared.alloc.Global.{Global}
use Rattle.jpeg_segments.specs.Frame.{Component}
use Rattle.jpeg_pixels.specs.Planes.{plane_of}

-- A plane that is being made: the samples a side of a block, the blocks of a row of blocks, the
-- rows of blocks in each row that comes, the quantization table in block order, the samples that
-- rows have brought so far, and the number of samples that the whole plane has.
pub record Work : Type 0 where
  pub scale : ℕ
  pub wide : ℕ
  pub down : ℕ
  pub table : List ℕ
  pub samples : List ℕ
  pub room : ℕ

-- the plane of a component, before its first row
abbrev pub work_of : Component → List ℕ → Work
work_of c table = record {
  scale = c.scale;
  wide = c.blocks_wide;
  down = c.factors.vertical;
  table = table;
  samples = [];
  room = c.scale * c.blocks_wide * (c.scale * c.blocks_high);
}

-- The block in a row of blocks and a column, of coefficients that stand block by block, this many
-- blocks to a row.
abbrev pub block_in : List ℤ → ℕ → ℕ → ℕ → List ℤ
block_in coefficients wide row column = take 64 (drop (64 * (row * wide + column)) coefficients)

-- the samples of a row that comes
abbrev pub row_samples : Work → List ℤ → List ℕ
row_samples w coefficients = plane_of w.scale w.table w.wide w.down (block_in coefficients w.wide)

-- a plane and one more row
abbrev pub grown : List ℤ → Work → Work
grown coefficients w = record w { samples = w.samples ++ row_samples w coefficients }

-- A row has the coefficients of its blocks, and the plane has room for their samples.
pub record IsRowOf (w : Work) (coefficients : List ℤ) : Type 0 where
  pub blocks : length coefficients ≡ w.wide * w.down * 64
  pub room : length w.samples + w.scale * w.wide * (w.scale * w.down) ≤ w.room

-- the same, of an index that has to have a plane
abbrev pub IsRowAt : Option Work → List ℤ → Type 0
IsRowAt None coefficients = ⊥
IsRowAt (Some w) coefficients = IsRowOf w coefficients

-- What is seen of an index: the samples that rows have brought, and 0 for those that no row has
-- brought yet.
abbrev pub plane_at : Option Work → List ℕ
plane_at None = []
plane_at (Some w) = w.samples ++ replicate (w.room - length w.samples) 0

-- ---- the four indices of a worker

-- one more row at an index
abbrev pub with_row : List (Option Work) → ℕ → List ℤ → List (Option Work)
with_row indices index coefficients =
    set indices index (option_map (grown coefficients) (get_or indices index None))

-- rows that come one after the other, each for an index
abbrev pub with_rows : List (Option Work) → List (ℕ × Vec ℤ Global) → List (Option Work)
with_rows indices [] = indices
with_rows indices (row ∷ rows) = with_rows (with_row indices row.0 row.1.items) rows

-- each of them is for an index that holds a plane with room for it
abbrev pub AreRows : List (Option Work) → List (ℕ × Vec ℤ Global) → Type 0
AreRows indices [] = Unit {0}
AreRows indices (row ∷ rows) =
    (row.0 < 4) × IsRowAt (get_or indices row.0 None) row.1.items
    × AreRows (with_row indices row.0 row.1.items) rows
