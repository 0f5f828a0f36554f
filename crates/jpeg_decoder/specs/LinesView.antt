-- What a caller sees of the lines of a picture.
use Rattle.std.specs.Prelude.{◌≡◌, ℕ, ◌+◌, ◌-◌, ◌^◌, ◌<◌, ◌≤◌, List, length, map, take, drop}
use Rattle.std.specs.Prelude.{Option, None, Some, min}
use Rattle.std.specs.List.{AllByRecursion}
use Rattle.jpeg_decoder.specs.Bytes.{HaveBytes}
use Rattle.jpeg_decoder.specs.declared.picture.lines.Crop.{Crop}
use Rattle.jpeg_decoder.specs.declared.picture.lines.LineSource.{LineSource}
use Rattle.jpeg_decoder.specs.declared.picture.lines.LineSource.TheVariants.{Planes, Samples}

abbrev pub lines_in : LineSource → List (List ℕ)
lines_in (Planes lines) = lines
lines_in (Samples lines) = lines

-- The lines of a part of a picture: this many from `top` on, and of each this many bytes from
-- `from` on.
abbrev pub crop_of : ℕ → ℕ → ℕ → ℕ → List (List ℕ) → List (List ℕ)
crop_of top height from bytes lines =
    map (λ line. take bytes (drop from line)) (take height (drop top lines))

-- each line has at least this many bytes
abbrev pub AreAtLeast : ℕ → List (List ℕ) → Type 0
AreAtLeast bytes lines = AllByRecursion (λ line. bytes ≤ length line) lines

-- ---- what the code's own clauses need

-- what is given of the lines of a source, in lines of this many bytes
abbrev pub lines_given : Option Crop → ℕ → List (List ℕ) → List (List ℕ)
lines_given None bytes lines = lines
lines_given (Some c) bytes lines = crop_of c.top c.height c.from bytes lines

-- The part lies in these lines, each of which has room.
pub record IsInside (c : Crop) (bytes : ℕ) (lines : List (List ℕ)) : Type 0 where
  pub height : c.top + c.height ≤ length lines
  pub fits : c.top + c.height < 2 ^ 64
  pub room : HaveBytes (length c.row.items) lines
  pub small : length c.row.items < 2 ^ 64
  pub width : 0 < c.height → c.from + bytes ≤ length c.row.items

abbrev pub IsCropOf : Option Crop → ℕ → List (List ℕ) → Type 0
IsCropOf None bytes lines = Unit {0}
IsCropOf (Some c) bytes lines = IsInside c bytes lines

-- A part of a part, or of all lines, which have this many bytes, where no part was given.
abbrev pub IsPartOf : Option Crop → ℕ → ℕ → ℕ → ℕ → Crop → Type 0
IsPartOf None bytes top height from d = (d.top ≡ top) × (d.height ≡ height) × (d.from ≡ from)
    × (length d.row.items ≡ bytes) × (bytes < 2 ^ 64)
IsPartOf (Some c) bytes top height from d = (d.top ≡ c.top + top) × (d.height ≡ height)
    × (d.from ≡ min (c.from + from) (2 ^ 64 - 1)) × (length d.row.items ≡ length c.row.items)

-- The same part, where its room may have other bytes.
pub record IsSameCrop (old new : Crop) : Type 0 where
  pub top : new.top ≡ old.top
  pub height : new.height ≡ old.height
  pub from : new.from ≡ old.from
  pub room : length new.row.items ≡ length old.row.items
