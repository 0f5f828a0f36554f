-- Areas and pictures that the laws name.
use Rattle.std.specs.Prelude.{ℕ}
use Rattle.jpeg_orientation.specs.declared.areas.Area.{Area}
use Rattle.jpeg_orientation.specs.declared.turns.Turn.{Turn}

abbrev pub area_at : ℕ → ℕ → ℕ → ℕ → Area
area_at left top width height = record { left = left; top = top; width = width; height = height }

-- a picture of which 5 by 4 pixels are stored, of an orientation
abbrev pub five_by_four : ℕ → Turn
five_by_four orientation = record { width = 5; height = 4; orientation = orientation }
