-- Pictures turned upright by the orientation in their Exif data: where each pixel comes from.
use Rattle.std.specs.Prelude.{ℕ, ◌+◌, ◌-◌, ◌*◌, ◌==◌, ◌||◌, Bool, if◌then◌else◌, nat_lt}
use Rattle.jpeg_orientation.specs.declared.turns.Turn.{Turn}

-- whether a picture lies on its side: the columns of the upright one are its lines
abbrev pub is_on_side : ℕ → Bool
is_on_side orientation = nat_lt 4 orientation

-- whether the columns of the stored picture are in the other direction, and whether its lines are
abbrev pub flips_x : ℕ → Bool
flips_x o = o == 2 || (o == 3 || (o == 7 || o == 8))

abbrev pub flips_y : ℕ → Bool
flips_y o = o == 3 || (o == 4 || (o == 6 || o == 7))

-- an index on a side, from its other end where it is flipped
abbrev pub mirrored : Bool → ℕ → ℕ → ℕ
mirrored flipped side index = if flipped then side - 1 - index else index

-- the width and the height of the upright picture
abbrev pub upright_width : Turn → ℕ
upright_width turn = if is_on_side turn.orientation then turn.height else turn.width

abbrev pub upright_height : Turn → ℕ
upright_height turn = if is_on_side turn.orientation then turn.width else turn.height

-- the column and the line in the stored picture of a pixel across and down in the upright one, and
-- its index there
abbrev pub stored_column : Turn → ℕ → ℕ → ℕ
stored_column turn across down = mirrored (flips_x turn.orientation) turn.width
    (if is_on_side turn.orientation then down else across)

abbrev pub stored_line : Turn → ℕ → ℕ → ℕ
stored_line turn across down = mirrored (flips_y turn.orientation) turn.height
    (if is_on_side turn.orientation then across else down)

abbrev pub stored_offset : Turn → ℕ → ℕ → ℕ
stored_offset turn across down =
    stored_line turn across down * turn.width + stored_column turn across down

-- how far across and down in the upright picture a pixel of the stored one is, by its column and
-- its line there
abbrev pub upright_across : Turn → ℕ → ℕ → ℕ
upright_across turn x y = if is_on_side turn.orientation
    then mirrored (flips_y turn.orientation) turn.height y
    else mirrored (flips_x turn.orientation) turn.width x

abbrev pub upright_down : Turn → ℕ → ℕ → ℕ
upright_down turn x y = if is_on_side turn.orientation
    then mirrored (flips_x turn.orientation) turn.width x
    else mirrored (flips_y turn.orientation) turn.height y
