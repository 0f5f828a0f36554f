-- Parts of pictures, as they are stored and turned upright.
use Rattle.std.specs.Prelude.{ℕ, ◌+◌, ◌-◌, ◌&&◌, Bool, if◌then◌else◌, nat_le, nat_lt}
use Rattle.jpeg_orientation.specs.Turns.{flips_x, flips_y, is_on_side}
use Rattle.jpeg_orientation.specs.declared.areas.Area.{Area}
use Rattle.jpeg_orientation.specs.declared.turns.Turn.{Turn}

-- whether an area has pixels and lies within a picture of this size
abbrev pub is_inside : Area → ℕ → ℕ → Bool
is_inside area width height = nat_lt 0 area.width && (nat_lt 0 area.height
    && (nat_le (area.left + area.width) width && nat_le (area.top + area.height) height))

-- where a part of a side begins, from its other end where it is flipped
abbrev pub begins : Bool → ℕ → ℕ → ℕ → ℕ
begins flipped side start count = if flipped then side - (start + count) else start

-- the area of the stored picture whose pixels are those of an area of the upright one
abbrev pub stored_area : Turn → Area → Area
stored_area turn area =
    let side = is_on_side turn.orientation in
    let columns = if side then area.height else area.width in
    let lines = if side then area.width else area.height in
    record {
      left = begins (flips_x turn.orientation) turn.width (if side then area.top else area.left)
          columns;
      top = begins (flips_y turn.orientation) turn.height (if side then area.left else area.top)
          lines;
      width = columns;
      height = lines;
    }

-- how the part of a stored picture is turned
abbrev pub turn_of_part : Turn → Area → Turn
turn_of_part turn area = record turn { width = area.width; height = area.height }
