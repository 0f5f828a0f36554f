-- Where the pixels of a part of a picture stand, stored and upright.
use Rattle.std.proofs.Common.{arith, ◌≡◌, ◌+◌, ◌<◌, ◌≤◌, ℕ, Bool, true, false, refl}
use Rattle.std.specs.Prelude.{if◌then◌else◌, nat_le, nat_lt}
use Rattle.std.proofs.lemmas.Bool.{and_from, and_parts, le-leb, leb-true, lt-ltb, ltb-true}
use Rattle.jpeg_orientation.specs.Areas.{begins, is_inside, stored_area, turn_of_part}
use Rattle.jpeg_orientation.specs.Turns.{flips_x, flips_y, is_on_side, mirrored, stored_column, stored_line}
use Rattle.jpeg_orientation.specs.Turns.{upright_height, upright_width}
use Rattle.jpeg_orientation.specs.declared.areas.Area.{Area}
use Rattle.jpeg_orientation.specs.declared.turns.Turn.{Turn}

-- ---- areas that are inside a picture

pub record Inside (area : Area) (width height : ℕ) : Type 0 where
  pub wide : 0 < area.width
  pub high : 0 < area.height
  pub right : area.left + area.width ≤ width
  pub bottom : area.top + area.height ≤ height

pub inside-parts : (area : Area) (width height : ℕ) → is_inside area width height ≡ true → Inside area width height
inside-parts area width height h =
    let first = and_parts (nat_lt 0 area.width) _ h in
    let second = and_parts (nat_lt 0 area.height) _ first.1 in
    let third = and_parts (nat_le (area.left + area.width) width) _ second.1 in
    record {
      wide = ltb-true 0 area.width first.0;
      high = ltb-true 0 area.height second.0;
      right = leb-true (area.left + area.width) width third.0;
      bottom = leb-true (area.top + area.height) height third.1;
    }

pub inside-from : (area : Area) (width height : ℕ) → Inside area width height → is_inside area width height ≡ true
inside-from area width height i =
    and_from (nat_lt 0 area.width) _ (lt-ltb 0 area.width i.wide)
    (and_from (nat_lt 0 area.height) _ (lt-ltb 0 area.height i.high)
    (and_from (nat_le (area.left + area.width) width) _ (le-leb (area.left + area.width) width i.right)
    (le-leb (area.top + area.height) height i.bottom)))

-- ---- the stored area

begins-inside : (flipped : Bool) (side start count : ℕ) → start + count ≤ side
    → begins flipped side start count + count ≤ side
begins-inside true side start count h = omega (arith, h)
begins-inside false side start count h = h

-- by whether the picture lies on its side
sides-inside : (side fx fy : Bool) (width height : ℕ) (area : Area)
    → Inside area (if side then height else width) (if side then width else height)
    → Inside (record {
      left = begins fx width (if side then area.top else area.left) (if side then area.height else area.width);
      top = begins fy height (if side then area.left else area.top) (if side then area.width else area.height);
      width = if side then area.height else area.width;
      height = if side then area.width else area.height;
    }) width height
sides-inside true fx fy width height area i = record {
  wide = i.high;
  high = i.wide;
  right = begins-inside fx width area.top area.height i.bottom;
  bottom = begins-inside fy height area.left area.width i.right;
}
sides-inside false fx fy width height area i = record {
  wide = i.wide;
  high = i.high;
  right = begins-inside fx width area.left area.width i.right;
  bottom = begins-inside fy height area.top area.height i.bottom;
}

-- the stored area of one in the upright picture is inside the stored picture
pub stored-inside : (turn : Turn) (area : Area) → is_inside area (upright_width turn) (upright_height turn) ≡ true
    → is_inside (stored_area turn area) turn.width turn.height ≡ true
stored-inside turn area h =
    inside-from (stored_area turn area) turn.width turn.height
    (sides-inside (is_on_side turn.orientation) (flips_x turn.orientation) (flips_y turn.orientation) turn.width
    turn.height area (inside-parts area (upright_width turn) (upright_height turn) h))

-- ---- where its pixels stand

mirrored-back : (flipped : Bool) (side start count index : ℕ) → start + count ≤ side → index < count
    → mirrored flipped side (start + index) ≡ begins flipped side start count + mirrored flipped count index
mirrored-back true side start count index h low = omega (arith, h, low)
mirrored-back false side start count index h low = refl

sides-column : (side fx : Bool) (width height : ℕ) (area : Area) (across down : ℕ)
    → Inside area (if side then height else width) (if side then width else height)
    → across < area.width → down < area.height
    → mirrored fx width (if side then area.top + down else area.left + across)
    ≡ begins fx width (if side then area.top else area.left) (if side then area.height else area.width)
    + mirrored fx (if side then area.height else area.width) (if side then down else across)
sides-column true fx width height area across down i a d =
    mirrored-back fx width area.top area.height down i.bottom d
sides-column false fx width height area across down i a d =
    mirrored-back fx width area.left area.width across i.right a

sides-line : (side fy : Bool) (width height : ℕ) (area : Area) (across down : ℕ)
    → Inside area (if side then height else width) (if side then width else height)
    → across < area.width → down < area.height
    → mirrored fy height (if side then area.left + across else area.top + down)
    ≡ begins fy height (if side then area.left else area.top) (if side then area.width else area.height)
    + mirrored fy (if side then area.width else area.height) (if side then across else down)
sides-line true fy width height area across down i a d =
    mirrored-back fy height area.left area.width across i.right a
sides-line false fy width height area across down i a d =
    mirrored-back fy height area.top area.height down i.bottom d

pub column-of-part : (turn : Turn) (area : Area) (across down : ℕ)
    → is_inside area (upright_width turn) (upright_height turn) ≡ true → across < area.width → down < area.height
    → stored_column turn (area.left + across) (area.top + down)
    ≡ (stored_area turn area).left + stored_column (turn_of_part turn (stored_area turn area)) across down
column-of-part turn area across down h a d =
    sides-column (is_on_side turn.orientation) (flips_x turn.orientation) turn.width turn.height area across down
    (inside-parts area (upright_width turn) (upright_height turn) h) a d

pub line-of-part : (turn : Turn) (area : Area) (across down : ℕ)
    → is_inside area (upright_width turn) (upright_height turn) ≡ true → across < area.width → down < area.height
    → stored_line turn (area.left + across) (area.top + down)
    ≡ (stored_area turn area).top + stored_line (turn_of_part turn (stored_area turn area)) across down
line-of-part turn area across down h a d =
    sides-line (is_on_side turn.orientation) (flips_y turn.orientation) turn.width turn.height area across down
    (inside-parts area (upright_width turn) (upright_height turn) h) a d
