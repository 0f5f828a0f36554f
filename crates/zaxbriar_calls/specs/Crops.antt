-- A part of a picture: which one the options ask for, and its samples.
use Rattle.std.specs.Prelude.{◌≡◌, ◌==◌, ◌||◌, ◌+◌, ◌-◌, ◌*◌, ◌≤◌, ℕ, zero, suc, Bool, not, true}
use Rattle.std.specs.Prelude.{if◌then◌else◌, List, [], ◌++◌, drop, length, min, take}
use Rattle.std.specs.Prelude.{Option, None, Some}
use Rattle.jpeg_decoder.specs.Bytes.{HaveBytes}
use Rattle.jpeg_orientation.specs.Areas.{is_inside, stored_area, turn_of_part}
use Rattle.jpeg_orientation.specs.Turns.{upright_height, upright_width}
use Rattle.jpeg_orientation.specs.declared.turns.Turn.{Turn}
use Rattle.zaxbriar_calls.specs.declared.crops.StoredPart.{StoredPart}
use Rattle.zaxbriar_calls.specs.declared.options.Options.{Options}

-- whether a part of the picture is asked for: where all four numbers are 0 it is all of it
abbrev pub is_cropped : Options → Bool
is_cropped o = not (o.crop.left == 0) || (not (o.crop.top == 0)
    || (not (o.crop.width == 0) || not (o.crop.height == 0)))

-- A part that is asked for has pixels, and lies inside the picture as it is shown.
abbrev pub IsInPicture : Options → Turn → Type 0
IsInPicture o turn = is_cropped o ≡ true
    → is_inside o.crop (upright_width turn) (upright_height turn) ≡ true

-- the part of a stored picture that is asked for of the picture as it is shown
abbrev pub part_of : Options → Turn → Option StoredPart
part_of o turn = if is_cropped o
    then Some (record { width = turn.width; area = stored_area turn o.crop }) else None

-- how a part is turned
abbrev pub part_turn : Option StoredPart → Turn → Turn
part_turn None turn = turn
part_turn (Some part) turn = turn_of_part turn part.area

-- of each of so many lines of `line` bytes, this many bytes from a first on
unfoldable pub cut_lines : ℕ → ℕ → ℕ → ℕ → List ℕ → List ℕ
cut_lines line from bytes zero samples = []
cut_lines line from bytes (suc height) samples =
    take bytes (drop from samples) ++ cut_lines line from bytes height (drop line samples)

-- the samples of a part, from those of the picture, whose pixels have this many bytes
abbrev pub part_samples : Option StoredPart → ℕ → List ℕ → List ℕ
part_samples None pixel samples = samples
part_samples (Some part) pixel samples =
    cut_lines (part.width * pixel) (part.area.left * pixel) (part.area.width * pixel)
    part.area.height (drop (part.area.top * (part.width * pixel)) samples)

-- how many lines of a part, from its first, are among so many of the picture
abbrev pub part_rows : Option StoredPart → ℕ → ℕ
part_rows None rows = rows
part_rows (Some part) rows = min part.area.height (rows - part.area.top)

-- ---- what the code's own clauses need

-- The lines of a picture, whose pixels have this many bytes, have a part of it.
pub record HasArea (part : StoredPart) (pixel : ℕ) (picture : List (List ℕ)) : Type 0 where
  pub lines : part.area.top + part.area.height ≤ length picture
  pub bytes : HaveBytes (part.width * pixel) picture
  pub columns : part.area.left + part.area.width ≤ part.width

abbrev pub HasPart : Option StoredPart → ℕ → List (List ℕ) → Type 0
HasPart None pixel picture = Unit {0}
HasPart (Some part) pixel picture = HasArea part pixel picture

-- Lines are as many and as long as those of a part, or they are those of the picture.
abbrev pub AreOfPart : Option StoredPart → ℕ → List (List ℕ) → List (List ℕ) → Type 0
AreOfPart None pixel picture lines = lines ≡ picture
AreOfPart (Some part) pixel picture lines =
    (length lines ≡ part.area.height) × HaveBytes (part.area.width * pixel) lines
