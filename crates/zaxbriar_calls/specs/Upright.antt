-- Where the samples of a picture stand in the caller's memory, as it is stored and turned upright.
use Rattle.std.specs.Prelude.{◌≡◌, ◌<◌, ◌≤◌, ℕ, ◌+◌, ◌*◌, ◌/◌, ◌%◌, ◌==◌, ◌&&◌, Bool, List, []}
use Rattle.std.specs.Prelude.{false, if◌then◌else◌, drop, length, map, min, nat_lt}
use Rattle.std.specs.Prelude.{slice_index_or, take}
use Rattle.std.specs.List.{AllByRecursion, range_with_len}
use Rattle.jpeg_orientation.specs.Turns.{mirrored, stored_offset, upright_across, upright_down}
use Rattle.jpeg_orientation.specs.Turns.{upright_height, upright_width}
use Rattle.zaxbriar_calls.specs.Boxed.{fit_samples, turned_size}
use Rattle.zaxbriar_calls.specs.Crops.{part_samples}
use Rattle.zaxbriar_calls.specs.Layouts.{TakesStored, converted_bytes, is_stored, laid_out}
use Rattle.zaxbriar_calls.specs.Layouts.{layout_line, over, pixel_of}
use Rattle.zaxbriar_calls.specs.declared.extents.Extent.{Extent}
use Rattle.zaxbriar_calls.specs.declared.extents.Extent.TheVariants.{Planes}
use Rattle.zaxbriar_calls.specs.declared.lines.Lines.{Lines}

-- the bytes of the pixel, as it is stored, that stands across and down in the upright picture
abbrev pub upright_pixel : Lines → List ℕ → ℕ → ℕ → List ℕ
upright_pixel lines samples across down =
    take lines.stored (drop (stored_offset lines.turn across down * lines.stored) samples)

-- A byte of the caller's memory: one of the pixel that stands there in its layout, and in a gap, or
-- after the last line, the one that was there. The first row stands first, or from the bottom last.
unfoldable pub turned_byte : Lines → List ℕ → List ℕ → ℕ → ℕ
turned_byte lines samples old index =
    let place = index / lines.stride in
    let byte = index % lines.stride in
    if nat_lt place lines.height && nat_lt byte lines.row_bytes
    then slice_index_or (pixel_of lines.conversion (upright_pixel lines samples
    (byte / lines.pixel_bytes) (mirrored lines.bottom_up lines.height place)))
    (byte % lines.pixel_bytes) 0
    else slice_index_or old index 0

-- The samples of a picture as lines, in the place of old bytes: as it is stored, or turned.
abbrev pub arranged_in : Lines → List ℕ → List ℕ → List ℕ
arranged_in lines samples old = if lines.turn.orientation == 1
    then laid_out (layout_line lines.conversion lines.stored lines.width)
    (lines.width * lines.stored) lines.stride lines.bottom_up lines.height samples old
    else map (turned_byte lines samples old) (range_with_len 0 (length old))

-- the samples that are given: those of a part, where it isn't all, made smaller where they are to
-- be
abbrev pub samples_given : Lines → List ℕ → List ℕ
samples_given lines samples = fit_samples lines.info lines.precision (turned_size lines.turn)
    (part_samples lines.part lines.stored samples)

abbrev pub arranged_part : Lines → List ℕ → List ℕ → List ℕ
arranged_part lines samples old = arranged_in lines (samples_given lines samples) old

-- what is asked for of a picture, in the place of old bytes: the samples of its planes, one after
-- the other, or else those of its lines
abbrev pub arranged_by : Extent → Lines → List ℕ → List ℕ → List ℕ
arranged_by Planes lines samples old = over samples old
arranged_by _ lines samples old = arranged_part lines samples old

-- ---- what the code's own clauses need

-- This many bytes are those of the lines that are turned at a time: up to 32, and none where the
-- picture isn't turned.
abbrev pub IsBand : Lines → ℕ → Type 0
IsBand lines bytes = (lines.turn.orientation ≡ 1 → ⊥)
    → bytes ≡ min 32 lines.turn.height * (lines.turn.width * lines.pixel_bytes)

-- Lines of a picture are as many and as long as they are stored, and can be put in their layout,
-- through a row of so many bytes unless they stay as they are.
pub record TakesLines (lines : Lines) (picture : List (List ℕ)) (row_bytes : ℕ) : Type 0 where
  pub count : length picture ≡ lines.turn.height
  pub stored : AllByRecursion (λ line. length line ≡ lines.turn.width * lines.stored) picture
  pub row : is_stored lines.conversion ≡ false → row_bytes ≡ lines.turn.width * lines.stored
  pub pixel : lines.pixel_bytes ≡ converted_bytes lines.conversion lines.stored
  pub fits : TakesStored lines.conversion lines.stored

-- Lines are those of an upright picture, and there is room for each, and for all of them in so many
-- bytes.
pub record HasRoom (lines : Lines) (bytes : ℕ) : Type 0 where
  pub width : lines.width ≡ upright_width lines.turn
  pub height : lines.height ≡ upright_height lines.turn
  pub line : lines.row_bytes ≡ lines.width * lines.pixel_bytes
  pub wide : lines.row_bytes ≤ lines.stride
  pub room : (y : ℕ) → y < lines.height → y * lines.stride + lines.row_bytes ≤ bytes

-- where the bytes of a pixel begin in memory, by its column and its line in the stored picture
abbrev pub pixel_start : Lines → ℕ → ℕ → ℕ
pixel_start lines x y =
    mirrored lines.bottom_up lines.height (upright_down lines.turn x y) * lines.stride
    + upright_across lines.turn x y * lines.pixel_bytes

-- The bytes of these pixels, by their columns and lines in the stored picture, are now as they are
-- meant, and so is each byte that was so before.
pub record Writes (lines : Lines) (meant : ℕ → ℕ) (AreThese : ℕ → ℕ → Type 0)
    (old new : List ℕ) : Type 0 where
  pub kept : (index : ℕ) → slice_index_or old index 0 ≡ meant index
      → slice_index_or new index 0 ≡ meant index
  pub written : (x y byte : ℕ) → AreThese x y → byte < lines.pixel_bytes
      → slice_index_or new (pixel_start lines x y + byte) 0 ≡ meant (pixel_start lines x y + byte)

-- The bytes of so many lines of the stored picture, from a first on, are those that are meant.
abbrev pub AreMeant : Lines → (ℕ → ℕ) → ℕ → ℕ → List ℕ → Type 0
AreMeant lines meant first count band = (x index byte : ℕ) → x < lines.turn.width → index < count
    → byte < lines.pixel_bytes
    → meant (pixel_start lines x (first + index) + byte)
    ≡ slice_index_or band (index * (lines.turn.width * lines.pixel_bytes)
    + x * lines.pixel_bytes + byte) 0

-- Bytes are so many lines of a picture, from a first on, in their layout.
abbrev pub AreLines : Lines → List (List ℕ) → ℕ → ℕ → List ℕ → Type 0
AreLines lines picture first count band = (index : ℕ) → index < count
    → take (lines.turn.width * lines.pixel_bytes)
    (drop (index * (lines.turn.width * lines.pixel_bytes)) band)
    ≡ layout_line lines.conversion lines.stored lines.turn.width
    (slice_index_or picture (first + index) [])

-- The bytes of a run are those of so many pixels that begin some bytes apart in others, the last of
-- them first where it is flipped.
abbrev pub IsRun : List ℕ → ℕ → ℕ → Bool → ℕ → List ℕ → Type 0
IsRun source step count flipped pixel_bytes run = (place byte : ℕ) → place < count
    → byte < pixel_bytes
    → slice_index_or run (place * pixel_bytes + byte) 0
    ≡ slice_index_or source (mirrored flipped count place * step + byte) 0
