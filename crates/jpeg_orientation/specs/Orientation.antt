-- The orientation that Exif data say. They are a TIFF structure (Exif 2.3, 4.5.2).
use Rattle.std.specs.Prelude.{ℕ, ◌==◌, ◌&&◌, ◌||◌, Bool, nat_le, List, if◌then◌else◌}
use Rattle.std.specs.Prelude.{Option, Some, None, option_map}
use Rattle.std.specs.List.{find}
use Rattle.jpeg_orientation.specs.Tiff.{first_directory, number_at, order_in}

-- How many bytes a number takes by its type: a SHORT (3) two, and a SLONG (9), which some writers
-- take in its place, four.
abbrev pub bytes_by : ℕ → ℕ
bytes_by kind = if kind == 9 then 4 else 2

-- the value of an entry of a type
abbrev pub value_by : Bool → ℕ → List ℕ → ℕ
value_by little kind entry = number_at little 8 (bytes_by kind) entry

abbrev pub value_of : Bool → List ℕ → ℕ
value_of little entry = value_by little (number_at little 2 2 entry) entry

-- An entry is an orientation by its tag, its type (a SHORT or a SLONG) and its count, if its value
-- is one.
abbrev pub is_orientation_by : ℕ → ℕ → ℕ → ℕ → Bool
is_orientation_by tag kind count value = tag == 0x0112
    && ((kind == 3 || kind == 9) && (count == 1 && (nat_le 1 value && nat_le value 8)))

unfoldable pub is_orientation : Bool → List ℕ → Bool
is_orientation little entry = is_orientation_by (number_at little 0 2 entry)
    (number_at little 2 2 entry) (number_at little 4 4 entry) (value_of little entry)

-- the value of the first entry that is an orientation
abbrev pub orientation_among : Bool → List (List ℕ) → Option ℕ
orientation_among little all = option_map (value_of little) (find (is_orientation little) all)

-- The orientation of Exif data, 1 to 8, if they say one.
unfoldable pub orientation_in : List ℕ → Option ℕ
orientation_in exif = elim (order_in exif) [
  | None ↦ None
  | Some little ↦ orientation_among little (first_directory little exif)
]
