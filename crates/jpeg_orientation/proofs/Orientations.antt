-- The first directory, and the first of its entries that is an orientation.
use Rattle.std.proofs.Common.{◌≡◌, ℕ, ◌+◌, ◌<◌, ◌≤◌, Bool, true, false, List, length, take, drop}
use Rattle.std.proofs.Common.{arith, None, Some, length-drop, ap, ◌-◌, ◌∷◌, option_map}
use Rattle.std.specs.List.{find}
use Rattle.std.proofs.lemmas.Bool.{le-leb}
use Rattle.std.proofs.lemmas.Grind.{common_steps}
use Rattle.jpeg_orientation.specs.Orientation.{is_orientation, orientation_among, value_of}
use Rattle.jpeg_orientation.specs.Tiff.{entries_in, first_directory, number_at}
use Rattle.jpeg_orientation.proofs.Directories.{entries-more, no_entries}

pub none_among : (le : Bool) (count : ℕ) (bytes : List ℕ) → length bytes < 12
    → orientation_among le (entries_in count bytes) ≡ None
none_among le count bytes h = ap (orientation_among le) (no_entries count bytes h)

-- ---- the first directory

-- A directory that is cut has no entries.
pub no_directory : (le : Bool) (exif : List ℕ) → length (drop 2 (drop (number_at le 4 4 exif) exif)) < 12
    → orientation_among le (first_directory le exif) ≡ None
unfolding first_directory
no_directory le exif h = grind (arith, common_steps, no_entries)

pub cut_directory : (le : Bool) (exif : List ℕ) → length exif < 14 + number_at le 4 4 exif
    → orientation_among le (first_directory le exif) ≡ None
cut_directory le exif h = no_directory le exif (omega (arith, length-drop {A = ℕ}))

pub found_directory : (le : Bool) (exif entries : List ℕ) (offset count : ℕ) → offset ≡ number_at le 4 4 exif
    → count ≡ number_at le 0 2 (drop offset exif) → entries ≡ drop 2 (drop offset exif)
    → orientation_among le (entries_in count entries) ≡ orientation_among le (first_directory le exif)
unfolding first_directory
found_directory le exif entries offset count o n e = grind (arith, common_steps)

-- ---- entries

-- One more entry is no orientation.
pub passed : (le : Bool) (count : ℕ) (bytes : List ℕ) → 12 ≤ length bytes → 0 < count
    → is_orientation le (take 12 bytes) ≡ false
    → orientation_among le (entries_in count bytes) ≡ orientation_among le (entries_in (count - 1) (drop 12 bytes))
unfolding entries_in
passed le count bytes room few h = grind (arith, common_steps, le-leb)

-- Or it is one.
first-found : (value : List ℕ → ℕ) (is_one : List ℕ → Bool) (entry : List ℕ) (others : List (List ℕ))
    → is_one entry ≡ true → option_map value (find is_one (entry ∷ others)) ≡ Some (value entry)
first-found value is_one entry others h = grind (arith, common_steps)

pub met : (le : Bool) (count : ℕ) (bytes : List ℕ) → 12 ≤ length bytes → 0 < count
    → is_orientation le (take 12 bytes) ≡ true
    → orientation_among le (entries_in count bytes) ≡ Some (value_of le (take 12 bytes))
met le count bytes room few h =
    rw (entries-more count bytes room few) (first-found (value_of le) (is_orientation le)
    (take 12 bytes) (entries_in (count - 1) (drop 12 bytes)) h)
