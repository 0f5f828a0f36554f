-- Numbers of two and four bytes, the entries of a directory, and what follows them.
use Rattle.std.proofs.Common.{◌≡◌, ℕ, ◌+◌, ◌*◌, ◌<◌, ◌≤◌, Bool, true, false, List, [], length, take, drop}
use Rattle.std.proofs.Common.{slice_index, arith, None, Some, refl, ap, eq-eqb, ne_eqb, ◌-◌, ◌∷◌}
use Rattle.std.proofs.lemmas.Bool.{lt-leb, le-leb}
use Rattle.std.proofs.lemmas.Grind.{common_steps}
use Rattle.jpeg_orientation.specs.Tiff.{lower_first, number, number_at, entries_in, next_of, tagged}

pub two_lower : (xs : List ℕ) → 2 ≤ length xs → slice_index xs 0 + 256 * slice_index xs 1 ≡ number true (take 2 xs)
unfolding lower_first
two_lower xs h = grind (arith, common_steps)

pub two_higher : (xs : List ℕ) → 2 ≤ length xs → 256 * slice_index xs 0 + slice_index xs 1 ≡ number false (take 2 xs)
unfolding lower_first
two_higher xs h = grind (arith, common_steps)

pub four_lower : (xs : List ℕ) → 4 ≤ length xs
    → slice_index xs 0 + 256 * slice_index xs 1 + 65536 * slice_index xs 2 + 16777216 * slice_index xs 3
    ≡ number true (take 4 xs)
unfolding lower_first
four_lower xs h = grind (arith, common_steps)

pub four_higher : (xs : List ℕ) → 4 ≤ length xs
    → 16777216 * slice_index xs 0 + 65536 * slice_index xs 1 + 256 * slice_index xs 2 + slice_index xs 3
    ≡ number false (take 4 xs)
unfolding lower_first
four_higher xs h = grind (arith, common_steps)

-- ---- entries

-- Truncated data have none.
pub no_entries : (count : ℕ) (bytes : List ℕ) → length bytes < 12 → entries_in count bytes ≡ []
unfolding entries_in
no_entries count bytes h = grind (arith, common_steps, lt-leb)

pub entries-more : (count : ℕ) (bytes : List ℕ) → 12 ≤ length bytes → 0 < count
    → entries_in count bytes ≡ take 12 bytes ∷ entries_in (count - 1) (drop 12 bytes)
unfolding entries_in
entries-more count bytes room few = grind (arith, common_steps, le-leb)

-- ---- the first entry of a tag

pub none_tagged : (le : Bool) (tag count : ℕ) (bytes : List ℕ) → length bytes < 12
    → tagged le tag (entries_in count bytes) ≡ None
none_tagged le tag count bytes h = ap (tagged le tag) (no_entries count bytes h)

pub tag_passed : (le : Bool) (tag count : ℕ) (bytes : List ℕ) → 12 ≤ length bytes → 0 < count
    → (number_at le 0 2 (take 12 bytes) ≡ tag → ⊥)
    → tagged le tag (entries_in count bytes) ≡ tagged le tag (entries_in (count - 1) (drop 12 bytes))
tag_passed le tag count bytes room few h =
    rw (entries-more count bytes room few, ne_eqb (number_at le 0 2 (take 12 bytes)) tag h) refl

pub tag_met : (le : Bool) (tag count : ℕ) (bytes : List ℕ) → 12 ≤ length bytes → 0 < count
    → number_at le 0 2 (take 12 bytes) ≡ tag
    → tagged le tag (entries_in count bytes) ≡ Some (take 12 bytes)
tag_met le tag count bytes room few h =
    rw (entries-more count bytes room few, eq-eqb (number_at le 0 2 (take 12 bytes)) tag h) refl

-- ---- the offset of the next directory

pub cut_link : (le : Bool) (directory : List ℕ) → length directory < 6 + 12 * number_at le 0 2 directory
    → next_of le directory ≡ 0
unfolding next_of
cut_link le directory h = grind (arith, common_steps, lt-leb)

pub found_link : (le : Bool) (directory : List ℕ) → 6 + 12 * number_at le 0 2 directory ≤ length directory
    → next_of le directory ≡ number_at le (2 + 12 * number_at le 0 2 directory) 4 directory
unfolding next_of
found_link le directory h = grind (arith, common_steps, le-leb)
