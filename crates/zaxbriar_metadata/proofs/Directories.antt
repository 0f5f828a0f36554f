-- Exif data of one more segment, the second directory, and a part of the data.
use Rattle.std.proofs.Common.{◌≡◌, ℕ, zero, suc, ◌+◌, ◌<◌, ◌≤◌, Bool, List, [], ◌∷◌, ◌++◌, length, take, drop}
use Rattle.std.proofs.Common.{arith, None, Some, refl, length-drop, ne_eqb, ap, sym}
use Rattle.std.specs.Prelude.{fold}
use Rattle.std.proofs.lemmas.Bool.{lt-leb, le-leb}
use Rattle.std.proofs.lemmas.Grind.{common_steps}
use Rattle.jpeg_orientation.specs.Tiff.{directory_from, entries_of, next_of, number_at, second_directory}
use Rattle.jpeg_orientation.proofs.Directories.{cut_link, no_entries}
use Rattle.zaxbriar_metadata.specs.Exif.{joined_exif, part_of, with_exif}

fold-more : {A : Type 0} {B : Type 0} (f : B → A → B) (z : B) (xs : List A) (x : A)
    → fold f z (xs ++ x ∷ []) ≡ f (fold f z xs) x
fold-more f z [] x = refl
fold-more f z (y ∷ ys) x = fold-more f (f z y) ys x

pub exif-more : (segments : List (List ℕ)) (segment : List ℕ)
    → joined_exif (segments ++ segment ∷ []) ≡ with_exif (joined_exif segments) segment
exif-more segments segment = fold-more with_exif None segments segment

-- ---- the second directory

-- Where there is no room for an entry, a directory has none.
no-room : (le : Bool) (offset : ℕ) (bytes : List ℕ) → length bytes < offset + 14
    → directory_from le offset bytes ≡ []
no-room le zero bytes h = refl
no-room le (suc n) bytes h =
    rw (ne_eqb (suc n) 0 (λ e. omega (arith, e))) (no_entries (number_at le 0 2 (drop (suc n) bytes))
    (drop 2 (drop (suc n) bytes)) (omega (arith, length-drop {A = ℕ})))

pub few-bytes : (le : Bool) (exif : List ℕ) → length exif < 14 → second_directory le exif ≡ []
unfolding second_directory
few-bytes le exif h =
    no-room le (next_of le (drop (number_at le 4 4 exif) exif)) exif (omega (arith, h))

-- The offset of the first directory is behind the data.
pub no-first : (le : Bool) (exif : List ℕ) → length exif < number_at le 4 4 exif → second_directory le exif ≡ []
unfolding second_directory
no-first le exif h =
    let cut = cut_link le (drop (number_at le 4 4 exif) exif) (omega (arith, length-drop {A = ℕ})) in
    ap (λ offset. directory_from le offset exif) cut

pub no-link : (le : Bool) (exif : List ℕ) → 0 ≡ next_of le (drop (number_at le 4 4 exif) exif)
    → second_directory le exif ≡ []
unfolding second_directory
no-link le exif h = ap (λ offset. directory_from le offset exif) (sym h)

pub cut-second : (le : Bool) (exif : List ℕ) (offset : ℕ) → offset ≡ next_of le (drop (number_at le 4 4 exif) exif)
    → length exif < offset + 14 → second_directory le exif ≡ []
unfolding second_directory
cut-second le exif offset h few = rw (sym h) (no-room le offset exif few)

pub second-found : (le : Bool) (exif : List ℕ) (offset : ℕ) → offset ≡ next_of le (drop (number_at le 4 4 exif) exif)
    → (offset ≡ 0 → ⊥) → second_directory le exif ≡ entries_of le (drop offset exif)
unfolding second_directory
second-found le exif offset h other = rw (sym h) (rw (ne_eqb offset 0 other) refl)

-- ---- a part of the data

pub part-cut : (offset size : ℕ) (exif : List ℕ) → length exif < offset + size
    → part_of (Some offset) (Some size) exif ≡ None
unfolding part_of
part-cut offset size exif h = grind (arith, common_steps, lt-leb)

pub part-empty : (offset : ℕ) (exif : List ℕ) → part_of (Some offset) (Some 0) exif ≡ None
unfolding part_of
part-empty offset exif = refl

pub part-whole : (offset size : ℕ) (exif : List ℕ) → 1 ≤ size → offset + size ≤ length exif
    → part_of (Some offset) (Some size) exif ≡ Some (take size (drop offset exif))
unfolding part_of
part-whole offset size exif some room = grind (arith, common_steps, le-leb)
