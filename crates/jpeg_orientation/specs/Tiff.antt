-- A TIFF structure (TIFF 6.0, sections 2 and 8): its numbers, its header, and its directories.
use Rattle.std.specs.Prelude.{ℕ, zero, suc, ◌+◌, ◌*◌, ◌==◌, Bool, true, false, nat_eq, nat_le}
use Rattle.std.specs.Prelude.{List, [], ◌∷◌, ◌++◌, codes, take, drop, length, reverse}
use Rattle.std.specs.Prelude.{Option, Some, None, if◌then◌else◌}
use Rattle.std.specs.List.{find, starts_with}

-- ---- numbers, whose bytes come with the lower first ("II") or the higher ("MM")

unfoldable pub lower_first : List ℕ → ℕ
lower_first [] = 0
lower_first (b ∷ bytes) = b + 256 * lower_first bytes

-- the number of some bytes
abbrev pub number : Bool → List ℕ → ℕ
number little bytes = if little then lower_first bytes else lower_first (reverse bytes)

-- the number of this many bytes at an offset
abbrev pub number_at : Bool → ℕ → ℕ → List ℕ → ℕ
number_at little offset count bytes = number little (take count (drop offset bytes))

-- ---- the header

-- Two letters that name the order of the bytes, and the number 42 in that order: whether the lower
-- byte of a number is the first.
unfoldable pub order_in : List ℕ → Option Bool
order_in bytes =
    if starts_with nat_eq bytes (codes "II*" ++ 0 ∷ []) then Some true
    else (if starts_with nat_eq bytes (codes "MM" ++ 0 ∷ 42 ∷ []) then Some false else None)

-- ---- directories

-- this many entries of twelve bytes, or as many as are there
unfoldable pub entries_in : ℕ → List ℕ → List (List ℕ)
entries_in zero bytes = []
entries_in (suc count) bytes =
    elim (nat_le 12 (length bytes)) [
      | true ↦ take 12 bytes ∷ entries_in count (drop 12 bytes)
      | false ↦ []
    ]

-- The entries of a directory follow their number, of two bytes.
abbrev pub entries_of : Bool → List ℕ → List (List ℕ)
entries_of little directory = entries_in (number_at little 0 2 directory) (drop 2 directory)

-- After the header there is the offset of the first directory.
unfoldable pub first_directory : Bool → List ℕ → List (List ℕ)
first_directory little bytes = entries_of little (drop (number_at little 4 4 bytes) bytes)

-- After its entries there is the offset of the next directory: 0 where there is none, or where that
-- offset is cut.
unfoldable pub next_of : Bool → List ℕ → ℕ
next_of little directory =
    let end = 2 + 12 * number_at little 0 2 directory in
    if nat_le (end + 4) (length directory) then number_at little end 4 directory else 0

-- the directory at an offset that isn't 0
abbrev pub directory_from : Bool → ℕ → List ℕ → List (List ℕ)
directory_from little offset bytes =
    if offset == 0 then [] else entries_of little (drop offset bytes)

unfoldable pub second_directory : Bool → List ℕ → List (List ℕ)
second_directory little bytes =
    directory_from little (next_of little (drop (number_at little 4 4 bytes) bytes)) bytes

-- ---- entries: a tag, a type, a count, and the value or its offset

-- the first entry of this tag
abbrev pub tagged : Bool → ℕ → List (List ℕ) → Option (List ℕ)
tagged little tag all = find (λ entry. number_at little 0 2 entry == tag) all

-- the number that an entry is, of the type SHORT (3) or LONG (4)
unfoldable pub number_in : Bool → List ℕ → Option ℕ
number_in little entry =
    if number_at little 4 4 entry == 1
    then (if number_at little 2 2 entry == 3 then Some (number_at little 8 2 entry)
    else (if number_at little 2 2 entry == 4 then Some (number_at little 8 4 entry) else None))
    else None
