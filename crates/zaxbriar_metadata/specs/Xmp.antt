-- Extended XMP (XMP Specification, part 3, 1.1.3.1): packets above the size of a segment.
use Rattle.std.specs.Prelude.{ℕ, zero, suc, ◌==◌, ◌&&◌, ◌||◌, not, nat_eq, nat_le, nat_lt}
use Rattle.std.specs.Prelude.{List, [], ◌∷◌, ◌++◌, codes, take, drop, length, filter}
use Rattle.std.specs.Prelude.{Bool, true, false, Option, Some, None, if◌then◌else◌}
use Rattle.std.specs.List.{find, list_all, starts_with}
use Rattle.jpeg_orientation.specs.Tiff.{number_at}

-- ---- the GUID that the main packet names: `xmpNote:HasExtendedXMP="GUID"`, or an element

-- the bytes after the first text of a name
unfoldable pub after : List ℕ → List ℕ → Option (List ℕ)
after name [] = None
after name (b ∷ bytes) = elim (starts_with nat_eq (b ∷ bytes) name) [
  | true ↦ Some (drop (length name) (b ∷ bytes))
  | false ↦ after name bytes
]

-- a quotation mark, an apostrophe or an angle bracket
abbrev pub is_mark : ℕ → Bool
is_mark b = b == 34 || (b == 39 || b == 62)

-- the bytes after the next mark
unfoldable pub value_of : List ℕ → List ℕ
value_of [] = []
value_of (b ∷ bytes) = elim (is_mark b) [
  | true ↦ bytes
  | false ↦ value_of bytes
]

-- the GUID, of 32 digits
unfoldable pub guid_in : List ℕ → Option (List ℕ)
guid_in packet = elim (after (codes "xmpNote:HasExtendedXMP") packet) [
  | None ↦ None
  | Some rest ↦ if nat_le 32 (length (value_of rest)) then Some (take 32 (value_of rest)) else None
]

-- ---- parts: the GUID, the length of the whole, the offset of the part in it, and its bytes

-- whether a part, of at least one byte, is of this GUID
abbrev pub is_of : List ℕ → List ℕ → Bool
is_of guid part = nat_lt 40 (length part) && starts_with nat_eq part guid

-- the first part of this GUID that begins at an offset
abbrev pub part_at : List ℕ → ℕ → List (List ℕ) → Option (List ℕ)
part_at guid offset parts =
    find (λ part. is_of guid part && number_at false 36 4 part == offset) parts

-- so many parts, each of which begins where those before it end
unfoldable pub joined : ℕ → List ℕ → List ℕ → List (List ℕ) → Option (List ℕ)
joined zero before guid parts = Some before
joined (suc n) before guid parts = elim (part_at guid (length before) parts) [
  | None ↦ None
  | Some part ↦ joined n (before ++ drop 40 part) guid parts
]

-- Each part of this GUID names this length of the whole.
abbrev pub all_name : List ℕ → ℕ → List (List ℕ) → Bool
all_name guid size parts =
    list_all (λ part. not (is_of guid part) || number_at false 32 4 part == size) parts

-- The extension of a GUID: there where each of its parts begins where another ends, and they all
-- name the length of the whole. So each byte is there exactly once.
unfoldable pub extension : List ℕ → List (List ℕ) → Option (List ℕ)
extension guid parts = elim (joined (length (filter (is_of guid) parts)) [] guid parts) [
  | None ↦ None
  | Some whole ↦ if nat_le 1 (length whole) && all_name guid (length whole) parts
      then Some whole else None
]

-- The extension that the main packet names, of at most 4,096 parts, whose order is any.
unfoldable pub extended_xmp : List ℕ → List (List ℕ) → Option (List ℕ)
extended_xmp packet parts = elim (guid_in packet) [
  | None ↦ None
  | Some guid ↦ if nat_le (length parts) 4096 then extension guid parts else None
]
