-- Exif data in several segments, and the thumbnail in Exif data (Exif 2.32, 4.5).
use Rattle.std.specs.Prelude.{ℕ, ◌+◌, ◌&&◌, nat_le, List, ◌++◌, take, drop, length, fold}
use Rattle.std.specs.Prelude.{Bool, Option, Some, None, is_some, if◌then◌else◌}
use Rattle.jpeg_orientation.specs.Tiff.{number_in, order_in, second_directory, tagged}

-- ---- segments

-- A segment whose data begin with a TIFF header begins Exif data; another one continues those
-- before it, if there are any.
unfoldable pub with_exif : Option (List ℕ) → List ℕ → Option (List ℕ)
with_exif None segment = Some segment
with_exif (Some before) segment =
    if is_some (order_in segment) then Some segment else Some (before ++ segment)

-- the Exif data of a stream, by the data of its segments in their order
abbrev pub joined_exif : List (List ℕ) → Option (List ℕ)
joined_exif segments = fold with_exif None segments

-- ---- the thumbnail

-- the bytes at an offset, so many, if all are there and there is one
unfoldable pub part_of : Option ℕ → Option ℕ → List ℕ → Option (List ℕ)
part_of (Some offset) (Some size) exif =
    if nat_le 1 size && nat_le (offset + size) (length exif)
    then Some (take size (drop offset exif)) else None
part_of _ _ exif = None

-- the number that the first entry of a tag is
unfoldable pub number_of : Bool → ℕ → List (List ℕ) → Option ℕ
number_of little tag all = elim (tagged little tag all) [
  | None ↦ None
  | Some entry ↦ number_in little entry
]

-- The second directory is that of the thumbnail. JPEGInterchangeFormat (0x0201) is its offset, and
-- JPEGInterchangeFormatLength (0x0202) how many bytes it has.
unfoldable pub thumbnail_in : List ℕ → Option (List ℕ)
thumbnail_in exif = elim (order_in exif) [
  | None ↦ None
  | Some little ↦ part_of (number_of little 0x0201 (second_directory little exif))
      (number_of little 0x0202 (second_directory little exif)) exif
]
