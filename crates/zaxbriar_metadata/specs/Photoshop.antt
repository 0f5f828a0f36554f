-- IPTC data among the image resources of Photoshop (Photoshop File Formats Specification, Image
-- Resource Blocks).
use Rattle.std.specs.Prelude.{ℕ, zero, suc, ◌+◌, ◌%◌, ◌==◌, ◌&&◌, false, nat_eq, nat_le}
use Rattle.std.specs.Prelude.{List, codes, take, drop, length, slice_index, Option, Some, None}
use Rattle.std.specs.Prelude.{if◌then◌else◌}
use Rattle.std.specs.List.{starts_with}
use Rattle.jpeg_orientation.specs.Tiff.{number_at}

-- A resource: `8BIM`, its number, its name after the length of the name, the size of its data, and
-- the data. The name with its length, and the data, are padded to even numbers of bytes.
pub record Resource : Type 0 where
  pub number : ℕ
  pub bytes : List ℕ
  pub rest : List ℕ

-- the next even number
abbrev pub even : ℕ → ℕ
even n = n + n % 2

-- how many bytes there are before the size
abbrev pub size_at : List ℕ → ℕ
size_at bytes = 6 + even (1 + slice_index bytes 6)

abbrev pub size_of : List ℕ → ℕ
size_of bytes = number_at false (size_at bytes) 4 bytes

-- the resource that some bytes begin with, and the bytes after it
unfoldable pub first_resource : List ℕ → Option Resource
first_resource bytes =
    if starts_with nat_eq bytes (codes "8BIM")
    && nat_le (size_at bytes + 4 + size_of bytes) (length bytes)
    then Some (record {
      number = number_at false 4 2 bytes;
      bytes = take (size_of bytes) (drop (size_at bytes + 4) bytes);
      rest = drop (size_at bytes + 4 + even (size_of bytes)) bytes;
    }) else None

-- the data of the first resource of a number, among so many
unfoldable pub resource_of : ℕ → ℕ → List ℕ → Option (List ℕ)
resource_of number zero bytes = None
resource_of number (suc n) bytes = elim (first_resource bytes) [
  | None ↦ None
  | Some r ↦ if r.number == number then Some r.bytes else resource_of number n r.rest
]

-- IPTC data are the resource 0x0404. Each resource takes bytes, so that there are no more than
-- these.
unfoldable pub iptc_in : List ℕ → Option (List ℕ)
iptc_in resources = resource_of 0x0404 (length resources) resources
