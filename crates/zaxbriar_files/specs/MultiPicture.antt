-- The index of a file of several images (CIPA DC-007, 5.2): a TIFF structure, whose first directory
-- has the number of images and a table with an MP entry for each.
use Rattle.std.specs.Prelude.{ℕ, zero, suc, ◌+◌, ◌*◌, ◌/◌, ◌%◌, ◌==◌, ◌&&◌, not, min, nat_le}
use Rattle.std.specs.Prelude.{Bool, List, [], ◌∷◌, take, drop, length, Option, Some, None}
use Rattle.std.specs.Prelude.{if◌then◌else◌}
use Rattle.jpeg_orientation.specs.Tiff.{first_directory, number_at, order_in, tagged}
use Rattle.zaxbriar_files.specs.declared.multi_picture.Image.{Image}
use Rattle.zaxbriar_files.specs.declared.multi_picture.Index.{Index}
use Rattle.zaxbriar_files.specs.declared.multi_picture.Index.TheVariants.{Broken, Images}

-- ---- MP entries

-- An offset of 0, as that of the first image is, is the beginning of the file; others are counted
-- from the header of the structure on, which is at `base` in the file.
abbrev pub start_of : ℕ → ℕ → ℕ
start_of base offset = if offset == 0 then 0 else min (base + offset) 18446744073709551615

-- Four bytes of attributes, the size, and the offset. The lower three bytes of the attributes are
-- the type, and bit 29 says that the image represents the others.
abbrev pub image_of : Bool → ℕ → List ℕ → Image
image_of little base entry = record {
  kind = number_at little 0 4 entry % 16777216;
  is_representative = number_at little 0 4 entry / 536870912 % 2 == 1;
  start = start_of base (number_at little 8 4 entry);
  size = number_at little 4 4 entry;
}

-- An entry has sixteen bytes.
unfoldable pub images_in : Bool → ℕ → ℕ → List ℕ → List Image
images_in little base zero table = []
images_in little base (suc n) table =
    image_of little base (take 16 table) ∷ images_in little base n (drop 16 table)

-- ---- the directory

abbrev pub first_offset : Bool → List ℕ → ℕ
first_offset little bytes = number_at little 4 4 bytes

-- Whether all entries of the first directory are there.
abbrev pub is_whole : Bool → List ℕ → Bool
is_whole little bytes = nat_le 8 (length bytes) && nat_le (first_offset little bytes + 2
    + 12 * number_at little 0 2 (drop (first_offset little bytes) bytes)) (length bytes)

-- Whether two entries give the number of images, one number of the type LONG (4) that isn't 0, and
-- a table of the type UNDEFINED (7) with sixteen bytes for each image, by their types and counts.
abbrev pub describes : ℕ → ℕ → ℕ → ℕ → ℕ → Bool
describes kind count images table_kind table_count = kind == 4 && (count == 1
    && (not (images == 0) && (table_kind == 7 && table_count == 16 * images)))

-- The table stands at its offset in the bytes.
unfoldable pub is_index : Bool → List ℕ → List ℕ → List ℕ → Bool
is_index little bytes number table = describes (number_at little 2 2 number)
    (number_at little 4 4 number) (number_at little 8 4 number) (number_at little 2 2 table)
    (number_at little 4 4 table)
    && nat_le (number_at little 8 4 table + number_at little 4 4 table) (length bytes)

unfoldable pub images_by : Bool → ℕ → List ℕ → List ℕ → List ℕ → Option (List Image)
images_by little base bytes number table =
    if is_index little bytes number table
    then Some (images_in little base (number_at little 8 4 number)
    (drop (number_at little 8 4 table) bytes)) else None

-- ---- the index

-- The images by these entries of the directory: none where there is no index, since another image's
-- directory has neither, and none of the images where it is broken.
unfoldable pub index_by : Bool → ℕ → List ℕ → Option (List ℕ) → Option (List ℕ)
    → Option (Option (List Image))
index_by little base bytes (Some number) (Some table) =
    Some (images_by little base bytes number table)
index_by little base bytes None None = None
index_by little base bytes _ _ = Some None

unfoldable pub index_of : Bool → ℕ → List ℕ → Option (Option (List Image))
index_of little base bytes =
    let directory = first_directory little bytes in
    if is_whole little bytes then index_by little base bytes (tagged little 0xb001 directory)
    (tagged little 0xb002 directory) else Some None

unfoldable pub index_in : ℕ → List ℕ → Option (Option (List Image))
index_in base bytes = elim (order_in bytes) [
  | None ↦ Some None
  | Some little ↦ index_of little base bytes
]

-- the images of an index that isn't broken
abbrev pub images_seen : Index → Option (List Image)
images_seen Broken = None
images_seen (Images images) = Some images.items
