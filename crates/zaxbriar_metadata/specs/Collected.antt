-- What the segments of applications bring beside a picture, one after the other.
use Rattle.std.specs.Prelude.{ℕ, ◌&&◌, ◌==◌, nat_eq, List, [], ◌∷◌, ◌++◌, codes, drop, fold, map}
use Rattle.std.specs.Prelude.{Bool, Option, Some, None, filter, length, if◌then◌else◌}
use Rattle.std.specs.List.{starts_with}
use Rattle.zaxbriar_metadata.specs.Exif.{thumbnail_in, with_exif}
use Rattle.zaxbriar_metadata.specs.Photoshop.{iptc_in}
use Rattle.zaxbriar_metadata.specs.Xmp.{extended_xmp}

-- ---- the names that payloads begin with

abbrev pub exif_name : List ℕ
exif_name = codes "Exif" ++ 0 ∷ 0 ∷ []

abbrev pub xmp_name : List ℕ
xmp_name = codes "http://ns.adobe.com/xap/1.0/" ++ 0 ∷ []

abbrev pub extension_name : List ℕ
extension_name = codes "http://ns.adobe.com/xmp/extension/" ++ 0 ∷ []

abbrev pub photoshop_name : List ℕ
photoshop_name = codes "Photoshop 3.0" ++ 0 ∷ []

-- ---- segments

-- the Exif data, the last XMP data, the parts of extended XMP data, and the image resources
pub record Collection : Type 0 where
  pub exif : Option (List ℕ)
  pub xmp : Option (List ℕ)
  pub extensions : List (List ℕ)
  pub resources : List ℕ

abbrev pub nothing : Collection
nothing = record { exif = None; xmp = None; extensions = []; resources = [] }

-- whether a segment is of the application of a number, and begins with a name
abbrev pub is_named : ℕ → List ℕ → ℕ × List ℕ → Bool
is_named number name segment = segment.0 == number && starts_with nat_eq segment.1 name

-- With one more segment: the number of its application, and its payload. Exif data and image
-- resources go on from segment to segment; a part of extended XMP data stands for itself.
unfoldable pub with_segment : Collection → ℕ × List ℕ → Collection
with_segment c segment =
    if is_named 1 exif_name segment
    then record c { exif = with_exif c.exif (drop 6 segment.1) } else (
    if is_named 1 xmp_name segment
    then record c { xmp = Some (drop 29 segment.1) } else (
    if is_named 1 extension_name segment
    then record c { extensions = c.extensions ++ (drop 35 segment.1 ∷ []) } else (
    if is_named 13 photoshop_name segment
    then record c { resources = c.resources ++ drop 14 segment.1 } else c)))

-- what all segments of a stream bring, in their order
abbrev pub collection_of : List (ℕ × List ℕ) → Collection
collection_of segments = fold with_segment nothing segments

-- the data of those segments that are of the application of a number, and begin with a name
abbrev pub data_named : ℕ → List ℕ → List (ℕ × List ℕ) → List (List ℕ)
data_named number name segments =
    map (λ s. drop (length name) s.1) (filter (is_named number name) segments)

-- ---- what is found in them

-- the thumbnail in the Exif data
abbrev pub thumbnail_of : Collection → Option (List ℕ)
thumbnail_of c = elim c.exif [
  | None ↦ None
  | Some exif ↦ thumbnail_in exif
]

-- the extension that the main packet names
abbrev pub extension_of : Collection → Option (List ℕ)
extension_of c = elim c.xmp [
  | None ↦ None
  | Some packet ↦ extended_xmp packet c.extensions
]

-- the IPTC data among the image resources
abbrev pub iptc_of : Collection → Option (List ℕ)
iptc_of c = iptc_in c.resources
