-- Data that were worked by hand.
use Rattle.std.specs.Prelude.{ℕ, List, [], ◌∷◌, ◌++◌, codes, take, replicate}
use Rattle.std.specs.Prelude.{Bool, true, drop, if◌then◌else◌}
use Rattle.zaxbriar_metadata.specs.Collected.{exif_name, extension_name, photoshop_name, xmp_name}

-- a number of two bytes, and of four, below 256
abbrev pub short : Bool → ℕ → List ℕ
short little n = if little then n ∷ 0 ∷ [] else 0 ∷ n ∷ []

abbrev pub long : Bool → ℕ → List ℕ
long little n = if little then n ∷ 0 ∷ 0 ∷ 0 ∷ [] else 0 ∷ 0 ∷ 0 ∷ n ∷ []

-- an entry of one LONG, whose tag is 0x0200 and so much
abbrev pub entry : Bool → ℕ → ℕ → List ℕ
entry little tag value = (if little then tag ∷ 2 ∷ [] else 2 ∷ tag ∷ [])
    ++ (short little 4 ++ (long little 1 ++ long little value))

-- A header, a directory without entries at offset 8, one of two entries at offset 14, and at offset
-- 40 a thumbnail.
abbrev pub with_thumbnail : Bool → List ℕ
with_thumbnail little =
    (if little then 73 ∷ 73 ∷ [] else 77 ∷ 77 ∷ []) ++ (short little 42 ++ (long little 8
    ++ (short little 0 ++ (long little 14 ++ (short little 2 ++ (entry little 1 40
    ++ (entry little 2 2 ++ (255 ∷ 216 ∷ []))))))))

abbrev pub cut_thumbnail : ℕ → List ℕ
cut_thumbnail size = take size (with_thumbnail true)

-- the resource 0x03ED without a name, of one byte, and the head of IPTC data of two, of the name ab
abbrev pub two_resources : List ℕ
two_resources = codes "8BIM" ++ (3 ∷ 237 ∷ 0 ∷ 0 ∷ 0 ∷ 0 ∷ 0 ∷ 1 ∷ 7 ∷ 0 ∷ [])
    ++ (codes "8BIM" ++ (4 ∷ 4 ∷ 2 ∷ 97 ∷ 98 ∷ 0 ∷ 0 ∷ 0 ∷ 0 ∷ 2 ∷ []))

-- a packet that names a GUID, and a part of one byte, its offset
abbrev pub main_packet : List ℕ
main_packet = codes "<xmpNote:HasExtendedXMP=" ++ (34 ∷ replicate 32 65 ++ 34 ∷ [])

abbrev pub extension_part : ℕ → ℕ → ℕ → List ℕ
extension_part digit size offset =
    replicate 32 digit ++ (0 ∷ 0 ∷ 0 ∷ size ∷ 0 ∷ 0 ∷ 0 ∷ offset ∷ offset ∷ [])

-- the segments of applications: of each its number and its payload
abbrev pub exif_segment : List ℕ → ℕ × List ℕ
exif_segment bytes = (1, exif_name ++ bytes)

abbrev pub xmp_segment : List ℕ → ℕ × List ℕ
xmp_segment bytes = (1, xmp_name ++ bytes)

abbrev pub extension_segment : List ℕ → ℕ × List ℕ
extension_segment bytes = (1, extension_name ++ bytes)

abbrev pub resource_segment : List ℕ → ℕ × List ℕ
resource_segment bytes = (13, photoshop_name ++ bytes)

-- several of each kind
abbrev pub several_segments : List (ℕ × List ℕ)
several_segments =
    exif_segment (1 ∷ []) ∷ exif_segment (73 ∷ 73 ∷ 42 ∷ 0 ∷ []) ∷ xmp_segment (2 ∷ [])
    ∷ extension_segment (1 ∷ []) ∷ resource_segment (8 ∷ []) ∷ exif_segment (7 ∷ [])
    ∷ xmp_segment (3 ∷ []) ∷ extension_segment (2 ∷ []) ∷ resource_segment (9 ∷ []) ∷ []

-- those of other applications, and of other names
abbrev pub other_segments : List (ℕ × List ℕ)
other_segments =
    (13, exif_name) ∷ (2, exif_name) ∷ (2, xmp_name) ∷ (2, extension_name) ∷ (1, photoshop_name)
    ∷ (1, codes "Exif" ++ (0 ∷ [])) ∷ (1, 69 ∷ []) ∷ (1, []) ∷ (13, []) ∷ []

-- Exif data and image resources that are cut after 20 bytes, and an extension of two parts
abbrev pub cut_exif : List (ℕ × List ℕ)
cut_exif =
    exif_segment (take 20 (with_thumbnail true)) ∷ exif_segment (drop 20 (with_thumbnail true)) ∷ []

abbrev pub cut_resources : List (ℕ × List ℕ)
cut_resources =
    resource_segment (take 20 two_resources)
    ∷ resource_segment (drop 20 two_resources ++ (28 ∷ 2 ∷ [])) ∷ []

abbrev pub extended_segments : List (ℕ × List ℕ)
extended_segments =
    extension_segment (extension_part 65 2 1) ∷ xmp_segment main_packet
    ∷ extension_segment (extension_part 65 2 0) ∷ []
