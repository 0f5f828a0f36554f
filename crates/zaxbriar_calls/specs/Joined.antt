-- The metadata that stand in several segments, of a whole image.
use Rattle.std.specs.Prelude.{ℕ, ◌==◌, ◌&&◌, not, nat_le, Bool, List, length, Option, Some, None}
use Rattle.std.specs.Prelude.{if◌then◌else◌}
use Rattle.std.specs.List.{filter_map}
use Rattle.jpeg_bits.specs.declared.marker.Marker.{Marker}
use Rattle.jpeg_bits.specs.declared.marker.Marker.TheVariants.{APP}
use Rattle.zaxbriar_metadata.specs.Collected.{Collection, collection_of, extension_of}
use Rattle.zaxbriar_metadata.specs.Collected.{iptc_of, thumbnail_of, with_segment}
use Rattle.zaxbriar_calls.specs.Places.{segments_of}

-- whether there are such data: 1 Exif, 2 XMP, 4 extended XMP, 5 IPTC, 6 a thumbnail
abbrev pub is_joined_kind : ℕ → Bool
is_joined_kind kind = nat_le 1 kind && (nat_le kind 6 && not (kind == 3))

-- the data of a kind among what segments bring
abbrev pub datum_of : ℕ → Collection → Option (List ℕ)
datum_of kind c = if kind == 1 then c.exif
    else (if kind == 2 then c.xmp
    else (if kind == 4 then extension_of c
    else (if kind == 5 then iptc_of c
    else (if kind == 6 then thumbnail_of c else None))))

-- the segment of an application: its number and its payload
abbrev pub application_of : Marker → List ℕ → Option (ℕ × List ℕ)
application_of (APP number) payload = Some (number, payload)
application_of _ payload = None

-- those among some segments
abbrev pub applications_of : List ((Marker × List ℕ) × List ℕ) → List (ℕ × List ℕ)
applications_of segments = filter_map (λ s. application_of s.0.0 s.0.1) segments

-- those of an image, up to its end or as far as there are whole segments
abbrev pub applications_in : List ℕ → List (ℕ × List ℕ)
applications_in stream = applications_of (segments_of (length stream) stream)

-- the data of a kind that an image has
abbrev pub joined_of : ℕ → List ℕ → Option (List ℕ)
joined_of kind stream = datum_of kind (collection_of (applications_in stream))

-- with one more segment, if it is an application's
abbrev pub with_application : Collection → Option (ℕ × List ℕ) → Collection
with_application c None = c
with_application c (Some segment) = with_segment c segment
