-- The density that the JFIF segment of a header gives (T.871, 10.1).
use Rattle.std.specs.Prelude.{ℕ, zero, suc, ◌+◌, ◌*◌, ◌==◌, ◌&&◌, Bool, true, false, List, drop}
use Rattle.std.specs.Prelude.{length, nat_le, slice_index, Option, Some, None, Ok, Err}
use Rattle.std.specs.Prelude.{if◌then◌else◌}
use Rattle.jpeg_bits.specs.Marker.{next_marker}
use Rattle.jpeg_bits.specs.declared.marker.Marker.{Marker}
use Rattle.jpeg_bits.specs.declared.marker.Marker.TheVariants.{SOF, RST, SOI, EOI, TEM, APP}
use Rattle.jpeg_segments.specs.Application.{begins_with, jfif_name}
use Rattle.zaxbriar_calls.specs.StreamSegments.{payload_at}
use Rattle.zaxbriar_calls.specs.declared.density.Density.{Density}

-- A JFIF segment, whose payload begins with the name, two bytes of a version, the unit, and
-- Hdensity and Vdensity, the higher byte first.
abbrev pub is_jfif : Marker → List ℕ → Bool
is_jfif (APP number) payload =
    number == 0 && (nat_le 12 (length payload) && begins_with payload jfif_name)
is_jfif _ payload = false

-- the density in its payload
abbrev pub density_in : List ℕ → Density
density_in payload = record {
  unit = slice_index payload 7;
  horizontal = 256 * slice_index payload 8 + slice_index payload 9;
  vertical = 256 * slice_index payload 10 + slice_index payload 11;
}

-- The frame header ends a header, and the others have no place in it: after them no length field
-- stands (T.81, B.1.1.4).
abbrev pub ends_header : Marker → Bool
ends_header (SOF number) = true
ends_header (RST number) = true
ends_header SOI = true
ends_header EOI = true
ends_header TEM = true
ends_header _ = false

-- the density of the first JFIF segment among this many, up to the end of the header
unfoldable pub first_density : ℕ → List ℕ → Option Density
first_density zero bytes = None
first_density (suc segments) bytes =
    elim (next_marker bytes) [
      | Err fault ↦ None
      | Ok m ↦ if ends_header m.0 then None else elim (payload_at m.1) [
        | Err fault ↦ None
        | Ok p ↦ if is_jfif m.0 p.0 then Some (density_in p.0) else first_density segments p.1
      ]
    ]

abbrev pub no_density : Density
no_density = record { unit = 0; horizontal = 0; vertical = 0 }

abbrev pub or_none : Option Density → Density
or_none None = no_density
or_none (Some density) = density

-- The density of a stream, after its first two bytes, SOI. As each segment takes bytes, there are
-- fewer than bytes.
unfoldable pub density_of : List ℕ → Density
density_of stream = or_none (first_density (length stream) (drop 2 stream))
