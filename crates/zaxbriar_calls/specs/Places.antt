-- Where the metadata of a whole image are in its bytes.
use Rattle.std.specs.Prelude.{ℕ, zero, suc, ◌+◌, ◌-◌, Bool, true, false, List, [], ◌∷◌, fold}
use Rattle.std.specs.Prelude.{length, min, nat_lt, replicate, slice_set, Option, Some, None, Ok}
use Rattle.std.specs.Prelude.{Err, if◌then◌else◌}
use Rattle.jpeg_bits.specs.declared.marker.Marker.{Marker}
use Rattle.jpeg_bits.specs.declared.marker.Marker.TheVariants.{APP, EOI}
use Rattle.jpeg_segments.specs.Application.{Application, Exif, Icc, Xmp, application_by}
use Rattle.zaxbriar_calls.specs.StreamSegments.{next_segment}
use Rattle.zaxbriar_calls.specs.declared.places.Place.{Place}
use Rattle.zaxbriar_calls.specs.declared.places.Places.{Places}

abbrev pub ends_image : Marker → Bool
ends_image EOI = true
ends_image _ = false

-- the segments in some bytes, at most so many, up to the end of the image: the marker and the
-- payload of each, and the bytes after it
unfoldable pub segments_of : ℕ → List ℕ → List ((Marker × List ℕ) × List ℕ)
segments_of zero bytes = []
segments_of (suc n) bytes = elim (next_segment bytes) [
  | Err fault ↦ []
  | Ok s ↦ s ∷ (if ends_image s.0.0 then [] else segments_of n s.1)
]

-- what a segment says for an application
abbrev pub said_in : Marker → List ℕ → Option Application
said_in (APP number) payload = application_by number payload
said_in _ payload = None

-- the last bytes of a segment, so many before its end
abbrev pub place_before : ℕ → ℕ → Place
place_before end size = record { offset = end - size; size = size }

-- one more part of a profile, of which the first 255 have a place
abbrev pub with_part : Place → Places → Places
with_part place places = record places {
  icc_parts = min (places.icc_parts + 1) 4294967295;
  icc = if nat_lt places.icc_parts 255 then slice_set places.icc places.icc_parts place
      else places.icc;
}

-- The data of an application are the last bytes of its segment.
abbrev pub with_said : ℕ → Option Application → Places → Places
with_said end (Some (Exif bytes)) places = record places { exif = place_before end (length bytes) }
with_said end (Some (Xmp bytes)) places = record places { xmp = place_before end (length bytes) }
with_said end (Some (Icc part)) places = with_part (place_before end (length part.bytes)) places
with_said end _ places = places

-- with a segment that ends after so many bytes of the stream
abbrev pub with_segment : ℕ → Marker → List ℕ → Places → Places
with_segment end marker payload places = with_said end (said_in marker payload) (record places {
  stream_bytes = end;
  ended = if ends_image marker then 1 else 0;
})

-- with a segment of a stream, and the bytes after it
abbrev pub with_next : List ℕ → Places → (Marker × List ℕ) × List ℕ → Places
with_next stream places s = with_segment (length stream - length s.1) s.0.0 s.0.1 places

abbrev pub no_place : Place
no_place = record { offset = 0; size = 0 }

abbrev pub no_places : Places
no_places = record {
  exif = no_place;
  xmp = no_place;
  stream_bytes = 0;
  icc_parts = 0;
  ended = 0;
  reserved = replicate 4 0;
  icc = replicate 255 no_place;
}

-- Each segment takes bytes, so that there are no more than these.
unfoldable pub places_of : List ℕ → Places
places_of stream = fold (with_next stream) no_places (segments_of (length stream) stream)
