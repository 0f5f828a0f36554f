-- The places of metadata, as the segments of a stream are walked.
use Rattle.std.proofs.Common.{arith, ◌≡◌, ◌∙◌, ℕ, zero, suc, ◌+◌, ◌-◌, ◌<◌, ◌≤◌, List, [], ◌∷◌, Ok}
use Rattle.std.proofs.Common.{Bool, true, false, Some, None, ap, drop, length, length-drop, ne_eqb, refl}
use Rattle.std.specs.Prelude.{IsErr, ◌++◌, ◌&&◌, ◌==◌, codes, fold, if◌then◌else◌, nat_lt}
use Rattle.std.proofs.lemmas.Bool.Decides.{nat_tests}
use Rattle.std.proofs.lemmas.Grind.{common_steps}
use Rattle.jpeg_bits.specs.Marker.{marker_of, next_marker}
use Rattle.jpeg_bits.specs.Reading.{length_at, next_u16, times}
use Rattle.jpeg_bits.specs.declared.marker.Marker.{Marker}
use Rattle.jpeg_segments.specs.Application.{Avi1, Jfif, Psir, application_by, avi1_name, begins_with, jfif_name}
use Rattle.jpeg_segments.specs.Application.{exif_name, icc_name, photoshop_name, xmp_name}
use Rattle.zaxbriar_calls.specs.Places.{ends_image, no_places, places_of, place_before, segments_of}
use Rattle.zaxbriar_calls.specs.Places.{with_next, with_part, with_said}
use Rattle.zaxbriar_calls.specs.Places.{with_segment}
use Rattle.zaxbriar_calls.specs.StreamSegments.{next_segment, payload_at, payload_by}
use Rattle.zaxbriar_calls.specs.declared.places.Places.{Places}

-- with this many segments more
pub found_from : List ℕ → ℕ → Places → List ℕ → Places
found_from stream n places rest = fold (with_next stream) places (segments_of n rest)

pub places-are : (stream : List ℕ) → places_of stream ≡ found_from stream (length stream) no_places stream
unfolding places_of found_from
places-are stream = refl

pub places-none : (stream : List ℕ) (n : ℕ) (places : Places) (rest : List ℕ) → IsErr (next_segment rest)
    → found_from stream n places rest ≡ places
unfolding found_from segments_of
places-none stream zero places rest h = refl
places-none stream (suc n) places rest h = grind (arith, common_steps)

pub segments-next : (n : ℕ) (rest payload others : List ℕ) (m : Marker) → next_segment rest ≡ Ok ((m, payload), others)
    → ends_image m ≡ false → segments_of (suc n) rest ≡ ((m, payload), others) ∷ segments_of n others
unfolding segments_of
segments-next n rest payload others m h e = grind (arith, common_steps)

pub segments-last : (n : ℕ) (rest payload others : List ℕ) (m : Marker) → next_segment rest ≡ Ok ((m, payload), others)
    → ends_image m ≡ true → segments_of (suc n) rest ≡ ((m, payload), others) ∷ []
unfolding segments_of
segments-last n rest payload others m h e = grind (arith, common_steps)

one-more : (stream : List ℕ) (n : ℕ) (places : Places) (rest payload others : List ℕ) (m : Marker)
    → next_segment rest ≡ Ok ((m, payload), others) → ends_image m ≡ false
    → found_from stream (suc n) places rest
    ≡ found_from stream n (with_segment (length stream - length others) m payload places) others
unfolding found_from
one-more stream n places rest payload others m h e =
    ap (λ (l : List ((Marker × List ℕ) × List ℕ)). fold (with_next stream) places l)
    (segments-next n rest payload others m h e)

pub places-later : (stream : List ℕ) (count place : ℕ) (places : Places) (rest payload others : List ℕ) (m : Marker)
    → place < count → next_segment rest ≡ Ok ((m, payload), others) → ends_image m ≡ false
    → found_from stream (count - place) places rest
    ≡ found_from stream (count - (place + 1)) (with_segment (length stream - length others) m payload places) others
places-later stream count place places rest payload others m some h e =
    let more : count - place ≡ suc (count - (place + 1)) = omega (arith, some) in
    ap (λ n. found_from stream n places rest) more
    ∙ one-more stream (count - (place + 1)) places rest payload others m h e

last-one : (stream : List ℕ) (n : ℕ) (places : Places) (rest payload others : List ℕ) (m : Marker)
    → next_segment rest ≡ Ok ((m, payload), others) → ends_image m ≡ true
    → found_from stream (suc n) places rest ≡ with_segment (length stream - length others) m payload places
unfolding found_from
last-one stream n places rest payload others m h e =
    ap (λ (l : List ((Marker × List ℕ) × List ℕ)). fold (with_next stream) places l)
    (segments-last n rest payload others m h e)

pub places-ended : (stream : List ℕ) (count place : ℕ) (places : Places) (rest payload others : List ℕ) (m : Marker)
    → place < count → next_segment rest ≡ Ok ((m, payload), others) → ends_image m ≡ true
    → found_from stream (count - place) places rest ≡ with_segment (length stream - length others) m payload places
places-ended stream count place places rest payload others m some h e =
    let more : count - place ≡ suc (count - (place + 1)) = omega (arith, some) in
    ap (λ n. found_from stream n places rest) more
    ∙ last-one stream (count - (place + 1)) places rest payload others m h e

pub places-past : (stream : List ℕ) (count place : ℕ) (places : Places) (rest : List ℕ) → count ≤ place
    → found_from stream (count - place) places rest ≡ places
unfolding found_from segments_of
places-past stream count place places rest past =
    let none : count - place ≡ 0 = omega (arith, past) in
    ap (λ n. found_from stream n places rest) none

-- ---- applications that have no metadata

pub other-said : (end number : ℕ) (payload : List ℕ) (places : Places) → (number ≡ 1 → ⊥) → (number ≡ 2 → ⊥)
    → with_said end (application_by number payload) places ≡ places
unfolding application_by
other-said end number payload places one two =
    rw (ne_eqb number 1 one, ne_eqb number 2 two)
    (go (number == 0 && begins_with payload jfif_name) (number == 0 && begins_with payload avi1_name)
    (number == 13 && begins_with payload photoshop_name))
  where
    go : (jfif avi1 psir : Bool) → with_said end (if jfif then Some Jfif else (if avi1 then Some Avi1 else (
        if psir then Some (Psir (drop 14 payload)) else None))) places ≡ places
    go true avi1 psir = refl
    go false true psir = refl
    go false false true = refl
    go false false false = refl

-- ---- XMP data, and a part of a profile

pub xmp-said : (end : ℕ) (payload : List ℕ) (places : Places) → begins_with payload exif_name ≡ false
    → begins_with payload xmp_name ≡ true
    → with_said end (application_by 1 payload) places
    ≡ record places { xmp = place_before end (length payload - 29) }
unfolding application_by
xmp-said end payload places exif xmp =
    rw (exif, xmp) (ap (λ n. record places { xmp = place_before end n }) (length-drop 29 payload))

pub part-said : (end : ℕ) (payload : List ℕ) (places : Places) → 14 < length payload
    → begins_with payload icc_name ≡ true
    → with_said end (application_by 2 payload) places ≡ with_part (place_before end (length payload - 14)) places
unfolding application_by
part-said end payload places long named =
    let some : nat_lt 14 (length payload) ≡ true = grind (arith, common_steps, nat_tests) in
    rw (some, named) (ap (λ n. with_part (place_before end n) places) (length-drop 14 payload))

-- worked by hand: two bytes of Exif data in an image, after which one byte is left
worked : places_of (255 ∷ 216 ∷ 255 ∷ 225 ∷ 0 ∷ 10 ∷ (codes "Exif" ++ (0 ∷ 0 ∷ 77 ∷ 77 ∷ 255 ∷ 217 ∷ 1 ∷ [])))
    ≡ record no_places { exif = record { offset = 12; size = 2 }; stream_bytes = 16; ended = 1 }
unfolding places_of segments_of next_segment next_marker marker_of payload_by payload_at length_at next_u16 times
    application_by
worked = refl
