-- The first JFIF segment of a header, as it is searched for.
use Rattle.std.proofs.Common.{arith, ◌≡◌, ◌∙◌, ℕ, zero, suc, ◌+◌, ◌-◌, ◌<◌, ◌≤◌, List, [], ◌∷◌, Ok, Err}
use Rattle.std.proofs.Common.{Some, None, ap, drop, false, length, length-drop, refl}
use Rattle.std.proofs.Common.{true}
use Rattle.std.specs.Prelude.{IsErr, ◌++◌, codes}
use Rattle.std.proofs.lemmas.Grind.{common_steps}
use Rattle.jpeg_bits.specs.Marker.{marker_of, next_marker}
use Rattle.jpeg_bits.specs.Reading.{End, length_at, next_u16, times}
use Rattle.jpeg_bits.specs.declared.marker.Marker.{Marker}
use Rattle.zaxbriar_calls.specs.Density.{density_in, density_of, ends_header, first_density, is_jfif}
use Rattle.zaxbriar_calls.specs.Density.{no_density, or_none}
use Rattle.zaxbriar_calls.specs.StreamSegments.{payload_at}
use Rattle.zaxbriar_calls.proofs.FoundSegments.{no-marker}
use Rattle.zaxbriar_calls.specs.declared.density.Density.{Density}

-- ---- the first JFIF segment

pub first-none : (n : ℕ) (bytes : List ℕ) → next_marker bytes ≡ Err End → first_density n bytes ≡ None
unfolding first_density
first-none zero bytes h = refl
first-none (suc n) bytes h = grind (arith, common_steps)

pub first-ended : (n : ℕ) (bytes after : List ℕ) (m : Marker) → next_marker bytes ≡ Ok (m, after)
    → ends_header m ≡ true → first_density n bytes ≡ None
unfolding first_density
first-ended zero bytes after m h e = refl
first-ended (suc n) bytes after m h e = grind (arith, common_steps)

pub first-cut : (n : ℕ) (bytes after : List ℕ) (m : Marker) → next_marker bytes ≡ Ok (m, after)
    → IsErr (payload_at after) → first_density n bytes ≡ None
unfolding first_density
first-cut zero bytes after m h e = refl
first-cut (suc n) bytes after m h e = grind (arith, common_steps)

pub first-jfif : (n : ℕ) (bytes after payload others : List ℕ) (m : Marker) → 0 < n
    → next_marker bytes ≡ Ok (m, after) → ends_header m ≡ false → payload_at after ≡ Ok (payload, others)
    → is_jfif m payload ≡ true → first_density n bytes ≡ Some (density_in payload)
unfolding first_density
first-jfif (suc n) bytes after payload others m some h e p j = grind (arith, common_steps)
first-jfif zero bytes after payload others m some h e p j = absurd (omega (arith, some))

one-later : (n : ℕ) (bytes after payload others : List ℕ) (m : Marker) → next_marker bytes ≡ Ok (m, after)
    → ends_header m ≡ false → payload_at after ≡ Ok (payload, others) → is_jfif m payload ≡ false
    → first_density (suc n) bytes ≡ first_density n others
unfolding first_density
one-later n bytes after payload others m h e p j = grind (arith, common_steps)

pub first-later : (count place : ℕ) (bytes after payload others : List ℕ) (m : Marker) → place < count
    → next_marker bytes ≡ Ok (m, after) → ends_header m ≡ false → payload_at after ≡ Ok (payload, others)
    → is_jfif m payload ≡ false → first_density (count - place) bytes ≡ first_density (count - (place + 1)) others
first-later count place bytes after payload others m some h e p j =
    let more : count - place ≡ suc (count - (place + 1)) = omega (arith, some) in
    ap (λ n. first_density n bytes) more ∙ one-later (count - (place + 1)) bytes after payload others m h e p j

pub first-past : (count place : ℕ) (bytes : List ℕ) → count ≤ place → first_density (count - place) bytes ≡ None
unfolding first_density
first-past count place bytes past =
    let none : count - place ≡ 0 = omega (arith, past) in
    ap (λ n. first_density n bytes) none

pub density-short : (stream : List ℕ) → length stream < 2 → density_of stream ≡ no_density
unfolding density_of
density-short stream few =
    let none : length (drop 2 stream) < 2 = omega (arith, few, length-drop {A = ℕ}) in
    ap or_none (first-none (length stream) (drop 2 stream) (no-marker (drop 2 stream) none))

pub density-some : (stream : List ℕ) (density : Density)
    → first_density (length stream) (drop 2 stream) ≡ Some density → density_of stream ≡ density
unfolding density_of
density-some stream density h = ap or_none h

pub density-none : (stream : List ℕ) → first_density (length stream) (drop 2 stream) ≡ None
    → density_of stream ≡ no_density
unfolding density_of
density-none stream h = ap or_none h

-- a stream worked by hand: its first segment gives 72 to 300 pixels per inch, and its frame follows
worked : density_of (255 ∷ 216 ∷ 255 ∷ 224 ∷ 0 ∷ 16
    ∷ (codes "JFIF" ++ (0 ∷ 1 ∷ 2 ∷ 1 ∷ 0 ∷ 72 ∷ 1 ∷ 44 ∷ 0 ∷ 0 ∷ 255 ∷ 192 ∷ [])))
    ≡ record { unit = 1; horizontal = 72; vertical = 300 }
unfolding density_of first_density payload_at next_marker marker_of length_at next_u16 times
worked = refl
