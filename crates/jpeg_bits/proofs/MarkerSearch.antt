-- The search for a marker, in bytes that were read ahead.
use Rattle.std.proofs.Common.{◌≡◌, ℕ, List, ◌∷◌, ◌++◌, ◌+◌, ◌<◌, ◌∙◌, ap, drop, length, None, Option}
use Rattle.std.proofs.Common.{slice_index}
use Rattle.std.proofs.lemmas.List.{drop_more}
use Rattle.jpeg_bits.specs.Marker.{found_or, marker_at, next_marker}
use Rattle.jpeg_bits.specs.declared.marker.Marker.{Marker}

-- two bytes that make no marker
pub passed-one : (a b : ℕ) (rest : List ℕ) → marker_at a b ≡ None → next_marker (a ∷ b ∷ rest) ≡ next_marker (b ∷ rest)
unfolding next_marker
passed-one a b rest none = ap (λ (m : Option Marker). found_or m rest (next_marker (b ∷ rest))) none

-- one more byte of some
pub passed-more : (bytes rest : List ℕ) (i previous : ℕ) → i < length bytes
    → marker_at previous (slice_index bytes i) ≡ None
    → next_marker (previous ∷ (drop i bytes ++ rest)) ≡ next_marker (slice_index bytes i ∷ (drop (i + 1) bytes ++ rest))
passed-more bytes rest i previous lt none =
    ap (λ (l : List ℕ). next_marker (previous ∷ (l ++ rest))) (drop_more bytes i 0 lt)
    ∙ passed-one previous (slice_index bytes i) (drop (i + 1) bytes ++ rest) none
