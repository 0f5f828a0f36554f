-- The next marker in plain words (T.81, B.1.1.2): the first byte 255 with a byte after it that
-- makes a marker.
use Rattle.std.specs.Prelude.{◌≡◌, ℕ, ◌+◌, ◌<◌, List, length, drop, slice_index, Some, None}
use Rattle.jpeg_bits.specs.Marker.{marker_of}
use Rattle.jpeg_bits.specs.declared.marker.Marker.{Marker}

-- no marker begins at byte j
abbrev pub IsNoMarker : List ℕ → ℕ → Type 0
IsNoMarker bytes j = slice_index bytes j ≡ 255 → marker_of (slice_index bytes (j + 1)) ≡ None

-- byte i is 255, the byte after it makes m, the others stand after both, and no marker begins
-- before it
pub record IsNextMarker (bytes : List ℕ) (i : ℕ) (m : Marker) (others : List ℕ) : Type 0 where
  pub within : i + 1 < length bytes
  pub first : slice_index bytes i ≡ 255
  pub second : marker_of (slice_index bytes (i + 1)) ≡ Some m
  pub after : others ≡ drop (i + 2) bytes
  pub least : (j : ℕ) → j < i → IsNoMarker bytes j

-- no marker begins in the bytes
abbrev pub HasNoMarker : List ℕ → Type 0
HasNoMarker bytes = (j : ℕ) → j + 1 < length bytes → IsNoMarker bytes j
