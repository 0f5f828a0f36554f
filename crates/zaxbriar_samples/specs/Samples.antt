-- The samples of a picture, from its bytes.
use Rattle.std.specs.Prelude.{ℕ, zero, suc, ◌+◌, ◌*◌, ◌/◌, List, [], ◌∷◌, ◌++◌, length, max}
use Rattle.std.specs.Prelude.{Bool, if◌then◌else◌, nat_lt, slice_index_or}

-- whether a sample of this precision takes two bytes
abbrev pub is_wide : ℕ → Bool
is_wide precision = nat_lt 8 precision

-- the byte at an index, and the sample of two bytes, the lower first
unfoldable pub byte_at : List ℕ → ℕ → ℕ
byte_at pixels index = slice_index_or pixels index 0

unfoldable pub pair_at : List ℕ → ℕ → ℕ
pair_at pixels index = byte_at pixels (2 * index) + 256 * byte_at pixels (2 * index + 1)

-- the sample of this precision at an index
unfoldable pub sample_in : ℕ → List ℕ → ℕ → ℕ
sample_in precision pixels index =
    if is_wide precision then pair_at pixels index else byte_at pixels index

-- the values of a function at each number below a count
unfoldable pub tabulate : ℕ → (ℕ → ℕ) → List ℕ
tabulate zero f = []
tabulate (suc count) f = tabulate count f ++ f count ∷ []

-- the greatest of the values of a function at each number below a count; 0 where there is none
unfoldable pub greatest_below : ℕ → (ℕ → ℕ) → ℕ
greatest_below zero f = 0
greatest_below (suc count) f = max (greatest_below count f) (f count)

-- the samples of this precision that the bytes of a picture are, and the greatest of them
abbrev pub samples_of : ℕ → List ℕ → List ℕ
samples_of precision pixels = if is_wide precision
    then tabulate (length pixels / 2) (pair_at pixels)
    else tabulate (length pixels) (byte_at pixels)

abbrev pub greatest_sample : ℕ → List ℕ → ℕ
greatest_sample precision pixels = if is_wide precision
    then greatest_below (length pixels / 2) (pair_at pixels)
    else greatest_below (length pixels) (byte_at pixels)
