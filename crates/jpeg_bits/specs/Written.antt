-- The bits that a writer emits for a number and for a symbol (T.81, C.2 and F.1.2), and the bytes
-- that it makes of bits (B.1.1.5).
use Rattle.std.specs.Prelude.{◌≡◌, ℕ, zero, suc, ◌+◌, ◌-◌, ◌/◌, ◌%◌, ◌^◌, ◌<◌, ◌≤◌, ◌==◌, Bool}
use Rattle.std.specs.Prelude.{true, false, List, [], ◌∷◌, ◌++◌, replicate, length, slice_index, ℤ}
use Rattle.std.specs.Prelude.{pos, negsuc, unsigned_abs, Some}
use Rattle.jpeg_bits.specs.Codes.{Table, code_lengths, code_value}
use Rattle.jpeg_bits.specs.Entropy.{bits_of}
use Rattle.jpeg_bits.specs.Marker.{marker_of}
use Rattle.jpeg_bits.specs.declared.marker.Marker.{Marker}

-- the bit of 0 or 1
abbrev pub bit : ℕ → Bool
bit b = b == 1

-- the n low bits of v, the highest first
unfoldable pub low_bits : ℕ → ℕ → List Bool
low_bits zero v = []
low_bits (suc n) v = bit (v / 2 ^ n % 2) ∷ low_bits n v

-- the length of code i
abbrev pub code_size : Table → ℕ → ℕ
code_size table i = slice_index (code_lengths table.counts) i

-- the bits of code i
abbrev pub code_bits : Table → ℕ → List Bool
code_bits table i = low_bits (code_size table i) (code_value (code_lengths table.counts) i)

-- These are the bits of a code for the symbol, by a Huffman table (Annex C).
pub record IsCoded (table : Table) (symbol : ℕ) (bits : List Bool) : Type 0 where
  pub index : ℕ
  pub listed : index < length (code_lengths table.counts)
  pub is_for : slice_index table.symbols index ≡ symbol
  pub has_bits : code_bits table index ≡ bits

-- The category SSSS of a value: the least s with |d| < 2 ^ s (F.1.2.1.2).
pub record IsCategory (d : ℤ) (s : ℕ) : Type 0 where
  pub holds : unsigned_abs d < 2 ^ s
  pub is_least : (t : ℕ) → unsigned_abs d < 2 ^ t → s ≤ t

-- The number whose s bits follow the category: d itself, or 2 ^ s - 1 + d where d is not positive.
unfoldable pub number_for : ℤ → ℕ → ℕ
number_for (pos zero) s = 2 ^ s - 1
number_for (pos (suc n)) s = suc n
number_for (negsuc n) s = 2 ^ s - 1 - suc n

-- ---- bytes (B.1.1.5)

-- 00 follows each FF.
unfoldable pub stuffed : List ℕ → List ℕ
stuffed [] = []
stuffed (b ∷ bytes) =
    elim (b == 0xFF) [ true ↦ 0xFF ∷ 0 ∷ stuffed bytes | false ↦ b ∷ stuffed bytes ]

-- A marker after any number of fill bytes FF, by its second byte, and then more (B.1.1.2).
abbrev pub marker : ℕ → ℕ → List ℕ → List ℕ
marker fill code rest = 0xFF ∷ (replicate fill 0xFF ++ code ∷ rest)

-- FF and this byte make the marker
pub record IsMarker (code : ℕ) (m : Marker) : Type 0 where
  pub is : marker_of code ≡ Some m

unfoldable pub bits_of_bytes : List ℕ → List Bool
bits_of_bytes [] = []
bits_of_bytes (b ∷ bytes) = bits_of b ++ bits_of_bytes bytes

-- the bits of some things, one after the other
pub data WritesEach {A : Type 0} (writes : A → List Bool → Type 0)
    : List A → List Bool → Type 0 where
  none : WritesEach writes [] []
  one : (x : A) (xs : List A) (bits more : List Bool)
      → writes x bits → WritesEach writes xs more → WritesEach writes (x ∷ xs) (bits ++ more)

-- ---- intervals (E.1.4)

-- The bytes of a restart interval: its bits, and at most 7 more of any value, up to a whole byte.
pub record WritesInterval (writes : List Bool → Type 0) (bytes : List ℕ) : Type 0 where
  pub bits : List Bool
  pub filling : List Bool
  pub data_bytes : List ℕ
  pub coded : writes bits
  pub is_short : length filling ≤ 7
  pub whole : bits_of_bytes data_bytes ≡ bits ++ filling
  pub has_bytes : stuffed data_bytes ≡ bytes

-- The bytes of one interval and more, from number k on: after interval k, and before the next,
-- stands the marker RSTm with m = k mod 8.
pub data WritesIntervals {A : Type 0} (writes : A → List Bool → Type 0)
    : ℕ → A → List A → List ℕ → Type 0 where
  last : (k : ℕ) (one : A) (bytes : List ℕ)
      → WritesInterval (writes one) bytes → WritesIntervals writes k one [] bytes
  another : (k fill : ℕ) (one next : A) (more : List A) (bytes others : List ℕ)
      → WritesInterval (writes one) bytes → WritesIntervals writes (suc k) next more others
      → WritesIntervals writes k one (next ∷ more) (bytes ++ marker fill (0xD0 + k % 8) others)
