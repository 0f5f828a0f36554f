-- A reservoir of bits (F.2.2.5, NEXTBIT): the first are the highest of a word of 64 bits, and zeros
-- are after them.
use Rattle.std.specs.Prelude.{◌≡◌, ℕ, ◌-◌, ◌/◌, ◌%◌, ◌^◌, ◌≤◌, ◌<◌, List, Bool}
use Rattle.jpeg_bits.specs.Written.{low_bits}

-- the first count bits of a word
abbrev pub buffered_bits : ℕ → ℕ → List Bool
buffered_bits word count = low_bits count (word / 2 ^ (64 - count))

-- after the first count bits of a word are zeros
abbrev pub HasZerosAfter : ℕ → ℕ → Type 0
HasZerosAfter word count = word % 2 ^ (64 - count) ≡ 0

-- a word and how many bits it holds
abbrev pub IsReservoir : ℕ → ℕ → Type 0
IsReservoir word count = (count ≤ 64) × (word < 2 ^ 64) × HasZerosAfter word count
