-- The values that 11 bits begin with, one or two, and the end of the block after them, which are
-- looked up at once (F.2.2.2).
use Rattle.std.specs.Prelude.{◌≡◌, ℕ, ℤ, pos, ◌+◌, ◌-◌, ◌%◌, ◌<◌, ◌≤◌, ◌==◌, ◌||◌, ◌&&◌, List, ◌++◌}
use Rattle.std.specs.Prelude.{drop, length, replicate, Bool, false, nat_lt, nat_le, if◌then◌else◌}
use Rattle.std.specs.Prelude.{slice_index_or, Option, Some, None}
use Rattle.jpeg_bits.specs.Codes.{Table}
use Rattle.jpeg_bits.specs.ShortCodes.{packed, short_value_of, symbol_in}
use Rattle.jpeg_bits.specs.Written.{low_bits}
use Rattle.jpeg_bits.specs.declared.huffman.pairs.Pair.{Pair}

-- a value, the zeros before it, and the bits of both: 0 where there is no value
abbrev pub ShortValue : Type 0
ShortValue = ℤ × ℕ × ℕ

-- no band has room for this many coefficients
abbrev pub no_pair : Pair
no_pair = record { first = pos 0; second = pos 0; run = 0; next = 0; passed = 64; bits = 0 }

-- A value alone is written twice, at one index.
abbrev pub one_value : ShortValue → Pair
one_value v = record {
  first = v.0;
  second = v.0;
  run = v.1;
  next = v.1;
  passed = v.1 + 1;
  bits = v.2;
}

abbrev pub two_values : ShortValue → ShortValue → Pair
two_values v w = record {
  first = v.0;
  second = w.0;
  run = v.1;
  next = v.1 + 1 + w.1;
  passed = v.1 + w.1 + 2;
  bits = v.2 + w.2;
}

-- a value and the one after it, where 11 bits have both
unfoldable pub pair_by : ShortValue → ShortValue → Pair
pair_by v w =
    if v.2 == 0 then no_pair else (
    if w.2 == 0 || nat_lt 11 (v.2 + w.2) then one_value v else two_values v w)

-- the value that 11 bits begin with
abbrev pub value_in : Table → List Bool → ShortValue
value_in table bits = packed (short_value_of 11 table bits)

-- the values that 11 bits begin with: after the bits of the first come zeros
unfoldable pub pair_of : Table → List Bool → Pair
pair_of table bits =
    let v = value_in table bits in
    pair_by v (value_in table (drop v.2 bits ++ replicate v.2 false))

-- values and the end of the block: there is one coefficient more at least
abbrev pub after_values : Pair → ℕ → Pair
after_values p size = record p { passed = 129 + p.passed; bits = p.bits + size }

-- The end of the block alone, which is told by a number of coefficients that no band has.
abbrev pub end_alone : ℕ → Pair
end_alone size =
    record { first = pos 0; second = pos 0; run = 0; next = 0; passed = 127; bits = size }

-- the end of the block after a pair
unfoldable pub with_end : Pair → ℕ → Pair
with_end p size = if p.bits == 0 then end_alone size else after_values p size

-- where the next code is that of the end, and is within 11 bits
unfoldable pub ended : Pair → Option (ℕ × ℕ) → Pair
ended p None = p
ended p (Some c) = if c.0 == 0 && nat_le c.1 (11 - p.bits) then with_end p c.1 else p

-- The code of the end of a block has this size, comes after the first n of 11 bits, and is within.
pub record EndsAfter (table : Table) (bits : List Bool) (n size : ℕ) : Type 0 where
  pub few : n + size ≤ 11
  pub code : symbol_in table ((drop n bits ++ replicate n false) ++ replicate 5 false)
      ≡ Some (0, size)

-- What an entry for 11 bits stands for.
pub data IsPairOf (table : Table) (bits : List Bool) : Pair → Type 0 where
  Nothing : IsPairOf table bits no_pair
  Values : (pair_of table bits).passed ≤ 64 → IsPairOf table bits (pair_of table bits)
  Ended : (size : ℕ) → (pair_of table bits).passed ≤ 64
      → EndsAfter table bits (pair_of table bits).bits size
      → IsPairOf table bits (after_values (pair_of table bits) size)
  Alone : (size : ℕ) → EndsAfter table bits 0 size → IsPairOf table bits (end_alone size)

-- The values are within the coefficients that are passed, and their bits are few.
pub record IsWithinPassed (pair : Pair) : Type 0 where
  pub first : pair.run < pair.passed % 128
  pub second : pair.next < pair.passed % 128
  pub few : pair.bits ≤ 11

-- what 11 bits begin with, at the index of each, where the table is filled
abbrev pub HoldsPairs : Table → List Pair → Type 0
HoldsPairs table pairs = (b : ℕ) → b < length pairs
    → IsPairOf table (low_bits 11 b) (slice_index_or pairs b no_pair)

-- the zeros and the bits of values are few
abbrev pub AreSmall : List ShortValue → Type 0
AreSmall values = (b : ℕ) → b < length values
    → ((slice_index_or values b (packed None)).1 ≤ 15)
    × ((slice_index_or values b (packed None)).2 ≤ 11)
