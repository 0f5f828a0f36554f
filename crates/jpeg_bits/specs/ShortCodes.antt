-- Codes and values that some bits begin with (F.2.2.3, with the look-up that it allows).
use Rattle.std.specs.Prelude.{◌≡◌, ℕ, ℤ, pos, ◌+◌, ◌-◌, ◌*◌, ◌/◌, ◌%◌, ◌^◌, ◌<◌, ◌≤◌, ◌==◌, List}
use Rattle.std.specs.Prelude.{take, drop, length, replicate, Bool, false, Option, Some, None}
use Rattle.std.specs.Prelude.{if◌then◌else◌, slice_index, slice_index_or, sum, fold, ◌&&◌, nat_lt}
use Rattle.std.specs.Prelude.{nat_le, ◌++◌, ◌⊎◌, []}
use Rattle.std.specs.Option.{option_map}
use Rattle.jpeg_bits.specs.Entropy.{number_of, extended}
use Rattle.jpeg_bits.specs.Written.{low_bits}
use Rattle.jpeg_bits.specs.Codes.{Table, code_in, code_lengths, is_ac}
use Rattle.jpeg_bits.specs.declared.huffman.codes.HuffmanTableClass.{HuffmanTableClass}
use Rattle.jpeg_bits.specs.declared.huffman.codes.Row.{Row}

-- the symbol and the length of a code
abbrev pub named : List ℕ → Option (ℕ × ℕ) → Option (ℕ × ℕ)
named symbols o = option_map (λ c. (slice_index symbols c.0, c.1)) o

-- the symbol and the length of the code that begins the bits
abbrev pub symbol_in : Table → List Bool → Option (ℕ × ℕ)
symbol_in table bits = named table.symbols (code_in (code_lengths table.counts) bits)

-- a code of at most 8 bits
abbrev pub short_only : Option (ℕ × ℕ) → Option (ℕ × ℕ)
short_only None = None
short_only (Some c) = if nat_le c.1 8 then Some c else None

-- the symbol and the length of the code of at most 8 bits that begins 8 bits
abbrev pub short_code : List ℕ → List ℕ → List Bool → Option (ℕ × ℕ)
short_code counts symbols eight =
    named symbols (short_only (code_in (code_lengths counts) (eight ++ replicate 8 false)))

-- The value and the run of a symbol whose code of this many bits begins the bits, and the bits of
-- both, where they are at most n, in a table of class AC.
abbrev pub short_value_by : ℕ → HuffmanTableClass → List Bool → Option (ℕ × ℕ) → Option (ℤ × ℕ × ℕ)
short_value_by n class bits None = None
short_value_by n class bits (Some c) =
    if is_ac class && (nat_lt 0 (c.0 % 16) && nat_le (c.1 + c.0 % 16) n)
    then Some (
      extended (number_of (take (c.0 % 16) (drop c.1 bits))) (c.0 % 16),
      c.0 / 16,
      c.1 + c.0 % 16,
    )
    else None

-- what n bits begin with, of at most 16
abbrev pub short_value_of : ℕ → Table → List Bool → Option (ℤ × ℕ × ℕ)
short_value_of n table bits = short_value_by n table.class bits
    (symbol_in table (bits ++ replicate (16 - n) false))

-- the next n bits, with zeros after them
abbrev pub next_bits : ℕ → List Bool → List Bool
next_bits n bits = take n (bits ++ replicate n false)

-- a code that is packed into a number: 256 times its length and its symbol, and 0 where there is
-- none
unfoldable pub unpacked_code : ℕ → Option (ℕ × ℕ)
unpacked_code n = if n == 0 then None else Some (n % 256, n / 256)

-- at the index of each 8 bits stands the code that begins them
abbrev pub HoldsCodes : List ℕ → List ℕ → List ℕ → Type 0
HoldsCodes counts symbols codes =
    (b : ℕ) → b < 256
    → unpacked_code (slice_index_or codes b 0) ≡ short_code counts symbols (low_bits 8 b)

-- the value that each 8 bits begin with, at their index
abbrev pub HasValues : Table → List (Option (ℤ × ℕ × ℕ)) → Type 0
HasValues table values =
    (length values ≡ 256)
    × ((b : ℕ) → b < 256 → slice_index_or values b None ≡ short_value_of 8 table (low_bits 8 b))

-- all of these values, or none where the table isn't filled
abbrev pub HoldsValues : Table → List (Option (ℤ × ℕ × ℕ)) → Type 0
HoldsValues table values = (values ≡ []) ⊎ HasValues table values

-- a value, and no bits where there is none
abbrev pub packed : Option (ℤ × ℕ × ℕ) → ℤ × ℕ × ℕ
packed None = (pos 0, 0, 0)
packed (Some value) = value

-- the values that 11 bits begin with, at the index of each, where the table is filled
abbrev pub HoldsWideValues : Table → List (ℤ × ℕ × ℕ) → Type 0
HoldsWideValues table values = (b : ℕ) → b < length values
    → slice_index_or values b (packed None) ≡ packed (short_value_of 11 table (low_bits 11 b))

-- the value after the codes of at most i bits, as a number of i bits
abbrev pub value_after : List ℕ → ℕ → ℕ
value_after counts i = fold (λ v c. 2 * v + c) 0 (take i counts)

-- no codes
abbrev pub no_row : Row
no_row = record { end = 0; first = 0; index = 0 }

-- the codes of i + 1 bits
abbrev pub row_at : List ℕ → ℕ → Row
row_at counts i =
    record {
      end = value_after counts (i + 1);
      first = 2 * value_after counts i;
      index = sum (take i counts);
    }

-- each row stands at its index
abbrev pub HoldsRows : List ℕ → List Row → Type 0
HoldsRows counts rows = (i : ℕ) → i < 16 → slice_index_or rows i no_row ≡ row_at counts i

-- no code of these rows begins 16 bits: they are at or after the ends of all
abbrev pub ArePassed : List Row → ℕ → ℕ → Type 0
ArePassed rows n bits = (i : ℕ) → i < n → (slice_index_or rows i no_row).end ≤ bits / 2 ^ (15 - i)

-- These numbers, from the first to before the end, differ in their last k bits alone.
abbrev pub IsRun : ℕ → ℕ → ℕ → Type 0
IsRun k first end = (b : ℕ) → first ≤ b → b < end → b / 2 ^ k ≡ first / 2 ^ k

-- how many of n bits are after the code of at most n bits that begins them
abbrev pub rest_of_code : ℕ → Option (ℕ × ℕ) → ℕ
rest_of_code n None = 0
rest_of_code n (Some c) = n - c.1

-- how many of n bits are after the value that they begin with, or after its code where it has more
abbrev pub rest_of_value : ℕ → Option (ℕ × ℕ) → ℕ
rest_of_value n None = 0
rest_of_value n (Some c) =
    if nat_le (c.1 + c.0 % 16) n then n - (c.1 + c.0 % 16) else n - c.1
