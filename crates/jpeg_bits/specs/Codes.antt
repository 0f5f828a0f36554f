-- Huffman codes (T.81, Annex C), and the code that begins some bits.
use Rattle.std.specs.Prelude.{◌≡◌, ℕ, ◌+◌, ◌-◌, ◌^◌, ◌<◌, List, [], ◌∷◌, ◌++◌, length}
use Rattle.std.specs.Prelude.{take, replicate, Bool, true, false, Option, Some, None, Result, Ok}
use Rattle.std.specs.Prelude.{Err, ◌==◌, if◌then◌else◌, sum_by, slice_index, ◌/◌, ◌%◌, ◌&&◌, nat_lt}
use Rattle.std.specs.Prelude.{nat_le, ℤ}
use Rattle.std.specs.List.{find, list_all, range_with_len}
use Rattle.std.specs.Option.{option_map}
use Rattle.jpeg_bits.specs.Reading.{Fault, Malformed, ◌>>=◌}
use Rattle.jpeg_bits.specs.Entropy.{Text, advance, number_of, has_bits}
use Rattle.jpeg_bits.specs.Readers.{Reads, read_on, gives, signed_from}
use Rattle.jpeg_bits.specs.declared.error.Error.{Error}
use Rattle.jpeg_bits.specs.declared.error.Error.TheVariants as errors
use Rattle.jpeg_bits.specs.declared.huffman.codes.HuffmanTableClass.{HuffmanTableClass}
use Rattle.jpeg_bits.specs.declared.huffman.codes.HuffmanTableClass.TheVariants as classes

-- counts give lengths in rising order, from a first length on
unfoldable pub lengths_from : ℕ → List ℕ → List ℕ
lengths_from l [] = []
lengths_from l (c ∷ cs) = replicate c l ++ lengths_from (l + 1) cs

abbrev pub code_lengths : List ℕ → List ℕ
code_lengths counts = lengths_from 1 counts

-- the value of code i: the sum, over the codes j before it, of 2 ^ (length i - length j)
unfoldable pub code_value : List ℕ → ℕ → ℕ
code_value lengths i = sum_by (λ l. 2 ^ (slice_index lengths i - l)) (take i lengths)

-- the codes exist: each value has no more bits than its length
abbrev pub HasCodes : List ℕ → Type 0
HasCodes lengths = (i : ℕ) → i < length lengths → code_value lengths i < 2 ^ slice_index lengths i

-- code i begins the bits
unfoldable pub begins : List ℕ → List Bool → ℕ → Bool
begins lengths bits i = number_of (take (slice_index lengths i) bits) == code_value lengths i

-- the index and the length of the code that begins the bits
unfoldable pub code_in : List ℕ → List Bool → Option (ℕ × ℕ)
code_in lengths bits = option_map (λ i. (i, slice_index lengths i))
    (find (begins lengths bits) (range_with_len 0 (length lengths)))

-- what a table is: its class, its counts and its symbols
pub record Table : Type 0 where
  pub class : HuffmanTableClass
  pub counts : List ℕ
  pub symbols : List ℕ

-- how many codes have each length, and their symbols in the order of the codes
pub record CodeList : Type 0 where
  pub counts : List ℕ
  pub symbols : List ℕ

-- the table of a class that has these codes, or none
abbrev pub table_of : HuffmanTableClass → Option CodeList → Table
table_of class None = record { class = class; counts = replicate 16 0; symbols = [] }
table_of class (Some codes) =
    record { class = class; counts = codes.counts; symbols = codes.symbols }

-- a table of 16 counts whose codes exist
pub record IsTable (table : Table) : Type 0 where
  pub counted : length table.counts ≡ 16
  pub exists : HasCodes (code_lengths table.counts)

-- the next 16 bits, with zeros after them
abbrev pub next_16 : List Bool → List Bool
next_16 bits = take 16 (bits ++ replicate 16 false)

abbrev pub code_by : Table → Text → Option (ℕ × ℕ) → Result ((ℕ × ℕ) × Text) Fault
code_by table t None = Err Malformed
code_by table t (Some c) = has_bits c.1 t.bits t.ending >>= λ _.
    Ok ((c.1, slice_index table.symbols c.0), advance c.1 t)

-- the code that begins the bits: its length and its symbol
unfoldable pub code_from : Table → Reads (ℕ × ℕ)
code_from table t = code_by table t (code_in (code_lengths table.counts) (next_16 t.bits))

-- its symbol alone
unfoldable pub symbol_from : Table → Reads ℕ
symbol_from table t = read_on (λ c. gives c.1) (code_from table t)

abbrev pub is_ac : HuffmanTableClass → Bool
is_ac classes.DC = false
is_ac classes.AC = true

-- the run and the size of a symbol whose code and value take at most 8 bits, in a table of class AC
abbrev pub short_token : Table → ℕ × ℕ → Option (ℕ × ℕ)
short_token table c =
    let symbol = slice_index table.symbols c.0 in
    if is_ac table.class && (nat_lt 0 (symbol % 16) && nat_le (c.1 + symbol % 16) 8)
    then Some (symbol / 16, symbol % 16) else None

-- after the code, where the value has its bits too
abbrev pub after_code : ℕ → Text → Option (ℕ × ℕ) → Result (Option (ℕ × ℕ) × Text) Fault
after_code length t None = Ok (None, t)
after_code length t (Some token) =
    has_bits (length + token.1) t.bits t.ending >>= λ _. Ok (Some token, advance length t)

abbrev pub short_code_by : Table → Text → Option (ℕ × ℕ) → Result (Option (ℕ × ℕ) × Text) Fault
short_code_by table t None = Ok (None, t)
short_code_by table t (Some c) = after_code c.1 t (short_token table c)

unfoldable pub short_code_from : Table → Text → Result (Option (ℕ × ℕ) × Text) Fault
short_code_from table t = short_code_by table t (code_in (code_lengths table.counts)
    (next_16 t.bits))

-- the value and the run of a short token, or none
abbrev pub short_value : Option (ℕ × ℕ) → Reads (Option (ℤ × ℕ))
short_value None t = Ok (None, t)
short_value (Some token) t = read_on (λ v. gives (Some (v, token.0))) (signed_from token.1 t)

unfoldable pub fast_from : Table → Reads (Option (ℤ × ℕ))
fast_from table t = read_on short_value (short_code_from table t)

-- why a table is refused
abbrev pub RefusesCodes : Error → List ℕ → Type 0
RefusesCodes (errors.Format text) lengths = HasCodes lengths → ⊥
RefusesCodes errors.OutOfMemory lengths = Unit {0}
RefusesCodes _ lengths = ⊥

-- whether the codes exist, as a test
unfoldable pub codes_exist : List ℕ → Bool
codes_exist lengths = list_all (λ i. nat_lt (code_value lengths i) (2 ^ slice_index lengths i))
    (range_with_len 0 (length lengths))
