-- Huffman tables (T.81, B.2.4.2).
use Rattle.std.specs.Prelude.{ℕ, zero, suc, ◌+◌, ◌-◌, ◌/◌, ◌%◌, List, Bool, true, Option, Some}
use Rattle.std.specs.Prelude.{None, Ok, Err, nat_le, nat_lt, ◌==◌, ◌&&◌, if◌then◌else◌}
use Rattle.std.specs.Prelude.{replicate, slice_set, sum}
use Rattle.std.specs.List.{list_all}
use Rattle.jpeg_bits.specs.Reading.{Outcome, Malformed, ◌>>=◌, next_byte, length_at, times}
use Rattle.jpeg_bits.specs.Codes.{Table, code_lengths, codes_exist, is_ac}
use Rattle.jpeg_bits.specs.declared.huffman.codes.HuffmanTableClass.{HuffmanTableClass}
use Rattle.jpeg_bits.specs.declared.huffman.codes.HuffmanTableClass.TheVariants as classes
use Rattle.jpeg_segments.specs.Checks.{check}

-- the tables of each class, by their destinations
pub record Tables : Type 0 where
  pub dc : List (Option Table)
  pub ac : List (Option Table)

abbrev pub no_tables : Tables
no_tables = record { dc = replicate 4 None; ac = replicate 4 None }

-- the greatest destination of a table: 1 after the header of a baseline frame
abbrev pub greatest_destination : Option Bool → ℕ
greatest_destination None = 3
greatest_destination (Some is_baseline) = if is_baseline then 1 else 3

abbrev pub class_of : ℕ → HuffmanTableClass
class_of number = if number == 0 then classes.DC else classes.AC

-- a table and its destination
pub record DefinedTable : Type 0 where
  pub destination : ℕ
  pub table : Table

-- its number of bytes
abbrev pub size_of : DefinedTable → ℕ
size_of t = 17 + sum t.table.counts

-- The next table, where `left` bytes of the segment are left: its class and destination, its counts
-- and its values, of which there are 1 to 256 and no more than are left. Its codes exist.
unfoldable pub defined_codes_at : ℕ → ℕ → List ℕ → Outcome DefinedTable
defined_codes_at greatest left bytes = do
  b ← next_byte bytes
  _ ← check (nat_le (b.0 / 16) 1 && nat_le (b.0 % 16) greatest)
  c ← times 16 next_byte b.1
  let n = sum c.0 in do
    _ ← check (nat_lt 0 n && (nat_le n 256 && nat_le (17 + n) left))
    s ← times n next_byte c.1
    _ ← check (codes_exist (code_lengths c.0))
    let table : Table = record { class = class_of (b.0 / 16); counts = c.0; symbols = s.0 } in
        Ok (record { destination = b.0 % 16; table = table }, s.1)

-- the tables with one more
abbrev pub with_table : Tables → DefinedTable → Tables
with_table tables t =
    if is_ac t.table.class
    then record tables { ac = slice_set tables.ac t.destination (Some t.table) }
    else record tables { dc = slice_set tables.dc t.destination (Some t.table) }

-- At most `most` tables, while more than 17 bytes of the segment are left. Then none may be left.
unfoldable pub tables_from : ℕ → ℕ → ℕ → Tables → List ℕ → Outcome Tables
tables_from zero greatest left tables bytes =
    if left == 0 then Ok (tables, bytes) else Err Malformed
tables_from (suc most) greatest left tables bytes =
    if nat_lt 17 left
    then defined_codes_at greatest left bytes
    >>= (λ t. tables_from most greatest (left - size_of t.0) (with_table tables t.0) t.1)
    else (if left == 0 then Ok (tables, bytes) else Err Malformed)

unfoldable pub dht_at : Option Bool → List ℕ → Outcome Tables
dht_at is_baseline bytes = do
  left ← length_at bytes
  tables_from left.0 (greatest_destination is_baseline) left.0 no_tables left.1

-- each table is of class AC
abbrev pub is_ac_or_none : Option Table → Bool
is_ac_or_none None = true
is_ac_or_none (Some t) = is_ac t.class

abbrev pub all_ac : List (Option Table) → Bool
all_ac tables = list_all is_ac_or_none tables
