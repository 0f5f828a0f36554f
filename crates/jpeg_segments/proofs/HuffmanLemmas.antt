-- Steps of the parser of Huffman tables.
use Rattle.std.proofs.Common.{◌≡◌, ℕ, ◌-◌, ◌<◌, ◌≤◌, List, Option, Some, Result, Ok, Err, ap, arith}
use Rattle.std.proofs.Common.{eqb, refl, true}
use Rattle.std.proofs.lemmas.List.Recursion.{and_set}
use Rattle.std.proofs.lemmas.Result.{err_from_is_err_and}
use Rattle.std.proofs.lemmas.Bool.Decides.{nat_tests}
use Rattle.std.specs.Prelude.{if◌then◌else◌, slice_set, sum, IfOk, IfErr}
use Rattle.jpeg_bits.specs.Stream.{Stream}
use Rattle.jpeg_bits.specs.Reading.{Fault, Malformed, Answers, Names, NamesFormat, ◌>>=◌, times, next_byte}
use Rattle.jpeg_bits.specs.Codes.{Table, HasCodes, RefusesCodes, codes_exist, code_lengths, is_ac}
use Rattle.jpeg_bits.specs.declared.huffman.codes.HuffmanTableClass.{HuffmanTableClass}
use Rattle.jpeg_bits.specs.declared.huffman.codes.HuffmanTableClass.TheVariants.{AC}
use Rattle.jpeg_bits.specs.declared.error.Error.{Error}
use Rattle.jpeg_bits.proofs.Loops.{bind_at, bind_err, still_known}
use Rattle.jpeg_bits.proofs.Tables.{exist-tested, tested-exist}
use Rattle.jpeg_segments.specs.HuffmanTables.{Tables, all_ac, is_ac_or_none, tables_from}
use Rattle.jpeg_segments.specs.Parts.{symbols_at, table_in_destination_at}
use Rattle.jpeg_segments.proofs.PartsOfSegments.{table_in_destination_of_parts}
use Rattle.std.proofs.lemmas.Grind.{common_steps}
use Rattle.jpeg_bits.proofs.BufferedBits.{may_fail_format}

-- a refusal of codes is one of a broken rule
pub refused-names : {Y : Type 0} (e : Error) (lengths : List ℕ) (found : Result Y Fault) → RefusesCodes e lengths
    → NamesFormat e × Names e (if codes_exist lengths then found else Err Malformed)
refused-names {Y} e lengths found h = grind (arith, common_steps, tested-exist)

-- the symbols are read, and then the table is made of them
pub table-found : (class : HuffmanTableClass) (counts : List ℕ) (old mid : Stream) (symbols : List ℕ)
    (r : Result Table Error)
    → Answers (λ (v : List ℕ). v) (times (sum counts) next_byte) old (Ok symbols) mid
    → IfOk r (λ t. t ≡ record { class = class; counts = counts; symbols = symbols })
    → IfOk r (λ t. HasCodes (code_lengths counts)) → IfErr r (λ e. RefusesCodes e (code_lengths counts))
    → Answers (λ (t : Table). t) (symbols_at class counts) old r mid
unfolding symbols_at
table-found class counts old mid symbols r h1 h2 h3 h4 =
    grind (arith, nat_tests, exist-tested, refused-names, may_fail_format, still_known)

pub tables_from-more : (most greatest left : ℕ) (tables : Tables) (bytes : List ℕ) → 17 < left → left ≤ most
    → tables_from most greatest left tables bytes ≡ (table_in_destination_at greatest left tables bytes
    >>= λ (t : (ℕ × Tables) × List ℕ). tables_from (most - 1) greatest (left - t.0.0) t.0.1 t.1)
unfolding tables_from
tables_from-more most greatest left tables bytes h1 h2 = grind (arith, nat_tests, table_in_destination_of_parts)

pub tables_from-rest : (most greatest left : ℕ) (tables : Tables) (bytes : List ℕ) → left ≤ 17
    → tables_from most greatest left tables bytes ≡ (if eqb left 0 then Ok (tables, bytes) else Err Malformed)
unfolding tables_from
tables_from-rest most greatest left tables bytes h1 = grind (arith, nat_tests)

-- a table of class AC among such tables
pub all_ac_set : (tables : List (Option Table)) (destination : ℕ) (t : Table) → t.class ≡ AC → all_ac tables ≡ true
    → all_ac (slice_set tables destination (Some t)) ≡ true
all_ac_set tables destination t is = and_set (λ (xs : List (Option Table)). all_ac xs) is_ac_or_none refl (λ x xs. refl)
    tables destination (Some t) (ap is_ac is)

-- for the function that reads the tables of a segment
pub ruleset huffman_steps = (err_from_is_err_and, common_steps, bind_at, bind_err, tables_from-more, tables_from-rest)
