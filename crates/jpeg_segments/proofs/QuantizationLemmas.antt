-- Steps of the loop over quantization tables.
use Rattle.std.proofs.lemmas.Grind.{common_steps}
use Rattle.std.proofs.Common.{◌≡◌, ℕ, ◌-◌, ◌<◌, ◌≤◌, Bool, true, false, List, Ok, Result, Some, arith, length-set}
use Rattle.std.proofs.Common.{refl, set, subst}
use Rattle.std.proofs.lemmas.Result.{err_from_is_err_and}
use Rattle.jpeg_bits.proofs.Loops.{bind_at, bind_err}
use Rattle.std.proofs.lemmas.Bool.Decides.{nat_tests}
use Rattle.jpeg_bits.specs.Reading.{Answers, ◌>>=◌, next_byte, next_u16, times}
use Rattle.jpeg_bits.specs.Stream.{Stream}
use Rattle.jpeg_bits.specs.declared.error.Error.{Error}
use Rattle.jpeg_segments.specs.Quantization.{QuantizationTables, quantization_from, defined_table_at, value_at}

wide-value : (bytes : List ℕ) → next_u16 bytes ≡ value_at true bytes
unfolding value_at
wide-value bytes = refl

byte-value : (bytes : List ℕ) → next_byte bytes ≡ value_at false bytes
unfolding value_at
byte-value bytes = refl

-- values of either width
pub wide-values : (is_wide : Bool) (old new : Stream) (r : Result (List ℕ) Error) → is_wide ≡ true
    → Answers (λ (v : List ℕ). v) (times 64 next_u16) old r new
    → Answers (λ (v : List ℕ). v) (times 64 (value_at is_wide)) old r new
wide-values true old new r e h =
    subst (λ read. Answers (λ (v : List ℕ). v) (times 64 read) old r new) (λ i bytes. wide-value bytes i) h
wide-values false old new r e h = absurd (let n : ⊥ = cc in n)

pub byte-values : (is_wide : Bool) (old new : Stream) (r : Result (List ℕ) Error) → is_wide ≡ false
    → Answers (λ (v : List ℕ). v) (times 64 next_byte) old r new
    → Answers (λ (v : List ℕ). v) (times 64 (value_at is_wide)) old r new
byte-values false old new r e h =
    subst (λ read. Answers (λ (v : List ℕ). v) (times 64 read) old r new) (λ i bytes. byte-value bytes i) h
byte-values true old new r e h = absurd (let n : ⊥ = cc in n)

pub tables_from-more : (most left : ℕ) (tables : QuantizationTables) (bytes : List ℕ) → 0 < left →
    left ≤ most
    → quantization_from most left tables bytes ≡ (defined_table_at left bytes
    >>= λ (t : (ℕ × ℕ × List ℕ) × List ℕ). quantization_from (most - 1) (left - t.0.0) (set tables
    t.0.1 (Some t.0.2)) t.1)
unfolding quantization_from
tables_from-more most left tables bytes h1 h2 = grind (arith, nat_tests)

pub tables_from-none : (most : ℕ) (tables : QuantizationTables) (bytes : List ℕ) →
    quantization_from most 0 tables bytes ≡ Ok (
      tables,
      bytes,
    )
unfolding quantization_from
tables_from-none most tables bytes = grind (arith, common_steps, nat_tests)

pub ruleset table_steps = (tables_from-more, length-set, bind_at, bind_err, err_from_is_err_and, common_steps)

pub ruleset value_widths = (wide-values, byte-values)
