-- What is read of a segment, by the parts that the functions of the code read.
use Rattle.std.proofs.Common.{◌≡◌, ℕ, ◌/◌, ◌%◌, [], List, Bool, not, Ok, Err, refl, arith}
use Rattle.std.proofs.lemmas.Bool.Decides.{nat_tests}
use Rattle.std.proofs.lemmas.Grind.{common_steps}
use Rattle.std.proofs.lemmas.Result.{err_from_is_err_and}
use Rattle.std.specs.List.{list_all, list_any}
use Rattle.std.specs.Prelude.{◌==◌, ◌∷◌, nat_lt, if◌then◌else◌}
use Rattle.jpeg_bits.specs.Reading.{Malformed, ◌>>=◌, next_byte}
use Rattle.jpeg_segments.specs.Checks.{needed}
use Rattle.jpeg_segments.specs.Frame.{Factors, Frame, components_from, factors_at, frame_of, is_lossless_number}
use Rattle.jpeg_segments.specs.Frame.{is_taken, sof_at}
use Rattle.jpeg_segments.specs.HuffmanTables.{Tables, defined_codes_at, size_of, with_table}
use Rattle.jpeg_segments.specs.Parts.{destinations_at, head_at, parameters_at, symbols_at, table_at}
use Rattle.jpeg_segments.specs.Parts.{table_destination_at, table_in_destination_at}
use Rattle.jpeg_segments.specs.Quantization.{defined_table_at, table_size}
use Rattle.jpeg_segments.specs.ScanHeader.{index_of, selector_at}

pub factors_of_parts : (lossless : Bool) (front : List Factors) (bytes : List ℕ)
    → factors_at lossless front bytes ≡ (do
      i ← next_byte bytes
      if is_taken front i.0 then Err Malformed else parameters_at lossless i.0 i.1)
unfolding factors_at parameters_at
factors_of_parts lossless front bytes = grind (arith, nat_tests)

pub sof_of_parts : (number : ℕ) (bytes : List ℕ) → sof_at number bytes ≡ (do
  h ← head_at number bytes
  c ← components_from (is_lossless_number number) h.0.count [] h.1
  Ok (frame_of number h.0.precision h.0.width h.0.height c.0, c.1))
unfolding sof_at head_at
sof_of_parts number bytes = grind (arith, nat_tests)

pub table_in_destination_of_parts : (greatest left : ℕ) (tables : Tables) (bytes : List ℕ)
    → table_in_destination_at greatest left tables bytes ≡ (do
      t ← defined_codes_at greatest left bytes
      Ok ((size_of t.0, with_table tables t.0), t.1))
unfolding defined_codes_at table_in_destination_at table_destination_at symbols_at
table_in_destination_of_parts greatest left tables bytes = grind (arith, nat_tests)

none-zero : (vs : List ℕ) → list_all (λ v. nat_lt 0 v) vs ≡ not (list_any (λ v. v == 0) vs)
none-zero [] = refl
none-zero (v ∷ vs) = grind (arith, nat_tests, none-zero vs)

pub table_of_parts : (left : ℕ) (bytes : List ℕ) → defined_table_at left bytes ≡ (do
  b ← next_byte bytes
  if nat_lt 1 (b.0 / 16) then Err Malformed else (
      if nat_lt 3 (b.0 % 16) then Err Malformed else (
      if nat_lt left (table_size (b.0 / 16)) then Err Malformed else (do
        t ← table_at (b.0 / 16 == 1) b.1
        Ok ((table_size (b.0 / 16), b.0 % 16, t.0), t.1)))))
unfolding defined_table_at table_at
table_of_parts left bytes = grind (arith, nat_tests, none-zero)

pub selector_of_parts : (frame : Frame) (least : ℕ) (bytes : List ℕ)
    → selector_at frame least bytes ≡ (do
      i ← next_byte bytes
      index ← needed (index_of frame.components i.0)
      if nat_lt index least then Err Malformed else destinations_at frame index i.1)
unfolding selector_at destinations_at
selector_of_parts frame least bytes = grind (arith, nat_tests)

-- for the functions that read by parts
pub ruleset parts = (
  err_from_is_err_and,
  common_steps,
  factors_of_parts,
  sof_of_parts,
  table_of_parts,
  selector_of_parts,
)
