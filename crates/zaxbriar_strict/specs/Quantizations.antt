-- Quantization tables in the words of a writer (T.81, B.2.4.1).
use Rattle.std.specs.Prelude.{◌≡◌, ℕ, ◌++◌, Bool, true, false, List}
use Rattle.jpeg_segments.specs.WrittenSegments.{IsQuantizationTable, QuantizationTable}
use Rattle.jpeg_segments.specs.WrittenSegments.{quantization_bytes}
use Rattle.zaxbriar_strict.specs.declared.quantization.Steps.{Steps}

-- Pq: 1 for steps of 16 bits, and 0 for those of 8
abbrev pub precision_of : Bool → ℕ
precision_of true = 1
precision_of false = 0

-- a table with its destination
abbrev pub table_by : ℕ → Steps → QuantizationTable
table_by destination t =
    record { precision = precision_of t.is_wide; destination = destination; values = t.steps }

-- Bytes that begin with a table, and these others.
pub record TakesSteps (destination : ℕ) (t : Steps) (bytes rest : List ℕ) : Type 0 where
  pub legal : IsQuantizationTable (table_by destination t)
  pub parts : bytes ≡ quantization_bytes (table_by destination t) ++ rest
