-- The rows of MCUs of an interval as far as they can be read (T.81, H.2).
use Rattle.std.specs.Prelude.{ℕ, Bool, List, [], ◌∷◌, Result, Ok, Err}
use Rattle.jpeg_bits.specs.Codes.{Table}
use Rattle.jpeg_bits.specs.Entropy.{Text}
use Rattle.jpeg_bits.specs.Reading.{Fault}
use Rattle.jpeg_lossless.specs.Differences.{differences}

-- The differences of rows of MCUs, each by its tables, up to the first row that can't be read
-- whole; and the bits after the last row, or the fault.
unfoldable pub rows_reached : List (List Table) → Text → List (List ℕ) × Result (List Bool) Fault
rows_reached [] t = ([], Ok t.bits)
rows_reached (tables ∷ rows) t = elim (differences tables t) [
  | Ok r ↦ let more = rows_reached rows r.1 in (r.0 ∷ more.0, more.1)
  | Err fault ↦ ([], Err fault)
]
