-- Writes that are repeated while they are interrupted.
use Rattle.std.specs.Prelude.{◌≡◌, ◌≢◌, ℕ, List, length, Result, Ok, Err}
use Rattle.std.specs.IoError.{error_kind}
use Rattle.std.specs.declared.io.Error.{Error as IoError}
use Rattle.std.specs.declared.io.ErrorKind.TheVariants.{Interrupted, WriteZero}
use Rattle.jpeg_bits.specs.declared.error.Error.{Error}
use Rattle.jpeg_bits.specs.declared.error.Error.TheVariants as errors
use Rattle.jpeg_bits.specs.Reading.{NamesFormat}
use Rattle.jpeg_bits.specs.Turns.{Interruptions, IsAnswered, AllInterrupted}

-- a write of some bytes answered by an error
abbrev pub write_fails : {S : Type 0} → (S → List ℕ → Result ℕ IoError → S → Type 0) → S → IoError
    → S → Type 0
write_fails answers s e t = (bytes : List ℕ) × answers s bytes (Err e) t

-- a write of these bytes answered, after writes that were interrupted
abbrev pub WritesLater : {S : Type 0} → (S → List ℕ → Result ℕ IoError → S → Type 0) → S → List ℕ
    → Result ℕ IoError → S → Type 0
WritesLater {S} answers old bytes answer new =
    (n : ℕ) × (m : S) × Interruptions (write_fails answers) n old m × answers m bytes answer new

-- some write took none of its bytes, of which there were some
abbrev pub TookNone : {S : Type 0} → (S → List ℕ → Result ℕ IoError → S → Type 0) → Type 0
TookNone {S} answers =
    (s : S) × (t : S) × (bytes : List ℕ) × (length bytes ≢ 0) × answers s bytes (Ok 0) t

-- Why not all was written: an error that a write answered, and that is no interruption; a write
-- that took no bytes; or 2 ^ 64 - 1 writes in a row that were interrupted.
pub data StopsByTurns {S : Type 0} (answers : S → List ℕ → Result ℕ IoError → S → Type 0)
    : Error → Type 0 where
  write_failed : {e : IoError} → IsAnswered (write_fails answers) e → error_kind e ≢ Interrupted
      → StopsByTurns answers (errors.Io e)
  took_none : {e : IoError} → TookNone answers → error_kind e ≡ WriteZero
      → StopsByTurns answers (errors.Io e)
  all_interrupted : {e : Error} → AllInterrupted (write_fails answers) → NamesFormat e
      → StopsByTurns answers e
