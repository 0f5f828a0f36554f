-- Calls that are repeated while they are interrupted.
use Rattle.std.specs.Prelude.{◌≡◌, ◌≢◌, ℕ, ◌+◌, ◌-◌, ◌^◌, List, Option, Result, Err}
use Rattle.std.specs.Io.{ReadsAtMost}
use Rattle.std.specs.Io.KnownBytes.{ReadConsumes}
use Rattle.std.specs.IoError.{error_kind}
use Rattle.std.specs.declared.io.Error.{Error as IoError}
use Rattle.std.specs.declared.io.ErrorKind.TheVariants.{Interrupted}
use Rattle.jpeg_bits.specs.declared.error.Error.{Error}
use Rattle.jpeg_bits.specs.declared.error.Error.TheVariants as errors

-- n calls in a row, from one state to another: the answer of each is an error of the kind
-- `Interrupted`. `fails` says of two states and an error that a call answered so.
pub data Interruptions {S : Type 0} (fails : S → IoError → S → Type 0) : ℕ → S → S → Type 0 where
  no_call : {s : S} → Interruptions fails 0 s s
  one_more : {n : ℕ} {s m t : S} {e : IoError} → Interruptions fails n s m → fails m e t
      → error_kind e ≡ Interrupted → Interruptions fails (n + 1) s t

-- a read into a buffer answered by an error
abbrev pub read_fails : {S : Type 0} → (S → Result ℕ IoError → List ℕ → S → Type 0) → S → IoError
    → S → Type 0
read_fails answers s e t = (buffer : List ℕ) × answers s (Err e) buffer t

-- some call answered by this error
abbrev pub IsAnswered : {S : Type 0} → (S → IoError → S → Type 0) → IoError → Type 0
IsAnswered {S} fails e = (s : S) × (t : S) × fails s e t

-- 2 ^ 64 - 1 calls in a row were interrupted
abbrev pub AllInterrupted : {S : Type 0} → (S → IoError → S → Type 0) → Type 0
AllInterrupted {S} fails = (s : S) × (t : S) × Interruptions fails (2 ^ 64 - 1) s t

-- Why there is no answer: an error that a call answered, and that is no interruption, or else all
-- of the calls were interrupted.
abbrev pub IsByTurns : {S : Type 0} → (S → IoError → S → Type 0) → Error → Type 0
IsByTurns fails (errors.Io e) = IsAnswered fails e × (error_kind e ≢ Interrupted)
IsByTurns fails (errors.Format text) = AllInterrupted fails
IsByTurns fails _ = ⊥

-- a read into a buffer answered, after reads that were interrupted
abbrev pub AnswersLater : {S : Type 0} → (S → Result ℕ IoError → List ℕ → S → Type 0) → S
    → Result ℕ IoError → List ℕ → S → Type 0
AnswersLater {S} answers old answer buffer new =
    (n : ℕ) × (m : S) × Interruptions (read_fails answers) n old m × answers m answer buffer new

-- what std's trait says of one read
abbrev pub read_answers : {S : Type 0} → (S → Option (List ℕ)) → S → Result ℕ IoError → List ℕ → S
    → Type 0
read_answers remaining old answer buffer new =
    ReadsAtMost answer buffer × ReadConsumes (remaining old) (remaining new) answer buffer
