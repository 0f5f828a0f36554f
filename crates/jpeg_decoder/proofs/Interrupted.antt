-- Writes after interrupted ones.
use Rattle.std.proofs.Common.{◌≡◌, ◌∙◌, ℕ, List, Option, Result, Ok, Err, take, length, ap, subst, false, arith}
use Rattle.std.proofs.lemmas.Bool.{false≢true}
use Rattle.std.proofs.KnownBytes.{Keeps-refl, Keeps-trans}
use Rattle.std.specs.Prelude.{◌≢◌, ◌==◌}
use Rattle.std.specs.Io.KnownBytes.{Appends, Keeps, WriteAppends}
use Rattle.std.specs.IoError.{error_kind}
use Rattle.std.specs.declared.io.Error.{Error}
use Rattle.std.specs.declared.io.ErrorKind.TheVariants.{Interrupted, WriteZero}
use Rattle.jpeg_bits.specs.declared.error.Error.TheVariants as errors
use Rattle.jpeg_decoder.specs.Writes.{WritesLater, StopsByTurns, write_failed, took_none}

appends-after : (a b c : Option (List ℕ)) (bytes : List ℕ) → Keeps a b → Appends b c bytes → Appends a c bytes
appends-after a b c bytes kept appends = grind (arith, false≢true)

pub written-after : (a b c : Option (List ℕ)) (answer : Result ℕ Error) (bytes : List ℕ) → Keeps a b
    → WriteAppends b c answer bytes → WriteAppends a c answer bytes
written-after a b c (Ok n) bytes kept h = appends-after a b c (take n bytes) kept h
written-after a b c (Err e) bytes kept h = Keeps-trans a b c kept h

-- ---- why not all was written

pub stops-failed : {S : Type 0} (answers : S → List ℕ → Result ℕ Error → S → Type 0) (s t : S) (bytes : List ℕ)
    (e : Error) → WritesLater answers s bytes (Err e) t → error_kind e ≢ Interrupted
    → StopsByTurns answers (errors.Io e)
stops-failed answers s t bytes e h kind = write_failed (h.1, t, (bytes, h.3)) kind

pub stops-none : {S : Type 0} (answers : S → List ℕ → Result ℕ Error → S → Type 0) (s t : S) (bytes : List ℕ) (n : ℕ)
    (e : Error) → WritesLater answers s bytes (Ok n) t → n ≡ 0 → length bytes ≢ 0 → error_kind e ≡ WriteZero
    → StopsByTurns answers (errors.Io e)
stops-none answers s t bytes n e h none some kind =
    took_none (h.1, t, bytes, some, subst (λ (k : ℕ). answers h.1 bytes (Ok k) t) none h.3) kind

-- a test said that something is left
pub some-left : (n : ℕ) → false ≡ (n == 0) → n ≢ 0
some-left n h e = false≢true (h ∙ ap (λ (k : ℕ). k == 0) e)

pub ruleset kept = (written-after, Keeps-refl, Keeps-trans)
