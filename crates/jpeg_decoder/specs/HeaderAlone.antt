-- A call that has read a header and nothing of the scans after it.
use Rattle.std.specs.Prelude.{◌≡◌, Result, Ok, Err, true, IsErrAnd, None}
use Rattle.jpeg_bits.specs.Reading.{Answers}
use Rattle.jpeg_bits.specs.declared.error.Error.{Error}
use Rattle.jpeg_meaning.specs.Reported.{IsOfTurns}
use Rattle.jpeg_meaning.specs.declared.progress.Progress.TheVariants.{Fresh}
use Rattle.jpeg_meaning.specs.States.{Decoding, IsInternal, MovesToHeader, OnTold}
use Rattle.jpeg_meaning.specs.States.{told_ahead, turns_ahead}
use Rattle.jpeg_meaning.specs.Stream.{header_at, told_of}

-- what a call says whose header was read, or was refused
abbrev pub RefusesAfter : {X : Type 0} → Result (Unit {0}) Error → Result X Error → Type 0
RefusesAfter (Ok u) result = IsErrAnd result IsInternal
RefusesAfter (Err e) result = result ≡ Err e

-- A call did as `read_info` does, whose clauses these are, and then refused: by the fault of the
-- header, or else as `Internal`.
pub record ReadsHeaderAlone {X : Type 0} (old : Decoding) (result : Result X Error)
    (new : Decoding) : Type 0 where
  pub header : Result (Unit {0}) Error
  pub refuses : RefusesAfter header result
  pub stage : MovesToHeader old.stage new.stage header
  pub reads : old.stage ≡ Fresh → Answers (λ u. new.found) header_at old.source header new.source
  pub told : old.stage ≡ Fresh → OnTold old.source new.source header
      (told_of new.found.said ≡ told_ahead None true old.stage old.found old.source.bytes)
  pub turns : old.stage ≡ Fresh → old.source.known ≡ true
      → IsOfTurns (λ n. turns_ahead None n true old.stage old.found old.source.bytes)
      (told_of new.found.said)
  pub still : (old.stage ≡ Fresh → ⊥) → new ≡ old
