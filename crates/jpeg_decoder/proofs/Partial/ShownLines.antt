-- Calls that show what a stream has brought up to its first fault: the state before, and where memory runs out.
use Rattle.std.proofs.Common.{◌≡◌, ℕ, List, Option, Ok, Err, subst, sym}
use Rattle.jpeg_bits.specs.declared.error.Error.{Error}
use Rattle.jpeg_bits.specs.declared.error.Error.TheVariants as errors
use Rattle.jpeg_meaning.specs.States.{Decoding}
use Rattle.jpeg_meaning.specs.declared.progress.Progress.TheVariants.{Failed}
use Rattle.jpeg_decoder.specs.Shows.{Shows}
use Rattle.jpeg_decoder.proofs.Pictures.DecodedLines.{lost-stage}

-- no memory is left for what is shown
pub shows-lost : {X Y : Type 0} (bytes_of : X → List ℕ) (fault_of : X → Option Error) (seen_as : Y → List ℕ)
    (fault_as : Y → Option Error) (old mid new : Decoding) (x : X) (e : Error) → e ≡ errors.OutOfMemory
    → new ≡ record mid { stage = Failed } → Shows bytes_of fault_of old (Ok x) mid
    → Shows seen_as fault_as old (Err e) new
shows-lost {Y = Y} bytes_of fault_of seen_as fault_as old mid new x e is made d =
    subst (λ (e : Error). Shows {X = Y} seen_as fault_as old (Err e) new) (sym is)
    (subst (λ (new : Decoding). Shows {X = Y} seen_as fault_as old (Err errors.OutOfMemory) new) (sym made)
    (record {
      stage = lost-stage Y old.stage mid.stage x d.stage;
      shown = λ k l m. tt;
      told = λ k l m. tt;
      exceeded = λ k l m. tt;
      given_up = λ k l m. tt;
      emptied = d.emptied;
    }))
