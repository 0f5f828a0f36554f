-- What a decoder gives whose header was read: the whole of its stream, or the part before a fault.
use Rattle.std.proofs.Common.{◌⊎◌, inl, inr}
use Rattle.std.proofs.Common.{◌≡◌, ◌∙◌, ℕ, List, Option, None, Some, Result, Ok, Err, Bool, true, false, ap, refl, subst, sym}
use Rattle.std.specs.Prelude.{IfOk, IfSome, IsSomeAnd}
use Rattle.std.specs.List.{concat}
use Rattle.jpeg_bits.specs.Reading.{Fault, IsGivenUp, Names, Outcome, ◌>>=◌}
use Rattle.jpeg_bits.specs.declared.error.Error.{Error}
use Rattle.jpeg_bits.specs.declared.error.Error.TheVariants as errors
use Rattle.jpeg_meaning.specs.Output.{IsOutsideOrMemory}
use Rattle.jpeg_meaning.specs.Shown.{shown_ahead, whole_rows_ahead, whole_rows_rest}
use Rattle.jpeg_meaning.specs.States.{Decoding, IfRefused, IsReading, ahead}
use Rattle.jpeg_meaning.specs.Stream.{Told, rest_by, told_of}
use Rattle.jpeg_meaning.specs.declared.progress.Progress.{Progress}
use Rattle.jpeg_meaning.specs.declared.progress.Progress.TheVariants.{HeaderRead}
use Rattle.jpeg_decoder.specs.Decodes.{Decodes}
use Rattle.jpeg_decoder.specs.Shows.{Shows}
use Rattle.zaxbriar_pictures.specs.Given.{given_rest, without_fault}
use Rattle.zaxbriar_pictures.specs.Reasons.{NamesOrOutside}
use Rattle.zaxbriar_pictures.proofs.Reasons.{answered, named-then}
use Rattle.zaxbriar_pictures.specs.Steps.{GivesRest}
use Rattle.zaxbriar_pictures.specs.declared.extents.Extent.TheVariants.{Partial, Whole}

-- a state in which the header was read is one in which a stream is read
reading : (stage : Progress) → stage ≡ HeaderRead → IsReading stage
reading stage at = subst IsReading (sym at) tt

pub whole-gives : {X : Type 0} (bytes_of : X → List ℕ) (old new : Decoding) (x : X) → old.stage ≡ HeaderRead
    → Decodes bytes_of old (Ok x) new → GivesRest Whole old new (bytes_of x) None
whole-gives bytes_of old new x at d known =
    let means = ((d.reads (reading old.stage at)).1 known).1 in
    let rest = ap (λ (p : Progress). ahead p old.settings old.found old.source.bytes) (sym at) ∙ means in (
      without_fault (told_of new.found.said, bytes_of x),
      ap (λ (o : Outcome (Told × List ℕ)). o >>= (λ m. Ok (without_fault m.0))) rest,
      refl,
      refl,
      tt,
    )

-- An error of a decoder that is to give the whole names the stream's fault, or is the reader's.
pub whole-refuses : {X : Type 0} (bytes_of : X → List ℕ) (old new : Decoding) (e : Error) → old.stage ≡ HeaderRead
    → Decodes bytes_of old (Err e) new → old.source.known ≡ true
    → NamesOrOutside (given_rest Whole old.settings old.found old.source.bytes) e
whole-refuses bytes_of old new e at d known =
    named-then e (rest_by old.settings old.found old.source.bytes) _
    (let a = d.reads (reading old.stage at) in
    subst (λ (p : Progress). NamesOrOutside (ahead p old.settings old.found old.source.bytes) e) at
    (answered (ahead old.stage old.settings old.found old.source.bytes) old.source new.source e a.1 a.2 known))

-- Where a read has failed the error is the reader's; else it is the one of the bytes, or says that reads were interrupted
-- without end.
unfailed : (e : Error) (failed : Bool) → failed ≡ false → IfRefused e ((failed ≡ true) ⊎ IsGivenUp e failed)
    → IsOutsideOrMemory e
unfailed (errors.Io error) failed none h = tt
unfailed (errors.Format text) failed none (inl some) = absurd (let n : ⊥ = cc in n)
unfailed (errors.Format text) failed none (inr h) = h
unfailed (errors.Unsupported feature) failed none (inl some) = absurd (let n : ⊥ = cc in n)
unfailed (errors.Unsupported feature) failed none (inr h) = absurd h
unfailed (errors.Internal text) failed none (inl some) = absurd (let n : ⊥ = cc in n)
unfailed (errors.Internal text) failed none (inr h) = absurd h
unfailed errors.OutOfMemory failed none h = tt

named-or : {Y : Type 0} (known failed : Bool) (e : Error) (outcome : Result Y Fault) → failed ≡ false
    → (known ≡ true → Names e outcome) → (known ≡ false → IfRefused e ((failed ≡ true) ⊎ IsGivenUp e failed))
    → NamesOrOutside outcome e
named-or true failed e outcome none names given_up = inl (names refl)
named-or false failed e outcome none names given_up = inr (unfailed e failed none (given_up refl))

-- So does that of one which is to show what the bytes bring, once it is said that a read has failed.
pub partial-refuses : {X : Type 0} (bytes_of : X → List ℕ) (fault_of : X → Option Error) (old new : Decoding)
    (e said : Error) (failed : Bool) → old.stage ≡ HeaderRead → Shows bytes_of fault_of old (Err e) new
    → failed ≡ new.source.failed → (failed ≡ true → IsOutsideOrMemory said) → (failed ≡ false → said ≡ e)
    → old.source.known ≡ true → NamesOrOutside (given_rest Partial old.settings old.found old.source.bytes) said
partial-refuses bytes_of fault_of old new e said true at d seen outside same known = inr (outside refl)
partial-refuses bytes_of fault_of old new e said false at d seen outside same known =
    let now = reading old.stage at in
    let rest = given_rest Partial old.settings old.found old.source.bytes in
    let shows : new.source.known ≡ true → Names e rest =
    (λ still. subst (λ (p : Progress). Names e (shown_ahead p old.settings old.found old.source.bytes)) at
    (d.shown now known still)) in
    subst (λ (x : Error). NamesOrOutside rest x) (sym (same refl))
    (named-or new.source.known new.source.failed e rest (sym seen) shows (λ gone. d.given_up now known gone))

-- A reader that didn't give up is still known.
still-known : (known : Bool) (fault : Option Error) (failed : Bool)
    → (known ≡ false → IsSomeAnd fault (λ e. IsGivenUp e failed)) → IfSome fault (λ e. IsGivenUp e failed → ⊥)
    → known ≡ true
still-known true fault failed given_up none = refl
still-known false None failed given_up none = absurd (given_up refl)
still-known false (Some e) failed given_up none = absurd (none (given_up refl))

-- One that showed a fault which isn't its own is still known.
still-read : {X : Type 0} (lines_of : X → List (List ℕ)) (fault_of : X → Option Error) (old new : Decoding)
    (shown p : X) (failed : Bool) → IsReading old.stage → Shows (λ x. concat (lines_of x)) fault_of old (Ok shown) new
    → failed ≡ new.source.failed → p ≡ shown → IfSome (fault_of p) (λ e. IsGivenUp e failed → ⊥)
    → old.source.known ≡ true → new.source.known ≡ true
still-read lines_of fault_of old new shown p failed now d seen same none known =
    still-known new.source.known (fault_of shown) new.source.failed (d.given_up now known)
    (subst (λ (f : Option Error). IfSome f (λ e. IsGivenUp e new.source.failed → ⊥)) (ap fault_of same)
    (subst (λ (b : Bool). IfSome (fault_of p) (λ e. IsGivenUp e b → ⊥)) seen none))

pub partial-gives : {X : Type 0} (lines_of : X → List (List ℕ)) (fault_of : X → Option Error) (old new : Decoding)
    (shown : X) (failed : Bool) (r : Result X Error) → old.stage ≡ HeaderRead
    → Shows (λ x. concat (lines_of x)) fault_of old (Ok shown) new
    → failed ≡ new.source.failed → IfOk r (λ p. p ≡ shown)
    → IfOk r (λ p. IfSome (fault_of p) (λ e. IsGivenUp e failed → ⊥))
    → IfOk r (λ p. GivesRest Partial old new (concat (lines_of p)) (fault_of p))
partial-gives lines_of fault_of old new shown failed (Err e) at d seen same none = tt
partial-gives {X} lines_of fault_of old new shown failed (Ok p) at d seen same none =
    subst (λ (x : X). GivesRest Partial old new (concat (lines_of x)) (fault_of x)) (sym same) (λ known.
    let now = reading old.stage at in
    let still = still-read lines_of fault_of old new shown p failed now d seen same none known in
    let s = d.shown now known still in (
      s.0,
      ap (λ (p : Progress). shown_ahead p old.settings old.found old.source.bytes) (sym at) ∙ s.1,
      s.2,
      s.3,
      s.4,
    ))

pub partial-counts : {X : Type 0} (lines_of : X → List (List ℕ)) (fault_of : X → Option Error) (rows_of : X → ℕ)
    (old new : Decoding) (shown : X) (failed : Bool) (r : Result X Error) → old.stage ≡ HeaderRead
    → Shows (λ x. concat (lines_of x)) fault_of old (Ok shown) new
    → (IsReading old.stage → old.source.known ≡ true → new.source.known ≡ true
    → rows_of shown ≡ whole_rows_ahead old.settings.max_blocks old.stage old.found old.source.bytes)
    → failed ≡ new.source.failed → IfOk r (λ p. p ≡ shown)
    → IfOk r (λ p. IfSome (fault_of p) (λ e. IsGivenUp e failed → ⊥)) → old.source.known ≡ true
    → IfOk r (λ p. rows_of p ≡ whole_rows_rest old.settings.max_blocks old.found old.source.bytes)
partial-counts lines_of fault_of rows_of old new shown failed (Err e) at d counted seen same none known = tt
partial-counts lines_of fault_of rows_of old new shown failed (Ok p) at d counted seen same none known =
    let now = reading old.stage at in
    let still = still-read lines_of fault_of old new shown p failed now d seen same none known in
    ap rows_of same ∙ counted now known still
    ∙ ap (λ (p : Progress). whole_rows_ahead old.settings.max_blocks p old.found old.source.bytes) at
