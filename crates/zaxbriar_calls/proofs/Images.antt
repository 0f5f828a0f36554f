-- What is told of an image whose header is read, and then its scans within a limit of blocks.
use Rattle.std.proofs.Common.{arith, ◌≡◌, ◌∙◌, ℕ, suc, Bool, List, Option, None, Result, Ok, Err, ap, length, sym}
use Rattle.std.proofs.Common.{true, false, refl, subst}
use Rattle.std.proofs.lemmas.Grind.{common_steps}
use Rattle.std.specs.Prelude.{IsOk}
use Rattle.jpeg_bits.specs.Reading.{Fault, Names, Outcome}
use Rattle.jpeg_bits.specs.Stream.{Stream}
use Rattle.jpeg_bits.specs.declared.error.Error.{Error}
use Rattle.jpeg_bits.specs.declared.error.Error.TheVariants as errors
use Rattle.jpeg_decoder.proofs.Segments.HeaderThenRest.{header-lacks, header-means, header-told, header-told_lacking}
use Rattle.jpeg_meaning.specs.Found.{Found}
use Rattle.jpeg_meaning.specs.Output.{default_settings}
use Rattle.jpeg_meaning.specs.Reported.{told_by_turns, told_in_turns}
use Rattle.jpeg_meaning.specs.States.{IfRefused, told_ahead}
use Rattle.jpeg_meaning.specs.Stream.{Told, header_at, meaning_within, rest_by}
use Rattle.jpeg_meaning.specs.declared.progress.Progress.{Progress}
use Rattle.jpeg_meaning.specs.declared.progress.Progress.TheVariants.{Fresh}
use Rattle.jpeg_meaning.specs.declared.settings.Settings.{Settings}
use Rattle.zaxbriar_calls.proofs.Limited.{rest-same}
use Rattle.zaxbriar_calls.specs.Limits.{blocks_of_passes}
use Rattle.zaxbriar_calls.specs.Metadata.{end_at, end_of, limit_in, told_at}

-- ---- where the header is refused

told-lacking : (passes : ℕ) (whole : Bool) (bytes : List ℕ) (told : Told) (fault : Fault) → header_at bytes ≡ Err fault
    → told ≡ told_by_turns None (suc (length bytes)) true bytes → told ≡ told_at passes whole bytes
told-lacking passes true bytes told fault e h = h ∙ header-told_lacking (limit_in passes bytes) bytes fault e
told-lacking passes false bytes told fault e h = h

pub refused-told : (passes : ℕ) (whole : Bool) (bytes : List ℕ) (told : Told) (e : Error) → Names e (header_at bytes)
    → IfRefused e (told ≡ told_by_turns None (suc (length bytes)) true bytes)
    → IfRefused e (told ≡ told_at passes whole bytes)
refused-told passes whole bytes told (errors.Format t) n h = told-lacking passes whole bytes told _ n h
refused-told passes whole bytes told (errors.Unsupported f) n h = told-lacking passes whole bytes told _ n h
refused-told passes whole bytes told (errors.Io x) n h = told-lacking passes whole bytes told _ n.0 h
refused-told passes whole bytes told (errors.Internal t) n h = absurd n
refused-told passes whole bytes told errors.OutOfMemory n h = tt

end-lacking : (passes : ℕ) (whole : Bool) (bytes : List ℕ) (fault : Fault) → header_at bytes ≡ Err fault
    → end_at passes whole bytes ≡ Err fault
end-lacking passes true bytes fault e =
    ap (λ (r : Outcome (Told × List ℕ)). end_of r)
    (header-lacks (limit_in passes bytes) default_settings bytes fault e)
end-lacking passes false bytes fault e = ap (λ (r : Outcome Found). end_of r) e

pub refused-end : (passes : ℕ) (whole : Bool) (bytes : List ℕ) (e : Error) → Names e (header_at bytes)
    → Names e (end_at passes whole bytes)
refused-end passes whole bytes (errors.Format t) n = end-lacking passes whole bytes _ n
refused-end passes whole bytes (errors.Unsupported f) n = end-lacking passes whole bytes _ n
refused-end passes whole bytes (errors.Io x) n = (end-lacking passes whole bytes _ n.0, n.1)
refused-end passes whole bytes (errors.Internal t) n = absurd n
refused-end passes whole bytes errors.OutOfMemory n = tt

-- ---- where it is read

limit-is : (passes : ℕ) (bytes rest : List ℕ) (found : Found) → header_at bytes ≡ Ok (found, rest)
    → limit_in passes bytes ≡ blocks_of_passes passes found.said.frame
limit-is passes bytes rest found e = rw (e, limit_in) refl

pub told-whole : (passes : ℕ) (bytes rest : List ℕ) (found : Found) → header_at bytes ≡ Ok (found, rest)
    → told_in_turns (blocks_of_passes passes found.said.frame) (suc (length rest)) false found rest
    ≡ told_at passes true bytes
told-whole passes bytes rest found e =
    sym (header-told (blocks_of_passes passes found.said.frame) found bytes rest e)
    ∙ ap (λ (l : Option ℕ). told_by_turns l (suc (length bytes)) false bytes)
    (sym (limit-is passes bytes rest found e))

pub end-whole : (passes : ℕ) (settings : Settings) (bytes rest : List ℕ) (found : Found)
    → settings ≡ default_settings → header_at bytes ≡ Ok (found, rest)
    → end_of (rest_by (record settings { max_blocks = blocks_of_passes passes found.said.frame }) found rest)
    ≡ end_at passes true bytes
end-whole passes settings bytes rest found plain e =
    let limit = blocks_of_passes passes found.said.frame in
    ap (λ (r : Outcome (Told × List ℕ)). end_of r)
    (ap (λ (s : Settings). rest_by (record s { max_blocks = limit }) found rest) plain
    ∙ rest-same limit limit default_settings found rest
    ∙ sym (header-means limit default_settings found bytes rest e)
    ∙ ap (λ (l : Option ℕ). meaning_within l default_settings bytes) (sym (limit-is passes bytes rest found e)))

pub named-end : {X : Type 0} (e : Error) (read : Result X Fault) → Names e read → Names e (end_of read)
named-end (errors.Format t) read n = ap end_of n
named-end (errors.Unsupported f) read n = ap end_of n
named-end (errors.Io x) read n = (ap end_of n.0, n.1)
named-end (errors.Internal t) read n = absurd n
named-end errors.OutOfMemory read n = tt

-- ---- a header that was read, and its scans

-- A source stands after a header.
abbrev pub AfterHeader : Stream → Found → Stream → Type 0
AfterHeader old found middle =
    old.known ≡ true → (middle.known ≡ true) × (header_at old.bytes ≡ Ok (found, middle.bytes))

-- what is told of its scans
abbrev pub ToldOfScans : ℕ → Stream → Found → Told → Type 0
ToldOfScans passes middle found told =
    told ≡ told_in_turns (blocks_of_passes passes found.said.frame) (suc (length middle.bytes)) false found middle.bytes

-- what they come to
abbrev pub of_scans : ℕ → Settings → Stream → Found → Outcome (Told × List ℕ)
of_scans passes settings middle found =
    rest_by (record settings { max_blocks = blocks_of_passes passes found.said.frame }) found middle.bytes

pub header-refused : (passes : ℕ) (whole : Bool) (old new : Stream) (stage : Progress) (found : Found) (told : Told)
    (e : Error) → stage ≡ Fresh → (old.known ≡ true → new.known ≡ true → Names e (header_at old.bytes))
    → (old.known ≡ true → new.known ≡ true → IfRefused e (told ≡ told_ahead None true stage found old.bytes))
    → old.known ≡ true → new.known ≡ true → IfRefused e (told ≡ told_at passes whole old.bytes)
header-refused passes whole old new stage found told e fresh names tells k n =
    refused-told passes whole old.bytes told e (names k n)
    (subst (λ (s : Progress). IfRefused e (told ≡ told_ahead None true s found old.bytes)) fresh (tells k n))

pub scans-refused : (passes : ℕ) (whole : Bool) (old middle new : Stream) (found : Found) (told : Told) (e : Error)
    → whole ≡ true → AfterHeader old found middle
    → (middle.known ≡ true → new.known ≡ true → IfRefused e (ToldOfScans passes middle found told))
    → old.known ≡ true → new.known ≡ true → IfRefused e (told ≡ told_at passes whole old.bytes)
scans-refused passes whole old middle new found told e is after tells k n =
    subst (λ (w : Bool). IfRefused e (told ≡ told_at passes w old.bytes)) (sym is)
    (subst (λ (t : Told). IfRefused e (told ≡ t)) (told-whole passes old.bytes middle.bytes found (after k).1)
    (tells (after k).0 n))

pub scans-named : (passes : ℕ) (whole : Bool) (settings : Settings) (old middle new : Stream) (found : Found) (e : Error)
    → whole ≡ true → settings ≡ default_settings → AfterHeader old found middle
    → (middle.known ≡ true → new.known ≡ true → Names e (of_scans passes settings middle found))
    → old.known ≡ true → new.known ≡ true → Names e (end_at passes whole old.bytes)
scans-named passes whole settings old middle new found e is plain after names k n =
    subst (λ (w : Bool). Names e (end_at passes w old.bytes)) (sym is)
    (subst (λ (r : Result (Unit {0}) Fault). Names e r)
    (end-whole passes settings old.bytes middle.bytes found plain (after k).1)
    (named-end e (of_scans passes settings middle found) (names (after k).0 n)))

pub scans-told : (passes : ℕ) (whole : Bool) (old middle : Stream) (found : Found) (told : Told)
    → whole ≡ true → AfterHeader old found middle → (middle.known ≡ true → ToldOfScans passes middle found told)
    → old.known ≡ true → told ≡ told_at passes whole old.bytes
scans-told passes whole old middle found told is after tells k =
    subst (λ (w : Bool). told ≡ told_at passes w old.bytes) (sym is)
    (tells (after k).0 ∙ told-whole passes old.bytes middle.bytes found (after k).1)

pub scans-end : (passes : ℕ) (whole : Bool) (settings : Settings) (old middle : Stream) (found : Found)
    → whole ≡ true → settings ≡ default_settings → AfterHeader old found middle
    → (middle.known ≡ true → IsOk (of_scans passes settings middle found))
    → old.known ≡ true → IsOk (end_at passes whole old.bytes)
scans-end passes whole settings old middle found is plain after ends k =
    subst (λ (w : Bool). IsOk (end_at passes w old.bytes)) (sym is)
    (subst (λ (r : Result (Unit {0}) Fault). IsOk r)
    (end-whole passes settings old.bytes middle.bytes found plain (after k).1)
    (ended-ok (of_scans passes settings middle found) (ends (after k).0)))
  where
    ended-ok : {X : Type 0} (r : Result X Fault) → IsOk r → IsOk (end_of r)
    ended-ok r h = grind (arith, common_steps)

pub header-told-alone : (passes : ℕ) (whole : Bool) (old : Stream) (stage : Progress) (found : Found) (told : Told)
    → stage ≡ Fresh → whole ≡ false → (old.known ≡ true → told ≡ told_ahead None true stage found old.bytes)
    → old.known ≡ true → told ≡ told_at passes whole old.bytes
header-told-alone passes whole old stage found told fresh is tells k =
    subst (λ (w : Bool). told ≡ told_at passes w old.bytes) (sym is)
    (subst (λ (s : Progress). told ≡ told_ahead None true s found old.bytes) fresh (tells k))

pub header-end-alone : (passes : ℕ) (whole : Bool) (old middle : Stream) (found : Found) → whole ≡ false
    → AfterHeader old found middle → old.known ≡ true → IsOk (end_at passes whole old.bytes)
header-end-alone passes whole old middle found is after k = grind (arith, common_steps)
