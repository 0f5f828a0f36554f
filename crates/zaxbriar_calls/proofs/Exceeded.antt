-- Whether a scan was refused for its blocks: of a stream and its header, and the number of an answer.
use Rattle.std.proofs.Common.{arith, rules, ◌≡◌, ℕ, zero, suc, Bool, true, false, List, Option, None, Result, Ok, Err}
use Rattle.std.proofs.Common.{ap, length, refl, subst, sym}
use Rattle.std.specs.Prelude.{◌&&◌}
use Rattle.std.proofs.lemmas.Grind.{common_steps}
use Rattle.jpeg_bits.specs.Reading.{◌>>=◌, Fault, Malformed, Names, Outcome}
use Rattle.jpeg_bits.specs.declared.error.Error.{Error}
use Rattle.jpeg_bits.specs.declared.marker.Marker.{Marker}
use Rattle.jpeg_meaning.proofs.Limits.{none-exceeded}
use Rattle.jpeg_meaning.specs.Found.{Found}
use Rattle.jpeg_meaning.specs.Limits.{exceeded_rest}
use Rattle.jpeg_meaning.specs.States.{IfRefused}
use Rattle.jpeg_meaning.specs.Stream.{header_at, rest_by, segments_at, walk, rest_showing}
use Rattle.jpeg_meaning.specs.declared.before.Before.{Before}
use Rattle.jpeg_meaning.specs.declared.before.Before.TheVariants.{Elsewhere}
use Rattle.jpeg_bits.specs.declared.beyond.Beyond.{Beyond}
use Rattle.jpeg_bits.specs.declared.beyond.Beyond.TheVariants.{Zeros}
use Rattle.jpeg_meaning.specs.declared.settings.Settings.{Settings}
use Rattle.zaxbriar_calls.specs.Faults.{IsFault, IsPart, status_of, with_passes}
use Rattle.zaxbriar_calls.specs.Fills.{IsWithinPasses}
use Rattle.zaxbriar_calls.specs.Given.{KnowsExceeded, given_by, given_rest}
use Rattle.zaxbriar_calls.specs.Limits.{blocks_of_passes}
use Rattle.zaxbriar_calls.specs.Meanings.{found_at, settings_at}
use Rattle.zaxbriar_calls.specs.Passes.{beyond_of, exceeds, exceeds_rest, is_whole}
use Rattle.zaxbriar_calls.specs.declared.answers.Refusal.{Refusal}
use Rattle.zaxbriar_calls.specs.declared.answers.Refusal.TheVariants as refusals
use Rattle.zaxbriar_calls.specs.declared.extents.Extent.{Extent}
use Rattle.zaxbriar_calls.specs.declared.extents.Extent.TheVariants.{Whole, Partial, Planes}
use Rattle.zaxbriar_calls.specs.declared.options.Options.{Options}

-- ---- a stream

pub exceeds-given : (extent : Extent) (o : Options) (bytes rest : List ℕ) (header : Found)
    → header_at bytes ≡ Ok (header, rest)
    → exceeds extent o bytes ≡ exceeds_rest extent (settings_at o (found_at o header)) (found_at o header) rest
unfolding exceeds
exceeds-given extent o bytes rest header h = rw (h, exceeds) refl

-- after a refusal of the header no scan was refused
exceeds-none : (extent : Extent) (o : Options) (bytes : List ℕ) (f : Fault) → header_at bytes ≡ Err f
    → exceeds extent o bytes ≡ false
unfolding exceeds
exceeds-none extent o bytes f h = rw (h, exceeds) refl

error-known : (extent : Extent) (o : Options) (bytes : List ℕ) (e : Error) (exceeded : Bool) → exceeded ≡ false
    → Names e (header_at bytes) → IfRefused e (exceeded ≡ exceeds extent o bytes)
error-known extent o bytes e exceeded n h = grind (arith, common_steps, exceeds-none)

pub header-known : (X : Type 0) (extent : Extent) (o : Options) (bytes : List ℕ) (r : Refusal) (exceeded : Bool)
    → exceeded ≡ false → IsFault (header_at bytes) r → (IsPart r → ⊥)
    → KnowsExceeded {X = X} (exceeds extent o bytes) (Err r) exceeded
header-known X extent o bytes (refusals.Stream e) exceeded n h p = error-known extent o bytes e exceeded n h
header-known X extent o bytes (refusals.Part e rows) exceeded n h p = absurd (p tt)
header-known X extent o bytes refusals.Reader exceeded n h p = tt
header-known X extent o bytes (refusals.Argument t) exceeded n h p = tt
header-known X extent o bytes refusals.NoRoom exceeded n h p = tt
header-known X extent o bytes refusals.TooLarge exceeded n h p = tt

-- without a limit of passes no scan is refused
rest-unlimited : (limit : Option ℕ) (extent : Extent) (found : Found) (bytes : List ℕ) → limit ≡ None
    → exceeded_rest limit (beyond_of extent) found bytes ≡ false
rest-unlimited limit extent found bytes h =
    subst (λ (l : Option ℕ). exceeded_rest l (beyond_of extent) found bytes ≡ false) (sym h)
    (none-exceeded (beyond_of extent) _ false Elsewhere found None bytes)

pub unlimited : (extent : Extent) (o : Options) (bytes : List ℕ) → o.max_passes ≡ 0 → exceeds extent o bytes ≡ false
unfolding exceeds
unlimited extent o bytes h = go (header_at bytes)
  where
    go : (header : Outcome Found) → (elim header as (λ _. Bool) [
      | Ok x ↦ exceeds_rest extent (settings_at o (found_at o x.0)) (found_at o x.0) x.1
      | Err fault ↦ false
    ]) ≡ false
    go (Ok x) = rest-unlimited _ extent (found_at o x.0) x.1
        (ap (λ (p : ℕ). blocks_of_passes p (found_at o x.0).said.frame) h)
    go (Err fault) = refl

pub are-limited : (extent : Extent) (o : Options) (bytes : List ℕ) → exceeds extent o bytes ≡ true
    → o.max_passes ≡ 0 → ⊥
are-limited extent o bytes e h =
    let none : exceeds extent o bytes ≡ false = unlimited extent o bytes h in
    cc

-- ---- a whole stream with such a scan gives nothing

exceeded-malformed : (beyond : Beyond) (turns : ℕ) (left : Option ℕ) (header : Bool) (before : Before) (found : Found) (met : Option Marker)
    (bytes : List ℕ) → (walk left beyond turns header before found met bytes).exceeded ≡ true
    → (walk left beyond turns header before found met bytes).rest ≡ Err Malformed
unfolding walk
exceeded-malformed beyond zero left header before found met bytes h = absurd cc
exceeded-malformed beyond (suc turns) left header before found met bytes h =
    search (rules, exceeded-malformed beyond turns)

exceeded-rest : (settings : Settings) (found : Found) (bytes : List ℕ) → exceeds_rest Whole settings found bytes ≡ true
    → rest_by settings found bytes ≡ Err Malformed
unfolding rest_showing segments_at
exceeded-rest settings found bytes h =
    rw (exceeded-malformed Zeros (suc (length bytes)) settings.max_blocks false Elsewhere found None bytes h) refl

given-exceeded : (o : Options) (header : Outcome Found)
    → (elim header as (λ _. Bool) [
      | Ok x ↦ exceeds_rest Whole (settings_at o (found_at o x.0)) (found_at o x.0) x.1
      | Err fault ↦ false
    ]) ≡ true
    → (header >>= (λ h. given_rest Whole (settings_at o (found_at o h.0)) (found_at o h.0) h.1)) ≡ Err Malformed
given-exceeded o (Ok x) h = rw (exceeded-rest (settings_at o (found_at o x.0)) (found_at o x.0) x.1 h) refl
given-exceeded o (Err f) h = absurd cc

pub too-many-refused : (o : Options) (bytes : List ℕ) → exceeds Whole o bytes ≡ true → given_by Whole o bytes ≡ Err Malformed
unfolding exceeds given_by
too-many-refused o bytes h = given-exceeded o (header_at bytes) h

-- ---- the number of an answer

-- the decoder knows it where a rule is broken
pub known-at : (outcome : Result ℕ Refusal) (expected exceeded : Bool) (code : ℕ) → code ≡ status_of outcome
    → KnowsExceeded expected outcome exceeded → code ≡ 1 → exceeded ≡ expected
known-at outcome expected exceeded code c k z = grind (arith, common_steps)

-- MALFORMED is another fault
pub is-within : (extent : Extent) (o : Options) (bytes : List ℕ) (exceeded : Bool) (code answer : ℕ)
    → answer ≡ with_passes (exceeded && is_whole extent) code → answer ≡ 1 → code ≡ 1
    → exceeded ≡ exceeds extent o bytes → IsWithinPasses extent o bytes
is-within Whole o bytes true code answer a z c k = absurd (grind (arith, common_steps))
is-within Whole o bytes false code answer a z c k = sym k
is-within Partial o bytes exceeded code answer a z c k = tt
is-within Planes o bytes true code answer a z c k = absurd (grind (arith, common_steps))
is-within Planes o bytes false code answer a z c k = sym k
