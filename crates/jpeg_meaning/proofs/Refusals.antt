-- Refusals, and the turn that tells that known bytes are few.
use Rattle.std.proofs.Common.{rules, ◌≡◌, ◌<◌, ℕ, List, Result, Err, true, Option, None, refl, Bool}
use Rattle.std.proofs.Common.{Ok, ◌++◌, false, option_map, Some, IsSome}
use Rattle.jpeg_bits.specs.Stream.{Stream}
use Rattle.jpeg_bits.specs.Reading.{Outcome, Fault, Answers, Names, NamesFormat, IsShort, IsGivenUp}
use Rattle.jpeg_bits.specs.declared.error.Error.{Error}
use Rattle.jpeg_bits.specs.declared.marker.Marker.{Marker}
use Rattle.jpeg_meaning.specs.States.{IfRefused, OnTold}
use Rattle.jpeg_meaning.specs.Stream.{told_of, start_at, walk, Told, meaning}
use Rattle.jpeg_meaning.specs.Reported.{told_by_turns, told_in_turns}
use Rattle.jpeg_meaning.specs.Found.{nothing_found, nothing_said}
use Rattle.jpeg_meaning.specs.Pixels.{info_of}
use Rattle.jpeg_meaning.specs.Output.{output_of, header_line_of, default_settings, IsOutsideOrMemory, NamesOrOutside}

pub short-step : (counter : ℕ) (met : Option Marker) (s first : Stream) → (0 < counter → IsShort first)
    → (counter ≡ 0 → (met ≡ None) × (s ≡ first)) → (met ≡ None → IsShort s) → IsShort first
short-step n met s first p q r = search rules

pub short-first : (counter : ℕ) (s first : Stream) → (0 < counter → IsShort first) → (counter ≡ 0 → s ≡ first)
    → IsShort s → IsShort first
short-first n s first p q r = search rules

-- an error that names a fault of a reading tells what holds at that fault
pub told-err : {Y : Type 0} (e : Error) (outcome : Result Y Fault) (P : Type 0) → Names e outcome
    → ((f : Fault) → outcome ≡ Err f → P) → IfRefused e P
told-err e outcome k n h = search rules

-- a refusal that known bytes never meet
pub never-met : {X Y : Type 0} (view : X → Y) (read : List ℕ → Outcome Y) (old new : Stream) (e : Error) → NamesFormat e
    → new.failed ≡ old.failed → (old.known ≡ true → ⊥) → Answers view read old (Err e) new
never-met view read old new e n f never = search rules

pub turns-no_start : (limit : Option ℕ) (n : ℕ) (header : Bool) (bytes : List ℕ) (fault : Fault) → start_at bytes ≡ Err fault
    → told_by_turns limit n header bytes ≡ told_of nothing_said
unfolding told_by_turns
turns-no_start limit n header bytes fault h = rw (h, told_by_turns) refl

pub turns-start : (limit : Option ℕ) (n : ℕ) (header : Bool) (bytes rest : List ℕ) → start_at bytes ≡ Ok (tt, rest)
    → told_by_turns limit n header bytes ≡ told_in_turns limit n header nothing_found rest
unfolding told_by_turns
turns-start limit n header bytes rest h = rw (h, told_by_turns) refl

pub turns-none : (limit : Option ℕ) (header : Bool) (bytes : List ℕ) → told_by_turns limit 0 header bytes ≡ told_of nothing_said
unfolding told_by_turns walk nothing_found
turns-none limit header bytes = search rules

-- what a part of a call left
pub told-through : {X : Type 0} (old mid new : Stream) (r : Result X Error) (P Q : Type 0)
    → (old.known ≡ true → (mid.known ≡ true) × (P → Q)) → OnTold mid new r P → OnTold old new r Q
told-through old mid new n k l f h = search rules

pub output-some : (bytes rest : List ℕ) (found : Told) (pixels : List ℕ)
    → meaning default_settings bytes ≡ Ok ((found, pixels), rest)
    → output_of bytes ≡ Some (header_line_of (option_map info_of found.frame) ++ pixels)
unfolding output_of
output-some bytes rest found pixels e = rw (output_of, e) refl

-- an error at a stream with a meaning is the reader's, or out of memory
pub outside-decode : (known failed : Bool) (e : Error) (bytes : List ℕ)
    → (known ≡ true → Names e (meaning default_settings bytes)) → (known ≡ false → IsGivenUp e failed)
    → IsSome (output_of bytes) → IsOutsideOrMemory e
unfolding output_of
outside-decode known failed e bytes r f s = search rules

-- an error names the stream's fault, or is the reader's, or out of memory
pub named-decode : (known failed : Bool) (e : Error) (bytes : List ℕ)
    → (known ≡ true → Names e (meaning default_settings bytes)) → (known ≡ false → IsGivenUp e failed)
    → NamesOrOutside bytes e
named-decode known failed e bytes r f = search rules
