-- What a call does that shows what its decoder has left up to its first fault.
use Rattle.std.specs.Prelude.{◌≡◌, ◌&&◌, ◌||◌, ℕ, Bool, List, [], None, Option, Ok, Err}
use Rattle.std.specs.Prelude.{◌⊎◌, is_some, replicate, Result, slice_index_or, true, false}
use Rattle.std.specs.Prelude.{IfOk, IsSomeAnd}
use Rattle.jpeg_bits.specs.Reading.{Fault, IsGivenUp, Names}
use Rattle.jpeg_bits.specs.Stream.{Stream}
use Rattle.jpeg_bits.specs.declared.error.Error.{Error}
use Rattle.jpeg_segments.specs.Frame.{Component, Frame}
use Rattle.jpeg_segments.specs.declared.frame.CodingProcess.{CodingProcess}
use Rattle.jpeg_segments.specs.declared.frame.CodingProcess.TheVariants.{Lossless}
use Rattle.jpeg_meaning.specs.EndPlanes.{is_kept}
use Rattle.jpeg_meaning.specs.Found.{Found, nothing_found, nothing_said}
use Rattle.jpeg_meaning.specs.Limits.{exceeded_ahead}
use Rattle.jpeg_bits.specs.declared.beyond.Beyond.TheVariants.{Nothing}
use Rattle.jpeg_meaning.specs.Shown.{Shown, shown_ahead}
use Rattle.jpeg_meaning.specs.States.{Decoding, IfRefused, IsReading, MovesToEnd, OnToldRefusal}
use Rattle.jpeg_meaning.specs.Stream.{Told, all_brought, start_at, told_of}
use Rattle.jpeg_meaning.specs.declared.progress.Progress.{Progress}
use Rattle.jpeg_meaning.specs.declared.progress.Progress.TheVariants.{Fresh}
use Rattle.jpeg_decoder.specs.Reaching.{NamesFault, UnlessRefused}

-- Whether scans gave what the picture needs of a component: samples; or a plane, or else blocks
-- that are kept, and a table for them. The component stands beside its index in the frame.
abbrev pub is_there : CodingProcess → Found → Frame → ℕ × Component → Bool
is_there Lossless found frame c = is_some (slice_index_or found.samples c.0 None)
is_there _ found frame c = is_some (slice_index_or found.planes c.0 None)
    || (is_kept found frame
    && is_some (slice_index_or found.said.quantization c.1.factors.quantization None))

-- A call gave what is to be shown, or named why nothing is.
abbrev pub IsShown : {X : Type 0} → Result Shown Fault → (X → List ℕ) → (X → Option Error)
    → Result X Error → Told → Type 0
IsShown expected bytes_of fault_of (Ok x) told = (s : Shown) × (expected ≡ Ok s)
    × (bytes_of x ≡ s.picture) × (told ≡ s.told) × NamesFault (fault_of x) s.fault
IsShown expected bytes_of fault_of (Err e) told = Names e expected

-- Where the bytes of a source were known to the end of a call, and memory was found, the call gave
-- what the bytes show, or named why they show nothing.
abbrev pub ShowsJust : {X : Type 0} → (List ℕ → Result Shown Fault) → (X → List ℕ)
    → (X → Option Error) → Stream → Result X Error → Stream → Told → Type 0
ShowsJust expected bytes_of fault_of old result new told = old.known ≡ true → new.known ≡ true
    → IsShown (expected old.bytes) bytes_of fault_of result told

-- Where the bytes of a source were known before a call and aren't after it, the reader was given
-- up. The fault of an Ok says so. After an error a read has failed, or the error says that reads
-- were interrupted without end, or memory ran out.
abbrev pub GivesUp : {X : Type 0} → (X → Option Error) → Stream → Result X Error → Stream → Type 0
GivesUp fault_of old (Ok x) new = old.known ≡ true → new.known ≡ false
    → IsSomeAnd (fault_of x) (λ e. IsGivenUp e new.failed)
GivesUp fault_of old (Err e) new = old.known ≡ true → new.known ≡ false
    → IfRefused e ((new.failed ≡ true) ⊎ IsGivenUp e new.failed)

-- Where the bytes of a source were known to the end of a call, an Ok counted the complete rows.
abbrev pub CountsRows : {X : Type 0} → (X → ℕ) → (List ℕ → ℕ) → Stream → Result X Error → Stream
    → Type 0
CountsRows rows_of expected old result new =
    old.known ≡ true → new.known ≡ true → IfOk result (λ x. rows_of x ≡ expected old.bytes)

-- Where the bytes of a source were known to the end of a call, and memory was found, the call left
-- a fact.
abbrev pub Knows : {X : Type 0} → Stream → Result X Error → Stream → Type 0 → Type 0
Knows old result new P = old.known ≡ true → new.known ≡ true → UnlessRefused result P

-- What has been said up to the first fault, or the end, where scans may code this many blocks, if
-- there is a limit: by the rest of a stream after its start or its header, by a stream, and by what
-- lies ahead of a decoder.
abbrev pub told_shown_rest : Option ℕ → Found → List ℕ → Told
told_shown_rest limit found bytes = told_of (all_brought limit found bytes).found.said

unfoldable pub told_shown : Option ℕ → List ℕ → Told
told_shown limit bytes = elim (start_at bytes) [
  | Ok start ↦ told_shown_rest limit nothing_found start.1
  | Err fault ↦ told_of nothing_said
]

abbrev pub told_shown_ahead : Option ℕ → Progress → Found → List ℕ → Told
told_shown_ahead limit Fresh found bytes = told_shown limit bytes
told_shown_ahead limit _ found bytes = told_shown_rest limit found bytes

pub record Shows {X : Type 0} (bytes_of : X → List ℕ) (fault_of : X → Option Error) (old : Decoding)
    (result : Result X Error) (new : Decoding) : Type 0 where
  -- The state table: an Ok finishes the decoder, a refusal fails it.
  pub stage : MovesToEnd old.stage new.stage result
  -- For any bytes, the answer is the picture of what they bring up to their first fault, and the
  -- name of that fault, or why there is no picture.
  pub shown : IsReading old.stage → ShowsJust (shown_ahead old.stage old.settings old.found)
      bytes_of fault_of old.source result new.source (told_of new.found.said)
  -- After a refusal, too, a caller is given what the segments up to the first fault have said.
  pub told : IsReading old.stage → OnToldRefusal old.source new.source result
      (told_of new.found.said
      ≡ told_shown_ahead old.settings.max_blocks old.stage old.found old.source.bytes)
  -- The decoder knows whether the fault is a scan of more blocks than the limit leaves.
  pub exceeded : IsReading old.stage → Knows old.source result new.source (new.exceeded
      ≡ exceeded_ahead old.settings.max_blocks Nothing old.stage old.found old.source.bytes)
  -- A caller can tell whether the reader was given up.
  pub given_up : IsReading old.stage → GivesUp fault_of old.source result new.source
  -- No blocks, planes or samples are kept.
  pub emptied : IsReading old.stage → (new.found.kept ≡ []) × (new.found.planes ≡ replicate 4 None)
      × (new.found.samples ≡ replicate 4 None)
