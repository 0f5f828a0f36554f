-- The states of a decoder, and what each call does in each.
use Rattle.std.specs.Prelude.{◌≡◌, ℕ, suc, List, length, Result, Ok, Err, Bool, true, IsOk}
use Rattle.std.specs.Prelude.{IsErrAnd, Option}
use Rattle.jpeg_bits.specs.Reading.{Fault, Outcome}
use Rattle.jpeg_bits.specs.Stream.{Stream}
use Rattle.jpeg_bits.specs.declared.error.Error.{Error}
use Rattle.jpeg_bits.specs.declared.error.Error.TheVariants as errors
use Rattle.jpeg_meaning.specs.declared.progress.Progress.{Progress}
use Rattle.jpeg_meaning.specs.declared.progress.Progress.TheVariants.{Fresh, HeaderRead, Finished}
use Rattle.jpeg_meaning.specs.declared.progress.Progress.TheVariants.{Failed}
use Rattle.jpeg_meaning.specs.declared.settings.Settings.{Settings}
use Rattle.jpeg_meaning.specs.FoundPictures.{picture_of}
use Rattle.jpeg_meaning.specs.Stream.{Told, told_of, meaning_showing, rest_showing}
use Rattle.jpeg_meaning.specs.Reported.{told_by_turns, told_in_turns}
use Rattle.jpeg_meaning.specs.Found.{Found}

-- a decoder: its source, its stage, what was found, what was set, and whether it has refused a scan
-- since that codes more blocks than the limit leaves
pub record Decoding : Type 0 where
  pub source : Stream
  pub stage : Progress
  pub found : Found
  pub settings : Settings
  pub exceeded : Bool

-- an error of a state
abbrev pub IsInternal : Error → Type 0
IsInternal (errors.Internal text) = Unit {0}
IsInternal _ = ⊥

-- an error that is none of a state
abbrev pub IsOfBytes : Error → Type 0
IsOfBytes (errors.Internal text) = ⊥
IsOfBytes _ = Unit {0}

-- ---- the state table

-- the column for reading the header
abbrev pub MovesToHeader : {X : Type 0} → Progress → Progress → Result X Error → Type 0
MovesToHeader Fresh new (Ok x) = new ≡ HeaderRead
MovesToHeader Fresh new (Err e) = (new ≡ Failed) × IsOfBytes e
MovesToHeader HeaderRead new result = (new ≡ HeaderRead) × IsOk result
MovesToHeader Finished new result = (new ≡ Finished) × IsOk result
MovesToHeader Failed new result = (new ≡ Failed) × IsErrAnd result IsInternal

-- the column for decoding
abbrev pub MovesToEnd : {X : Type 0} → Progress → Progress → Result X Error → Type 0
MovesToEnd Finished new result = (new ≡ Finished) × IsErrAnd result IsInternal
MovesToEnd Failed new result = (new ≡ Failed) × IsErrAnd result IsInternal
MovesToEnd _ new (Ok x) = new ≡ Finished
MovesToEnd _ new (Err e) = (new ≡ Failed) × IsOfBytes e

-- a state in which a stream is read
abbrev pub IsReading : Progress → Type 0
IsReading Fresh = Unit {0}
IsReading HeaderRead = Unit {0}
IsReading _ = ⊥

-- a state in which a header was read
abbrev pub HasHeader : Progress → Type 0
HasHeader HeaderRead = Unit {0}
HasHeader Finished = Unit {0}
HasHeader _ = ⊥

-- What lies ahead of a decoder, a whole stream or the rest of one after its header, within a limit
-- of blocks, if there is one: what a caller is given, and what is shown of what was found.
abbrev pub ahead_showing : {A : Type 0} → Option ℕ → (Found → Result A Fault) → Progress → Found
    → List ℕ → Outcome (Told × A)
ahead_showing limit show Fresh found bytes = meaning_showing limit show bytes
ahead_showing limit show _ found bytes = rest_showing limit show found bytes

-- the meaning of what lies ahead of a decoder
abbrev pub ahead : Progress → Settings → Found → List ℕ → Outcome (Told × List ℕ)
ahead stage settings found bytes =
    ahead_showing settings.max_blocks (picture_of settings) stage found bytes

-- what this many turns of what lies ahead have said, within a limit of blocks, if there is one
abbrev pub turns_ahead : Option ℕ → ℕ → Bool → Progress → Found → List ℕ → Told
turns_ahead limit turns header Fresh found bytes = told_by_turns limit turns header bytes
turns_ahead limit turns header HeaderRead found bytes =
    told_in_turns limit turns header found bytes
turns_ahead limit turns header _ found bytes = told_of found.said

-- What has been said by the end, or the refusal, of what lies ahead: there are fewer turns than
-- bytes.
abbrev pub told_ahead : Option ℕ → Bool → Progress → Found → List ℕ → Told
told_ahead limit header stage found bytes =
    turns_ahead limit (suc (length bytes)) header stage found bytes

-- ---- calls that read

-- a fact, unless memory ran out
abbrev pub IfRefused : Error → Type 0 → Type 0
IfRefused errors.OutOfMemory P = Unit {0}
IfRefused _ P = P

-- Where the bytes of a source were known to the end of a call, and memory was found, the call left
-- a fact.
abbrev pub OnTold : {X : Type 0} → Stream → Stream → Result X Error → Type 0 → Type 0
OnTold old new (Ok x) P = old.known ≡ true → P
OnTold old new (Err e) P = old.known ≡ true → new.known ≡ true → IfRefused e P

-- Where such a call is refused.
abbrev pub OnToldRefusal : {X : Type 0} → Stream → Stream → Result X Error → Type 0 → Type 0
OnToldRefusal old new (Ok x) P = Unit {0}
OnToldRefusal old new (Err e) P = old.known ≡ true → new.known ≡ true → IfRefused e P
