-- What the calls do that take a stream in pieces, as they arrive, and show it at any time.
use Rattle.std.specs.Prelude.{◌≡◌, ◌⊎◌, ◌++◌, ℕ, List, [], false}
use Rattle.std.specs.Option.{MatchOption}
use Rattle.std.specs.declared.option.Option.{Option}
use Rattle.std.specs.declared.option.Option.TheVariants.{None, Some}
use Rattle.zaxbriar_calls.specs.Arrived.{Arrived}
use Rattle.zaxbriar_calls.specs.ArrivedLines.{FeedsLines}
use Rattle.zaxbriar_calls.specs.Fills.{Fills}
use Rattle.zaxbriar_calls.specs.Handles.{fed_rows_in, stream_in}
use Rattle.zaxbriar_calls.specs.Limits.{are_known}
use Rattle.zaxbriar_calls.specs.Places.{places_of}
use Rattle.zaxbriar_calls.specs.ReadsInfo.{ReadsInfo}
use Rattle.zaxbriar_calls.specs.declared.extents.Extent.TheVariants.{Partial}
use Rattle.zaxbriar_calls.specs.declared.handle.Handle.{Handle}
use Rattle.zaxbriar_calls.specs.declared.handle.Handle.TheVariants.{Stream}
use Rattle.zaxbriar_calls.specs.declared.options.Options.{Options}
use Rattle.zaxbriar_calls.specs.declared.picture.Picture.{Picture}
use Rattle.zaxbriar_calls.specs.declared.places.Places.{Places}

-- A stream is held, of which there are no bytes yet, after OK, and nothing after any other result.
-- Options that don't exist are BAD_ARGUMENT, and nothing else is; there is no other result than
-- these two and NO_MEMORY.
pub record BeginsStream (o : Options) (code : ℕ) (held : Option Handle) : Type 0 where
  pub known : are_known o ≡ false → code ≡ 6
  pub wrong : code ≡ 6 → are_known o ≡ false
  pub number : (code ≡ 0) ⊎ ((code ≡ 4) ⊎ (code ≡ 6))
  pub stream : code ≡ 0 → held ≡ Some (Stream (record { options = o; bytes = [] }))
  pub none : (code ≡ 0 → ⊥) → held ≡ None

-- A piece comes after the bytes that have arrived before, after OK; or, after NO_MEMORY, none of it
-- was taken.
abbrev pub TakesPiece : Arrived → Option Handle → Option Handle → List ℕ → ℕ → Type 0
TakesPiece s old new piece code =
    ((code ≡ 0) × (new ≡ Some (Stream (record s { bytes = s.bytes ++ piece }))))
    ⊎ ((code ≡ 4) × (new ≡ old))

-- The stream that is held takes a piece, or what gives its lines. Where neither is, it is
-- BAD_ARGUMENT, here and below, and nothing changes.
abbrev pub TakesBytes : Option Handle → Option Handle → List ℕ → ℕ → Type 0
TakesBytes old new piece code =
    MatchOption (stream_in old)
    (MatchOption (fed_rows_in old) ((new ≡ old) × (code ≡ 6))
    (λ r. FeedsLines old new r piece code))
    (λ s. TakesPiece s old new piece code)

-- The picture of the stream that is held is described, as `read_info` describes that of all bytes
-- that have arrived.
abbrev pub DescribesArrived : Option Handle → Option Handle → Picture → Picture → ℕ → Type 0
DescribesArrived old new before after code =
    (new ≡ old) × MatchOption (stream_in old) ((after ≡ before) × (code ≡ 6))
    (λ s. ReadsInfo s.options s.bytes after code)

-- What they bring is decoded into the caller's memory, as `decode_partial` decodes it.
abbrev pub ShowsArrived : Option Handle → Option Handle → List ℕ → List ℕ → Picture → Picture → ℕ
    → Type 0
ShowsArrived old new before after told picture code =
    (new ≡ old) × MatchOption (stream_in old)
    ((after ≡ before) × (picture ≡ told) × (code ≡ 6))
    (λ s. Fills Partial s.options s.bytes before after picture code)

-- Their metadata are found, as `find_metadata` finds them.
abbrev pub FindsArrived : Option Handle → Option Handle → Places → Places → Type 0
FindsArrived old new before after =
    (new ≡ old) × MatchOption (stream_in old) (after ≡ before) (λ s. after ≡ places_of s.bytes)
