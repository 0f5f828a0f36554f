-- What the functions behind the calls say of their outcomes: of a description, and of a picture
-- that was decoded into the caller's memory.
use Rattle.std.specs.Prelude.{◌≡◌, ◌⊎◌, ◌<◌, ◌≤◌, ℕ, Bool, List, None, Result, Ok, Err, false}
use Rattle.std.specs.Prelude.{IfErr, IsErrAnd, OnOk, length, true}
use Rattle.jpeg_bits.specs.Reading.{Fault}
use Rattle.jpeg_meaning.specs.States.{Decoding}
use Rattle.jpeg_meaning.specs.Stream.{header_at}
use Rattle.zaxbriar_calls.specs.Crops.{part_rows}
use Rattle.zaxbriar_calls.specs.Faults.{IsArgument, IsFault, IsOfCall, IsOfReading, IsOfRoom}
use Rattle.zaxbriar_calls.specs.Faults.{IsOwn, IsPart}
use Rattle.zaxbriar_calls.specs.Given.{CountsImage, Gives, GivesPart, HasRows, KnowsExceeded}
use Rattle.zaxbriar_calls.specs.Given.{Reaches, bytes_needed, given_by, given_rest}
use Rattle.zaxbriar_calls.specs.Given.{rows_by, rows_rest}
use Rattle.zaxbriar_calls.specs.Layouts.{size_of_lines}
use Rattle.zaxbriar_calls.specs.Limits.{are_known, are_known_for}
use Rattle.zaxbriar_calls.specs.Meanings.{AreWrong, AreWrongFor, CountsRead, IsTooLarge, IsWithin}
use Rattle.zaxbriar_calls.specs.Meanings.{uncounted}
use Rattle.zaxbriar_calls.specs.Passes.{exceeds, exceeds_rest}
use Rattle.zaxbriar_calls.specs.Planes.{bytes_asked}
use Rattle.zaxbriar_calls.specs.declared.answers.Refusal.{Refusal}
use Rattle.zaxbriar_calls.specs.declared.answers.Refusal.TheVariants.{NoRoom, TooLarge}
use Rattle.zaxbriar_calls.specs.declared.extents.Extent.{Extent}
use Rattle.zaxbriar_calls.specs.declared.header.Header.{Header}
use Rattle.zaxbriar_calls.specs.declared.lines.Lines.{Lines}
use Rattle.zaxbriar_calls.specs.declared.options.Options.{Options}
use Rattle.zaxbriar_calls.specs.declared.picture.Picture.{Picture}

-- The picture of a stream was described by its header, and the bytes that were read are counted.
pub record DescribesStream {X : Type 0} (o : Options) (bytes : List ℕ) (old new : Picture)
    (outcome : Result X Refusal) : Type 0 where
  pub within : OnOk outcome (IsWithin o bytes (uncounted new))
  pub large : IfErr outcome (λ r. r ≡ TooLarge → IsTooLarge o bytes (uncounted new))
  pub counts : OnOk outcome (CountsRead (header_at bytes) bytes new.stream_bytes)
  pub header : IfErr outcome
      (λ r. r ≡ TooLarge → CountsRead (header_at bytes) bytes new.stream_bytes)
  pub most : old.stream_bytes ≡ 0 → new.stream_bytes ≤ length bytes
  pub rowless : old.whole_rows ≡ 0 → new.whole_rows ≡ 0
  pub limited : (size : Picture) → IsTooLarge o bytes size → IsErrAnd outcome IsOfCall
  pub roomless : IfErr outcome (λ r. r ≡ NoRoom → ⊥)
  pub named : IfErr outcome (IsFault (header_at bytes))
  pub whole : IfErr outcome (λ r. IsPart r → ⊥)
  pub known : are_known o ≡ false → IsErrAnd outcome IsArgument
  pub wrong : IfErr outcome (λ r. IsArgument r → AreWrong o bytes)
  pub unasked : are_known o ≡ false → new ≡ old
  pub kept : IfErr outcome (λ r. (r ≡ TooLarge → ⊥) → uncounted new ≡ uncounted old)

-- What is asked for of a stream was decoded into the caller's memory.
pub record DecodesInto (extent : Extent) (o : Options) (bytes before after : List ℕ)
    (old new : Picture) (outcome : Result ℕ Refusal) (exceeded : Bool) : Type 0 where
  pub given : OnOk outcome (Gives extent o bytes before after None new)
  pub part : IfErr outcome (GivesPart extent o bytes before after new)
  pub rows : HasRows (rows_by extent o bytes) outcome
  pub counts : OnOk outcome (CountsImage extent o bytes new.stream_bytes)
  pub header : IfErr outcome
      (λ r. IsOwn r → CountsRead (header_at bytes) bytes new.stream_bytes)
  pub most : old.stream_bytes ≡ 0 → new.stream_bytes ≤ length bytes
  pub named : IfErr outcome (IsFault (given_by extent o bytes))
  pub passes : KnowsExceeded (exceeds extent o bytes) outcome exceeded
  pub kept : IfErr outcome (λ r. (IsPart r → ⊥) → after ≡ before)
  pub within : OnOk outcome (IsWithin o bytes (uncounted new))
  pub described : IfErr outcome (λ r. IsPart r → IsWithin o bytes (uncounted new))
  pub room : IfErr outcome (λ r. r ≡ NoRoom
      → IsWithin o bytes (uncounted new) × (length before < bytes_needed extent new))
  pub large : IfErr outcome (λ r. r ≡ TooLarge → IsTooLarge o bytes (uncounted new))
  pub short : (size : Picture) → IsWithin o bytes size → length before < bytes_needed extent size
      → IsErrAnd outcome IsOfRoom
  pub limited : (size : Picture) → IsTooLarge o bytes size → IsErrAnd outcome IsOfCall
  pub known : are_known_for extent o ≡ false → IsErrAnd outcome IsArgument
  pub wrong : IfErr outcome (λ r. IsArgument r → AreWrongFor extent o bytes)
  pub unasked : are_known_for extent o ≡ false → new ≡ old
  pub undescribed : (fault : Fault) → header_at bytes ≡ Err fault → uncounted new ≡ uncounted old

-- the bytes of the caller's memory that are needed, by the header
abbrev pub room_of : Extent → Header → Lines → ℕ
room_of extent header lines = bytes_asked extent
    (size_of_lines lines.stride lines.row_bytes lines.height) header.planes.size

-- The caller's memory is too short for so many bytes: nothing is read or written.
pub record LacksRoom (needed : ℕ) (outcome : Result ℕ Refusal) (old new : Decoding)
    (before after : List ℕ) : Type 0 where
  pub short : length before < needed
  pub refused : outcome ≡ Err NoRoom
  pub unread : new ≡ old
  pub unwritten : after ≡ before

-- It isn't, and the rest of the stream was read.
pub record DecodesLines (extent : Extent) (needed : ℕ) (lines : Lines) (outcome : Result ℕ Refusal)
    (old new : Decoding) (before after : List ℕ) : Type 0 where
  pub fits : needed ≤ length before
  pub reaches : old.source.known ≡ true → Reaches extent lines outcome old new before after
  pub rows : old.source.known ≡ true
      → HasRows (part_rows lines.part (rows_rest extent old.settings old.found old.source.bytes))
      outcome
  pub named : old.source.known ≡ true
      → IfErr outcome (IsFault (given_rest extent old.settings old.found old.source.bytes))
  pub exceeded : old.source.known ≡ true → KnowsExceeded
      (exceeds_rest extent old.settings old.found old.source.bytes) outcome new.exceeded
  pub kept : IfErr outcome (λ r. (IsPart r → ⊥) → after ≡ before)
  pub own : IfErr outcome IsOfReading

-- A picture that was described is decoded where there is room for it. One that was refused stays
-- refused.
abbrev pub Continues : Extent → Result (Header × Lines) Refusal → Result ℕ Refusal → Decoding
    → Decoding → List ℕ → List ℕ → Type 0
Continues extent (Ok described) outcome old new before after =
    LacksRoom (room_of extent described.0 described.1) outcome old new before after
    ⊎ DecodesLines extent (room_of extent described.0 described.1) described.1 outcome old new
    before after
Continues extent (Err refusal) outcome old new before after =
    (outcome ≡ Err refusal) × (new ≡ old) × (after ≡ before)
