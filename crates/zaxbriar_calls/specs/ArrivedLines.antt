-- What the calls do that give the lines of a picture one by one while the bytes of its stream
-- arrive.
use Rattle.std.specs.Prelude.{◌≡◌, ◌⊎◌, ◌++◌, ◌<◌, ◌&&◌, ◌*◌, ℕ, Bool, List, []}
use Rattle.std.specs.Prelude.{drop, false, length, slice_index, take, true, Result, Ok, Err}
use Rattle.std.specs.Prelude.{OnErr, OnOk}
use Rattle.std.specs.Option.{MatchOption}
use Rattle.std.specs.declared.option.Option.{Option}
use Rattle.std.specs.declared.option.Option.TheVariants.{Some}
use Rattle.jpeg_bits.specs.declared.error.Error.{Error}
use Rattle.jpeg_bits.specs.declared.error.Error.TheVariants.{OutOfMemory}
use Rattle.jpeg_decoder.specs.FedRows.{AreFedTo, HasDecoded, HasRefused, fed_start, line_size}
use Rattle.jpeg_decoder.specs.FedRows.{lines_in}
use Rattle.jpeg_decoder.specs.declared.fed_rows.Given.{Given}
use Rattle.jpeg_decoder.specs.declared.fed_rows.Given.TheVariants as gives
use Rattle.jpeg_meaning.specs.Found.{Found}
use Rattle.jpeg_meaning.specs.Stream.{header_at}
use Rattle.jpeg_meaning.specs.declared.settings.Settings.{Settings}
use Rattle.zaxbriar_calls.specs.Arrived.{Arrived}
use Rattle.zaxbriar_calls.specs.Faults.{fault_code, with_passes}
use Rattle.zaxbriar_calls.specs.Features.{feature_of}
use Rattle.zaxbriar_calls.specs.Handles.{fed_rows_in, stream_in}
use Rattle.zaxbriar_calls.specs.Limits.{is_full_size}
use Rattle.zaxbriar_calls.specs.Meanings.{as_described, found_at, no_picture, settings_at}
use Rattle.zaxbriar_calls.specs.Outcomes.{DescribesStream}
use Rattle.zaxbriar_calls.specs.ReadsInfo.{ReadsInfo}
use Rattle.zaxbriar_calls.specs.declared.answers.Refusal.{Refusal}
use Rattle.zaxbriar_calls.specs.TakenLines.{are_for_rows, no_reason, telling}
use Rattle.zaxbriar_calls.specs.declared.answers.Refusal.TheVariants.{Stream}
use Rattle.zaxbriar_calls.specs.declared.fed_rows.FedRowReader.{FedRowReader}
use Rattle.zaxbriar_calls.specs.declared.handle.Handle.{Handle}
use Rattle.zaxbriar_calls.specs.declared.options.Options.{Options}
use Rattle.zaxbriar_calls.specs.declared.picture.Picture.{Picture}

-- whether all options exist for lines that come while their bytes arrive
abbrev pub are_for_fed_rows : Options → Bool
are_for_fed_rows o = are_for_rows o && is_full_size o

-- Of the lines of the bytes that were fed these bytes were taken so far, which are whole lines.
pub record AreTakenFed (fed bytes : List ℕ) (r : FedRowReader) : Type 0 where
  pub given : List ℕ
  pub are : AreFedTo fed given r.rows
  pub taken : given ≡ bytes ++ drop r.taken (lines_in r.rows.ahead)
  pub count : ℕ
  pub whole : r.taken ≡ count * line_size r.rows

-- whatever was fed and taken of one is of another
abbrev pub Keeps : FedRowReader → FedRowReader → Type 0
Keeps old new = (fed bytes : List ℕ) → AreTakenFed fed bytes old → AreTakenFed fed bytes new

-- Settings are those of the options at the header of some bytes.
pub record AreSettingsAt (o : Options) (bytes : List ℕ) (settings : Settings) : Type 0 where
  pub header : Found
  pub rest : List ℕ
  pub reads : header_at bytes ≡ Ok (header, rest)
  pub are : settings ≡ settings_at o (found_at o header)

-- A reader begins: it has all bytes that have arrived, and goes by the options at their header.
pub record BeginsFedRows (o : Options) (bytes : List ℕ) (r : FedRowReader) : Type 0 where
  pub settings : AreSettingsAt o bytes r.rows.settings
  pub taken : AreTakenFed bytes [] r
  pub unended : r.rows.has_ended ≡ false
  pub answer : r.answer ≡ 0
  pub reason : r.reason ≡ no_reason

-- ---- the next line

-- After these bytes were taken, a line may be there, or more bytes are needed, none is left, or the
-- stream was refused.
abbrev pub ReachesFed : List ℕ → List ℕ → Result Given Error → FedRowReader → Type 0
ReachesFed fed bytes (Ok gives.Lines) new = AreTakenFed fed bytes new
ReachesFed fed bytes (Ok gives.Waiting) new =
    (new.rows.has_ended ≡ false) × AreTakenFed fed bytes new
ReachesFed fed bytes (Ok gives.End) new =
    (new.rows.has_ended ≡ true)
    × HasDecoded (fed_start new.rows.settings fed) bytes new.rows.found.said
ReachesFed fed bytes (Err e) new = (e ≡ OutOfMemory) ⊎ ((new.rows.has_ended ≡ true)
    × HasRefused (fed_start new.rows.settings fed) e bytes new.rows.exceeded)

-- OK: the next line was written before what the caller's memory had after it, and was taken.
pub record TakesFed (old new : FedRowReader) (before after : List ℕ) (code : ℕ) : Type 0 where
  pub is : code ≡ 0
  pub line : (fed bytes : List ℕ) → AreTakenFed fed bytes old
      → AreTakenFed fed (bytes ++ take (line_size new.rows) after) new
  pub rest : drop (line_size new.rows) after ≡ drop (line_size new.rows) before
  pub answer : new.answer ≡ old.answer
  pub reason : new.reason ≡ old.reason

-- NO_ROOM: the next line is there, and is longer than the caller's memory.
pub record LacksRoom (old new : FedRowReader) (before after : List ℕ) (code : ℕ) : Type 0 where
  pub is : code ≡ 5
  pub keeps : Keeps old new
  pub short : length before < line_size new.rows
  pub answer : new.answer ≡ old.answer
  pub reason : new.reason ≡ old.reason
  pub kept : after ≡ before

-- WAITING: the next line isn't there, and more bytes may come.
pub record Waits (old new : FedRowReader) (before after : List ℕ) (code : ℕ) : Type 0 where
  pub is : code ≡ 12
  pub keeps : Keeps old new
  pub unended : (fed bytes : List ℕ) → AreTakenFed fed bytes old → new.rows.has_ended ≡ false
  pub answer : new.answer ≡ old.answer
  pub reason : new.reason ≡ old.reason
  pub kept : after ≡ before

-- END: all lines were taken, and the stream has no fault.
pub record EndsFed (old new : FedRowReader) (before after : List ℕ) (code : ℕ) : Type 0 where
  pub is : code ≡ 11
  pub ended : (fed bytes : List ℕ) → AreTakenFed fed bytes old → new.rows.has_ended ≡ true
  pub decodes : (fed bytes : List ℕ) → AreTakenFed fed bytes old
      → HasDecoded (fed_start new.rows.settings fed) bytes new.rows.found.said
  pub answer : new.answer ≡ 11
  pub reason : new.reason ≡ old.reason
  pub kept : after ≡ before

-- The stream was refused, after the lines that were taken, or memory ran out. Its feature and its
-- text, which ends by a zero, are told from now on.
pub record RefusesFed (old new : FedRowReader) (before after : List ℕ) (code : ℕ) : Type 0 where
  pub error : Error
  pub is : code ≡ with_passes new.rows.exceeded (fault_code (Stream error))
  pub decodes : (fed bytes : List ℕ) → AreTakenFed fed bytes old
      → ReachesFed fed bytes (Err error) new
  pub answer : new.answer ≡ code
  pub feature : new.reason.feature ≡ feature_of (Stream error)
  pub text : slice_index new.reason.text 111 ≡ 0
  pub kept : after ≡ before

-- The next line is there, and was written if the caller's memory has room.
abbrev pub PutsFedLine : FedRowReader → FedRowReader → List ℕ → List ℕ → ℕ → Type 0
PutsFedLine old new before after code =
    TakesFed old new before after code ⊎ LacksRoom old new before after code

pub record TakesFedLine (old new : FedRowReader) (before after : List ℕ) (code : ℕ) : Type 0 where
  -- A reader that has ended answers the same again.
  pub over : (old.answer ≡ 0 → ⊥) → (code ≡ old.answer) × (new ≡ old) × (after ≡ before)
  pub takes : old.answer ≡ 0 → TakesFed old new before after code
      ⊎ (LacksRoom old new before after code ⊎ (Waits old new before after code
      ⊎ (EndsFed old new before after code ⊎ RefusesFed old new before after code)))
  -- The settings stay, and no byte is fed by it.
  pub settings : new.rows.settings ≡ old.rows.settings
  pub ended : new.rows.has_ended ≡ old.rows.has_ended

-- ---- the calls, with a reader that is held between them

-- The stream that is held gives lines from now on, after OK; after any other result nothing has
-- changed. The picture is described as `read_info` describes that of all bytes that have arrived.
pub record BeginsLines (s : Arrived) (old new : Option Handle) (picture : Picture) (code : ℕ)
    : Type 0 where
  pub described : are_for_fed_rows s.options ≡ true → ReadsInfo s.options s.bytes picture code
  pub unknown : are_for_fed_rows s.options ≡ false
      → (code ≡ 6) × (as_described picture ≡ no_picture)
  pub reader : code ≡ 0
      → MatchOption (fed_rows_in new) ⊥ (BeginsFedRows s.options s.bytes)
  pub none : (code ≡ 0 → ⊥) → new ≡ old

-- Where no stream is held, it is BAD_ARGUMENT, here and below, and nothing changes.
abbrev pub BeginsFedReading : Option Handle → Option Handle → Picture → Picture → ℕ → Type 0
BeginsFedReading old new before picture code =
    MatchOption (stream_in old) ((new ≡ old) × (picture ≡ before) × (code ≡ 6))
    (λ s. BeginsLines s old new picture code)

-- A reader takes a piece after OK; or none of it after NO_MEMORY, nor after its end was said:
-- BAD_ARGUMENT.
abbrev pub FeedsLines : Option Handle → Option Handle → FedRowReader → List ℕ → ℕ → Type 0
FeedsLines held holds old piece code = ((code ≡ 0) × (old.rows.has_ended ≡ false)
    × MatchOption (fed_rows_in holds) ⊥ (λ new. ((fed bytes : List ℕ) → AreTakenFed fed bytes old
    → AreTakenFed (fed ++ piece) bytes new) × (new.rows.settings ≡ old.rows.settings)
    × (new.rows.has_ended ≡ false) × (new.answer ≡ old.answer) × (new.reason ≡ old.reason)))
    ⊎ (((code ≡ 4) × (holds ≡ held))
    ⊎ ((code ≡ 6) × (old.rows.has_ended ≡ true) × (holds ≡ held)))

abbrev pub TakesFedNext : Option Handle → Option Handle → List ℕ → List ℕ → ℕ → Type 0
TakesFedNext old new before after code =
    MatchOption (fed_rows_in old) ((new ≡ old) × (after ≡ before) × (code ≡ 6))
    (λ r. MatchOption (fed_rows_in new) ⊥ (λ s. TakesFedLine r s before after code))

-- No more bytes come to a reader.
pub record EndsBytes (old new : FedRowReader) : Type 0 where
  pub keeps : Keeps old new
  pub ended : new.rows.has_ended ≡ true
  pub settings : new.rows.settings ≡ old.rows.settings
  pub answer : new.answer ≡ old.answer
  pub reason : new.reason ≡ old.reason

abbrev pub EndsFedBytes : Option Handle → Option Handle → ℕ → Type 0
EndsFedBytes old new code = MatchOption (fed_rows_in old) ((new ≡ old) × (code ≡ 6))
    (λ r. (code ≡ 0) × MatchOption (fed_rows_in new) ⊥ (EndsBytes r))

-- A picture gets what the reader says of its refusal; the number is that with which it has ended,
-- or 0 before.
abbrev pub TellsFedRefusal : Option Handle → Option Handle → Picture → Picture → ℕ → Type 0
TellsFedRefusal old new before after code =
    (new ≡ old) × MatchOption (fed_rows_in old) ((after ≡ before) × (code ≡ 6))
    (λ r. (after ≡ telling r.reason before) × (code ≡ r.answer))

-- ---- what the code's own clauses need

-- A stream is held whose options exist for lines.
abbrev pub IsStreamForLines : Handle → Type 0
IsStreamForLines held =
    MatchOption (stream_in (Some held)) ⊥ (λ s. are_for_fed_rows s.options ≡ true)

-- A reader is held in its place, or nothing has changed.
abbrev pub BeginsHeldLines : Handle → Handle → Picture → Result (Unit {0}) Refusal → Type 0
BeginsHeldLines old new picture result = MatchOption (stream_in (Some old)) ⊥
    (λ s. DescribesStream s.options s.bytes no_picture picture result
    × OnOk result (MatchOption (fed_rows_in (Some new)) ⊥ (BeginsFedRows s.options s.bytes))
    × OnErr result (new ≡ old))
