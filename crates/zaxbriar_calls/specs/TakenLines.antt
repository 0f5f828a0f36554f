-- What the calls do that give the lines of a picture one by one, as its stream is read.
use Rattle.std.specs.Prelude.{◌≡◌, ◌⊎◌, ◌++◌, ◌<◌, ◌≤◌, ◌&&◌, ◌==◌, ◌*◌, ℕ, Bool, List, []}
use Rattle.std.specs.Prelude.{Result, Ok, Err, drop, false, length, not, option_map, take}
use Rattle.std.specs.Prelude.{replicate, slice_index, true}
use Rattle.std.specs.Option.{MatchOption}
use Rattle.std.specs.declared.option.Option.{Option}
use Rattle.std.specs.declared.option.Option.TheVariants.{None, Some}
use Rattle.jpeg_bits.specs.declared.error.Error.{Error}
use Rattle.jpeg_decoder.specs.Bytes.{line_bytes, shape_in}
use Rattle.jpeg_decoder.specs.DecodesRows.{DecodesRows}
use Rattle.jpeg_decoder.specs.Rows.{AreGiven, lines_in}
use Rattle.jpeg_meaning.specs.States.{Decoding}
use Rattle.jpeg_meaning.specs.declared.progress.Progress.TheVariants.{HeaderRead}
use Rattle.zaxbriar_calls.specs.Boxed.{is_fitted}
use Rattle.zaxbriar_calls.specs.Crops.{is_cropped}
use Rattle.zaxbriar_calls.specs.Faults.{StandsFor, fault_code, with_passes}
use Rattle.zaxbriar_calls.specs.Features.{feature_of, numbered}
use Rattle.zaxbriar_calls.specs.Handles.{rows_in}
use Rattle.zaxbriar_calls.specs.Limits.{are_known}
use Rattle.zaxbriar_calls.specs.Meanings.{ReadsHeader, as_described, no_picture}
use Rattle.zaxbriar_calls.specs.ReadsInfo.{ReadsInfo}
use Rattle.zaxbriar_calls.specs.declared.answers.Refusal.{Refusal}
use Rattle.zaxbriar_calls.specs.declared.handle.Handle.{Handle}
use Rattle.zaxbriar_calls.specs.declared.options.Options.{Options}
use Rattle.zaxbriar_calls.specs.declared.picture.Picture.{Picture}
use Rattle.zaxbriar_calls.specs.declared.rows.Reason.{Reason}
use Rattle.zaxbriar_calls.specs.declared.rows.RowReader.{RowReader}

-- whether no option asks for another arrangement of samples than the decoder's
abbrev pub is_plain : Options → Bool
is_plain o = o.stride == 0 && (o.layout == 0 && (o.bottom_up == 0 && (o.upright == 0
    && (o.luma == 0 && (not (is_cropped o) && not (is_fitted o))))))

-- whether all options exist for lines as they come
abbrev pub are_for_rows : Options → Bool
are_for_rows o = are_known o && is_plain o

-- This many bytes are those of whole lines, each of so many.
abbrev pub AreOfLines : ℕ → ℕ → Type 0
AreOfLines line_bytes bytes = (count : ℕ) × (bytes ≡ count * line_bytes)

-- Lines are given of what lay ahead of a decoder after its header, and these bytes of them were
-- taken so far: whole lines, each of the bytes of a line of its picture.
pub record AreTaken (start : Decoding) (bytes : List ℕ) (r : RowReader) : Type 0 where
  pub given : List ℕ
  pub are : AreGiven start given r.rows.decoder r.rows.ahead
  pub taken : given ≡ bytes ++ drop r.taken (lines_in r.rows.ahead)
  pub stage : start.stage ≡ HeaderRead
  pub line : option_map line_bytes (shape_in start) ≡ Some r.line_bytes
  pub there : AreOfLines r.line_bytes (length (lines_in r.rows.ahead))
  pub whole : AreOfLines r.line_bytes r.taken

-- Nothing was refused.
abbrev pub no_reason : Reason
no_reason = record { feature = numbered 0 0; text = replicate 112 0 }

-- A reader whose header was read: the lines of its picture lie ahead.
pub record BeginsRows (o : Options) (bytes : List ℕ) (picture : Picture) (r : RowReader) : Type 0
  where
    pub before : Decoding
    pub known : before.source.known ≡ true
    pub stream : before.source.bytes ≡ bytes
    pub header : ReadsHeader o before r.rows.decoder
    pub taken : AreTaken r.rows.decoder [] r
    pub line_bytes : r.line_bytes ≡ picture.row_bytes
    pub answer : r.answer ≡ 0
    pub reason : r.reason ≡ no_reason

-- After these bytes were taken, a line may be there, none is left, or the stream was refused.
abbrev pub ReachesLine : Decoding → List ℕ → Result Bool Error → RowReader → Type 0
ReachesLine start bytes (Ok true) new = AreTaken start bytes new
ReachesLine start bytes (Ok false) new = DecodesRows start (Ok tt) new.rows.decoder bytes
ReachesLine start bytes (Err e) new = DecodesRows start (Err e) new.rows.decoder bytes

-- A line was written before what the caller's memory had after it, and was taken.
pub record PutsLine (old new : RowReader) (before after : List ℕ) : Type 0 where
  pub taken : (start : Decoding) (bytes : List ℕ) → AreTaken start bytes old
      → AreTaken start (bytes ++ take old.line_bytes after) new
  pub rest : drop old.line_bytes after ≡ drop old.line_bytes before
  pub line_bytes : new.line_bytes ≡ old.line_bytes
  pub answer : new.answer ≡ old.answer
  pub reason : new.reason ≡ old.reason

-- ---- the outcomes of a call

-- OK: the next line was written.
pub record TakesOne (old new : RowReader) (before after : List ℕ) (code : ℕ) : Type 0 where
  pub is : code ≡ 0
  pub line : PutsLine old new before after

-- END: all lines were taken, and the stream has no fault.
pub record EndsLines (old new : RowReader) (before after : List ℕ) (code : ℕ) : Type 0 where
  pub is : code ≡ 11
  pub decodes : (start : Decoding) (bytes : List ℕ) → AreTaken start bytes old
      → DecodesRows start (Ok tt) new.rows.decoder bytes
  pub answer : new.answer ≡ 11
  pub reason : new.reason ≡ old.reason
  pub kept : after ≡ before

-- A reader has ended with the refusal for an error: it has its number, the feature that it names,
-- and its text, which ends by a zero.
pub record SaysWhy (error : Error) (code : ℕ) (r : RowReader) : Type 0 where
  pub refusal : Refusal
  pub stands : StandsFor error r.rows.decoder.source.failed refusal
  pub is : code ≡ with_passes r.rows.decoder.exceeded (fault_code refusal)
  pub answer : r.answer ≡ code
  pub feature : r.reason.feature ≡ feature_of refusal
  pub ended : slice_index r.reason.text 111 ≡ 0

-- The stream was refused, after the lines that were taken.
pub record IsRefused (old new : RowReader) (before after : List ℕ) (code : ℕ) : Type 0 where
  pub error : Error
  pub why : SaysWhy error code new
  pub decodes : (start : Decoding) (bytes : List ℕ) → AreTaken start bytes old
      → DecodesRows start (Err error) new.rows.decoder bytes
  pub kept : after ≡ before

-- nothing happened
abbrev pub Stays : RowReader → RowReader → List ℕ → List ℕ → Type 0
Stays old new before after = (new ≡ old) × (after ≡ before)

pub record TakesLine (old new : RowReader) (before after : List ℕ) (code : ℕ) : Type 0 where
  -- A reader that has ended answers the same again.
  pub over : (old.answer ≡ 0 → ⊥) → (code ≡ old.answer) × Stays old new before after
  -- NO_ROOM: the caller's memory is shorter than a line.
  pub short : old.answer ≡ 0 → length before < old.line_bytes
      → (code ≡ 5) × Stays old new before after
  pub takes : old.answer ≡ 0 → old.line_bytes ≤ length before
      → TakesOne old new before after code
      ⊎ (EndsLines old new before after code ⊎ IsRefused old new before after code)

-- ---- the calls, with a reader that is held between them

-- A reader is held whose header was read.
abbrev pub KeepsRows : Options → List ℕ → Picture → Option Handle → Type 0
KeepsRows o bytes picture held = MatchOption (rows_in held) ⊥ (BeginsRows o bytes picture)

-- A reader is held where a stream was begun, and nothing where none was. The picture is described
-- as `read_info` describes it.
pub record BeginsReading (o : Options) (bytes : List ℕ) (picture : Picture) (code : ℕ)
    (held : Option Handle) : Type 0 where
  pub described : are_for_rows o ≡ true → ReadsInfo o bytes picture code
  pub unknown : are_for_rows o ≡ false → (code ≡ 6) × (as_described picture ≡ no_picture)
  pub reader : code ≡ 0 → KeepsRows o bytes picture held
  pub none : (code ≡ 0 → ⊥) → held ≡ None

-- A line of the reader that is held was taken. Where none is, it is BAD_ARGUMENT, and nothing
-- changes.
abbrev pub TakesNext : Option Handle → Option Handle → List ℕ → List ℕ → ℕ → Type 0
TakesNext old new before after code =
    MatchOption (rows_in old) ((new ≡ old) × (after ≡ before) × (code ≡ 6))
    (λ r. MatchOption (rows_in new) ⊥ (λ s. TakesLine r s before after code))

-- a picture that says why a stream was refused, and is otherwise as it was
abbrev pub telling : Reason → Picture → Picture
telling reason picture = record picture {
  feature = reason.feature.number;
  feature_argument = reason.feature.argument;
  text = reason.text;
}

-- A picture gets what the reader that is held says of its refusal; the number is that with which it
-- has ended, or 0 before. Where none is, it is BAD_ARGUMENT, and nothing changes.
abbrev pub TellsRefusal : Option Handle → Option Handle → Picture → Picture → ℕ → Type 0
TellsRefusal old new before after code =
    (new ≡ old) × MatchOption (rows_in old) ((after ≡ before) × (code ≡ 6))
    (λ r. (after ≡ telling r.reason before) × (code ≡ r.answer))
