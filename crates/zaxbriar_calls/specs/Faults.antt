-- What a refusal says of the bytes of a stream, and its number.
use Rattle.std.specs.Prelude.{◌≡◌, ◌⊎◌, ◌++◌, ℕ, Bool, List, Result, Ok, Err, drop}
use Rattle.std.specs.Prelude.{length, min, replicate, take, ◌==◌, ◌&&◌, if◌then◌else◌}
use Rattle.jpeg_bits.specs.Reading.{Fault, Malformed, Lacks, End, IsGivenUp, Names}
use Rattle.jpeg_bits.specs.declared.error.Error.{Error}
use Rattle.jpeg_bits.specs.declared.error.Error.TheVariants as errors
use Rattle.jpeg_bits.specs.declared.error.UnsupportedFeature.{UnsupportedFeature}
use Rattle.zaxbriar_calls.specs.declared.answers.Refusal.{Refusal}
use Rattle.zaxbriar_calls.specs.declared.answers.Refusal.TheVariants.{Stream, Argument, NoRoom}
use Rattle.zaxbriar_calls.specs.declared.answers.Refusal.TheVariants.{Part, Reader, TooLarge}

-- A refusal of a stream names the fault of its bytes.
abbrev pub IsFault : {Y : Type 0} → Result Y Fault → Refusal → Type 0
IsFault outcome (Stream e) = Names e outcome
IsFault outcome (Part e rows) = Unit {0}
IsFault outcome Reader = Unit {0}
IsFault outcome (Argument text) = Unit {0}
IsFault outcome NoRoom = Unit {0}
IsFault outcome TooLarge = Unit {0}

-- A refusal of the arguments.
abbrev pub IsArgument : Refusal → Type 0
IsArgument (Argument text) = Unit {0}
IsArgument _ = ⊥

-- A refusal of a call to a decoder: of the stream, or because of the reader.
abbrev pub IsOfDecoder : Refusal → Type 0
IsOfDecoder (Stream e) = Unit {0}
IsOfDecoder Reader = Unit {0}
IsOfDecoder _ = ⊥

-- A refusal of a call to a decoder, or else a part of a stream.
abbrev pub IsOfReading : Refusal → Type 0
IsOfReading (Part e rows) = Unit {0}
IsOfReading r = IsOfDecoder r

-- No refusal: a part of a stream was written.
abbrev pub IsPart : Refusal → Type 0
IsPart (Part e rows) = Unit {0}
IsPart _ = ⊥

-- A refusal of a picture for its size: it is longer than the buffer, or above a limit.
abbrev pub IsOwn : Refusal → Type 0
IsOwn NoRoom = Unit {0}
IsOwn TooLarge = Unit {0}
IsOwn _ = ⊥

-- A refusal because the buffer is too small, by the arguments, because of the reader, or for lack
-- of memory.
abbrev pub IsOfRoom : Refusal → Type 0
IsOfRoom (Stream e) = e ≡ errors.OutOfMemory
IsOfRoom (Part e rows) = ⊥
IsOfRoom Reader = Unit {0}
IsOfRoom (Argument text) = Unit {0}
IsOfRoom NoRoom = Unit {0}
IsOfRoom TooLarge = ⊥

-- A refusal by the limits, by the arguments, because of the reader, or for lack of memory.
abbrev pub IsOfCall : Refusal → Type 0
IsOfCall (Stream e) = e ≡ errors.OutOfMemory
IsOfCall (Part e rows) = ⊥
IsOfCall Reader = Unit {0}
IsOfCall (Argument text) = Unit {0}
IsOfCall NoRoom = ⊥
IsOfCall TooLarge = Unit {0}

-- A refusal stands for an error of a decoder: it is one because of the reader where this, a read of
-- which has failed or not, was given up, and otherwise that error.
abbrev pub StandsFor : Error → Bool → Refusal → Type 0
StandsFor error failed (Stream e) = (e ≡ error) × (IsGivenUp error failed → ⊥)
StandsFor error failed Reader = IsGivenUp error failed
StandsFor error failed _ = ⊥

-- The number of an error, of a refusal, and of an outcome. A reader over memory is never given up,
-- so that no caller gets its number, which is that of the only other refusal in which the bytes and
-- the arguments have no part.
abbrev pub error_code : Error → ℕ
error_code (errors.Format text) = 1
error_code (errors.Unsupported feature) = 2
error_code (errors.Io e) = 3
error_code errors.OutOfMemory = 4
error_code (errors.Internal text) = 6

abbrev pub fault_code : Refusal → ℕ
fault_code (Stream e) = error_code e
fault_code (Part e rows) = 9
fault_code Reader = 4
fault_code (Argument text) = 6
fault_code NoRoom = 5
fault_code TooLarge = 8

-- The number of an answer: that of a broken rule is 10, TOO_MANY_PASSES, where the decoder says
-- that it refused a scan for its blocks.
abbrev pub with_passes : Bool → ℕ → ℕ
with_passes exceeded code = if exceeded && code == 1 then 10 else code

abbrev pub status_of : {X : Type 0} → Result X Refusal → ℕ
status_of (Ok x) = 0
status_of (Err r) = fault_code r

-- the number of what a reading of bytes comes to
abbrev pub reading_code : {X : Type 0} → Result X Fault → ℕ
reading_code (Ok x) = 0
reading_code (Err Malformed) = 1
reading_code (Err (Lacks feature)) = 2
reading_code (Err End) = 3

-- the number of the fault of which an outcome tells beside a part of the stream
abbrev pub outcome_fault : {X : Type 0} → Result X Refusal → ℕ
outcome_fault (Err (Part e rows)) = error_code e
outcome_fault _ = 0

-- how many rows are complete of a picture that was written, or of a part of it
abbrev pub outcome_rows : Result ℕ Refusal → ℕ
outcome_rows (Ok rows) = rows
outcome_rows (Err (Part e rows)) = rows
outcome_rows _ = 0

-- Where a number is that of a fault, it is the fault of the bytes.
abbrev pub IsNamed : {Y : Type 0} → ℕ → Result Y Fault → Type 0
IsNamed code read = (code ≡ 1 → read ≡ Err Malformed)
    × (code ≡ 2 → (feature : UnsupportedFeature) × (read ≡ Err (Lacks feature)))
    × (code ≡ 3 → read ≡ Err End)

-- A number is that of a refusal for lack of memory, or by the arguments, or else by the limits; and
-- that of one for lack of room in place of the limits.
abbrev pub IsOfCallNumber : ℕ → Type 0
IsOfCallNumber code = (code ≡ 8) ⊎ ((code ≡ 4) ⊎ (code ≡ 6))

abbrev pub IsOfRoomNumber : ℕ → Type 0
IsOfRoomNumber code = (code ≡ 5) ⊎ ((code ≡ 4) ⊎ (code ≡ 6))

-- as much of a text as fits into 111 bytes, and zeros after it, 112 bytes in all
abbrev pub padded : List ℕ → List ℕ
padded text =
    let count = min (length text) 111 in take count text ++ drop count (replicate 112 0)
