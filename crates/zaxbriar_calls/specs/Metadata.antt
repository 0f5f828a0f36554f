-- The metadata that a caller is given.
use Rattle.std.specs.Prelude.{◌≡◌, ◌⊎◌, ◌==◌, ◌-◌, ℕ, suc, Bool, true, false, List, ◌++◌, drop}
use Rattle.std.specs.Prelude.{length, ◌≤◌}
use Rattle.std.specs.Prelude.{Option, Some, None, Result, Ok, Err, ◌<◌, nat_le, if◌then◌else◌}
use Rattle.jpeg_bits.specs.Reading.{Fault}
use Rattle.jpeg_meaning.specs.Found.{Metadata}
use Rattle.jpeg_meaning.specs.Output.{default_settings}
use Rattle.jpeg_meaning.specs.Profile.{profile_of}
use Rattle.jpeg_meaning.specs.Reported.{told_by_turns}
use Rattle.jpeg_meaning.specs.Stream.{Told, header_at, meaning_within}
use Rattle.zaxbriar_calls.specs.Limits.{blocks_of_passes}

-- whether a kind asks for the segments of a whole image, as 16 added to it does, and not for those
-- of a header alone
abbrev pub is_whole : ℕ → Bool
is_whole kind = nat_le 16 kind

-- the kind without this 16
abbrev pub kind_alone : ℕ → ℕ
kind_alone kind = if is_whole kind then kind - 16 else kind

-- A kind doesn't exist.
abbrev pub IsNoKind : ℕ → Type 0
IsNoKind kind = (kind_alone kind ≡ 0) ⊎ (3 < kind_alone kind)

-- what was said of a kind: 1 Exif, 2 XMP, 3 an ICC profile
abbrev pub metadata_of : ℕ → Metadata → Option (List ℕ)
metadata_of kind said = if kind == 1 then said.exif
    else (if kind == 2 then said.xmp
    else (if kind == 3 then profile_of said.icc else None))

-- How many blocks the scans of a stream may code that go so many times over its picture, if there
-- is a limit. Without a header there are no scans.
abbrev pub limit_in : ℕ → List ℕ → Option ℕ
limit_in passes stream = elim (header_at stream) [
  | Ok header ↦ blocks_of_passes passes header.0.said.frame
  | Err fault ↦ None
]

-- what a stream has told by the end or the refusal of its image, with so many passes, or of its
-- header
abbrev pub told_at : ℕ → Bool → List ℕ → Told
told_at passes true stream =
    told_by_turns (limit_in passes stream) (suc (length stream)) false stream
told_at passes false stream = told_by_turns None (suc (length stream)) true stream

-- what it has then said of a kind
abbrev pub said_of : ℕ → ℕ → List ℕ → Option (List ℕ)
said_of passes kind stream =
    metadata_of (kind_alone kind) (told_at passes (is_whole kind) stream).metadata

-- whether a reading comes to its end, or the fault that it comes to
abbrev pub end_of : {X : Type 0} → Result X Fault → Result (Unit {0}) Fault
end_of (Ok x) = Ok tt
end_of (Err fault) = Err fault

-- that of a whole image, with so many passes, or of a header alone
abbrev pub end_at : ℕ → Bool → List ℕ → Result (Unit {0}) Fault
end_at passes true stream =
    end_of (meaning_within (limit_in passes stream) default_settings stream)
end_at passes false stream = end_of (header_at stream)

-- Data are at the beginning of a buffer whose other bytes stay, and they are counted.
pub record IsCopied (found : Option (List ℕ)) (old new : List ℕ) (count : ℕ) : Type 0 where
  pub bytes : List ℕ
  pub are : found ≡ Some bytes
  pub buffer : new ≡ bytes ++ drop (length bytes) old
  pub count_is : count ≡ length bytes

-- Data are longer than so many bytes, and they are counted.
pub record IsLonger (found : Option (List ℕ)) (room count : ℕ) : Type 0 where
  pub bytes : List ℕ
  pub are : found ≡ Some bytes
  pub longer : room < length bytes
  pub count_is : count ≡ length bytes

-- Data were copied to a buffer, after OK, and their number of bytes to a count, also after NO_ROOM;
-- or there are none, after NO_DATA.
pub record Copies (found : Option (List ℕ)) (old new : List ℕ) (before count code : ℕ)
    : Type 0 where
  pub copied : code ≡ 0 → IsCopied found old new count
  pub none : code ≡ 7 → found ≡ None
  pub room : code ≡ 5 → IsLonger found (length old) count
  pub own : code < 4 → code ≡ 0
  pub known : code ≡ 6 → ⊥
  pub most : code ≤ 7
  pub uncounted : (code ≡ 0 → ⊥) → (code ≡ 5 → ⊥) → count ≡ before
  pub kept : (code ≡ 0 → ⊥) → new ≡ old
