-- What a call with some options gives of a stream: the whole of its picture, what it has brought
-- of it up to its first fault, or its planes.
use Rattle.std.specs.Prelude.{◌≡◌, ℕ, Bool, List, Option, Some, None, Ok, Err, Result}
use Rattle.std.specs.Prelude.{option_map, replicate}
use Rattle.std.specs.List.{concat}
use Rattle.jpeg_bits.specs.Reading.{◌>>=◌, Fault, Lacks, Names}
use Rattle.jpeg_bits.specs.declared.error.Error.{Error}
use Rattle.jpeg_bits.specs.declared.error.Error.TheVariants as errors
use Rattle.jpeg_decoder.specs.Reaching.{NamesFault}
use Rattle.jpeg_meaning.specs.Found.{Found, Said}
use Rattle.jpeg_meaning.specs.Pixels.{info_by}
use Rattle.jpeg_meaning.specs.Shown.{Shown, shown_rest_within, whole_rows_rest}
use Rattle.jpeg_meaning.specs.States.{Decoding, IfRefused}
use Rattle.jpeg_meaning.specs.Stream.{Told, header_at, rest_by, told_of}
use Rattle.jpeg_meaning.specs.declared.images.ImageInfo.{ImageInfo}
use Rattle.jpeg_meaning.specs.declared.settings.Settings.{Settings}
use Rattle.zaxbriar_calls.specs.Features.{NamesFeature, feature_in, numbered}
use Rattle.zaxbriar_calls.specs.Crops.{part_rows}
use Rattle.zaxbriar_calls.specs.Lines.{Arranged, part_given}
use Rattle.zaxbriar_calls.specs.Meanings.{CountsRead, StandsAfter, found_at, meaning_by}
use Rattle.zaxbriar_calls.specs.Meanings.{orientation_by, planes_by, planes_rest, settings_at}
use Rattle.zaxbriar_calls.specs.Meanings.{settings_of}
use Rattle.zaxbriar_calls.specs.Passes.{fault_number}
use Rattle.zaxbriar_calls.specs.Planes.{bytes_asked}
use Rattle.zaxbriar_calls.specs.Upright.{arranged_by}
use Rattle.zaxbriar_calls.specs.declared.answers.Refusal.{Refusal}
use Rattle.zaxbriar_calls.specs.declared.answers.Refusal.TheVariants.{Part, Stream}
use Rattle.zaxbriar_calls.specs.declared.crops.StoredPart.{StoredPart}
use Rattle.zaxbriar_calls.specs.declared.extents.Extent.{Extent}
use Rattle.zaxbriar_calls.specs.declared.extents.Extent.TheVariants.{Whole, Partial, Planes}
use Rattle.zaxbriar_calls.specs.declared.features.Feature.{Feature}
use Rattle.zaxbriar_calls.specs.declared.lines.Lines.{Lines}
use Rattle.zaxbriar_calls.specs.declared.options.Options.{Options}
use Rattle.zaxbriar_calls.specs.declared.picture.Picture.{Picture}

-- what is told of a stream, and its picture, without a fault
abbrev pub faultless : Told × List ℕ → Shown
faultless m = record { told = m.0; picture = m.1; fault = None }

-- planes, one after the other, in place of a picture
abbrev pub as_picture : Told × List (List ℕ) → Told × List ℕ
as_picture m = (m.0, concat m.1)

-- What the rest of a stream gives after its header: its meaning, where the whole is asked for, what
-- it shows, where a part is, or else its planes.
abbrev pub given_rest : Extent → Settings → Found → List ℕ → Result Shown Fault
given_rest Whole settings found bytes =
    rest_by settings found bytes >>= (λ m. Ok (faultless m.0))
given_rest Partial settings found bytes =
    shown_rest_within settings.max_blocks settings found bytes
given_rest Planes settings found bytes =
    planes_rest settings found bytes >>= (λ m. Ok (faultless (as_picture m.0)))

-- What a stream gives: what is told of it, its picture, and its first fault; or why it gives none.
-- A whole picture has no fault, and neither have its planes.
unfoldable pub given_by : Extent → Options → List ℕ → Result Shown Fault
given_by extent o bytes = do
  header ← header_at bytes
  let found = found_at o header.0 in given_rest extent (settings_at o found) found header.1

-- How many rows of what is given, from the top, are complete in each scan that the stream has
-- begun. Those of a whole picture, which all are, aren't counted, nor those of planes.
abbrev pub rows_rest : Extent → Settings → Found → List ℕ → ℕ
rows_rest Whole settings found bytes = 0
rows_rest Partial settings found bytes = whole_rows_rest settings.max_blocks found bytes
rows_rest Planes settings found bytes = 0

-- the part that the options ask for of the picture of a header
abbrev pub part_found : Options → Said → Option StoredPart
part_found o said = elim (option_map (info_by (settings_of o)) said.frame) [
  | Some info ↦ part_given o info (orientation_by said.metadata.exif)
  | None ↦ None
]

-- The same of a stream, and of a part of its picture as it is stored.
unfoldable pub rows_by : Extent → Options → List ℕ → ℕ
rows_by Whole o bytes = 0
rows_by Partial o bytes = elim (header_at bytes) [
  | Ok header ↦
      let found = found_at o header.0 in part_rows (part_found o found.said)
      (rows_rest Partial (settings_at o found) found header.1)
  | Err fault ↦ 0
]
rows_by Planes o bytes = 0

-- The picture that a stream gives, up to this fault, if it has one, is in the caller's memory.
pub record Gives (extent : Extent) (o : Options) (bytes old new : List ℕ) (fault : Option Fault)
    (picture : Picture) : Type 0 where
  pub told : Told
  pub samples : List ℕ
  pub info : ImageInfo
  pub precision : ℕ
  pub are : given_by extent o bytes ≡ Ok (record { told = told; picture = samples; fault = fault })
  pub info_is : option_map (info_by (settings_of o)) told.frame ≡ Some info
  pub precision_is : option_map (λ f. f.precision) told.frame ≡ Some precision
  pub arranged : Arranged extent o info precision samples old new picture

-- This many bytes are those of the image, where the whole of its picture or of its planes was read.
abbrev pub CountsImage : Extent → Options → List ℕ → ℕ → Type 0
CountsImage Whole o bytes count = CountsRead (meaning_by o bytes) bytes count
CountsImage Partial o bytes count = Unit {0}
CountsImage Planes o bytes count = CountsRead (planes_by o bytes) bytes count

-- the bytes of the caller's memory that are needed for it
abbrev pub bytes_needed : Extent → Picture → ℕ
bytes_needed extent picture = bytes_asked extent picture.size picture.planes_size

-- the feature that a fault names
abbrev pub feature_lacking : Fault → Feature
feature_lacking (Lacks feature) = feature_in feature
feature_lacking _ = numbered 0 0

-- A picture names the fault of a stream.
abbrev pub TellsFault : Extent → Options → List ℕ → Picture → Fault → Type 0
TellsFault extent o bytes picture fault = (picture.fault ≡ fault_number extent o bytes fault)
    × NamesFeature picture (feature_lacking fault)

-- a picture without the number of rows that are complete
abbrev pub without_rows : Picture → Picture
without_rows picture = record picture { whole_rows = 0 }

-- a picture without the fault of which a call tells, its feature, and its text
abbrev pub without_fault : Picture → Picture
without_fault picture = record picture {
  feature = 0;
  feature_argument = 0;
  fault = 0;
  text = replicate 112 0;
}

-- ---- what the code's own clauses need

-- What a call says that has written a part: the picture of what the stream has brought up to its
-- first fault, which the error names.
abbrev pub GivesPart : Extent → Options → List ℕ → List ℕ → List ℕ → Picture → Refusal → Type 0
GivesPart extent o bytes old new picture (Part e rows) = (fault : Fault)
    × Names {Y = Unit {0}} e (Err fault) × (e ≡ errors.OutOfMemory → ⊥)
    × Gives extent o bytes old new (Some fault) picture
GivesPart extent o bytes old new picture _ = Unit {0}

-- What was read is what a stream gives: these samples, this fault, and what is told. Memory was
-- there for the fault.
pub record Brings (expected : Result Shown Fault) (samples : List ℕ) (fault : Option Error)
    (told : Told) : Type 0 where
  pub named : Option Fault
  pub shown : expected ≡ Ok (record { told = told; picture = samples; fault = named })
  pub fault_is : NamesFault fault named
  pub memory : fault ≡ Some errors.OutOfMemory → ⊥

-- A decoder stands after the image, where it has read the whole of its picture or of its planes.
abbrev pub EndsImage : Extent → Decoding → Decoding → Type 0
EndsImage Whole old new =
    StandsAfter (rest_by old.settings old.found old.source.bytes) new.source
EndsImage Partial old new = Unit {0}
EndsImage Planes old new =
    StandsAfter (planes_rest old.settings old.found old.source.bytes) new.source

abbrev pub outcome_of : ℕ → Option Error → Result ℕ Refusal
outcome_of rows None = Ok rows
outcome_of rows (Some e) = Err (Part e rows)

-- Where a picture was written, or a part of it, this many of its rows are counted as complete.
abbrev pub HasRows : ℕ → Result ℕ Refusal → Type 0
HasRows complete (Ok rows) = rows ≡ complete
HasRows complete (Err (Part e rows)) = rows ≡ complete
HasRows complete (Err r) = Unit {0}

-- A decoder knows whether a scan was refused for its blocks, unless memory ran out, or the call was
-- refused for what isn't of the stream.
abbrev pub KnowsExceeded : {X : Type 0} → Bool → Result X Refusal → Bool → Type 0
KnowsExceeded expected (Ok x) exceeded = exceeded ≡ expected
KnowsExceeded expected (Err (Stream e)) exceeded = IfRefused e (exceeded ≡ expected)
KnowsExceeded expected (Err (Part e rows)) exceeded = exceeded ≡ expected
KnowsExceeded expected (Err r) exceeded = Unit {0}

-- A decoder whose header was read has brought what a stream gives, and the lines of it, or its
-- planes, are in the caller's memory.
pub record BringsLines (extent : Extent) (lines : Lines) (fault : Option Error) (old new : Decoding)
    (before after : List ℕ) : Type 0 where
  pub samples : List ℕ
  pub frame : new.found.said.frame ≡ old.found.said.frame
  pub brings : Brings (given_rest extent old.settings old.found old.source.bytes) samples fault
      (told_of new.found.said)
  pub ends : EndsImage extent old new
  pub pixels : after ≡ arranged_by extent lines samples before

abbrev pub Reaches : Extent → Lines → Result ℕ Refusal → Decoding → Decoding → List ℕ → List ℕ
    → Type 0
Reaches extent lines (Ok rows) old new before after =
    BringsLines extent lines None old new before after
Reaches extent lines (Err (Part e rows)) old new before after =
    BringsLines extent lines (Some e) old new before after
Reaches extent lines (Err r) old new before after = Unit {0}
