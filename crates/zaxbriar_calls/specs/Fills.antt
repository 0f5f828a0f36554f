-- What a call does that decodes a stream into the caller's memory: `decode`, which takes the whole
-- of its picture, `decode_partial`, which takes what it brings up to its first fault, and
-- `decode_planes`, which takes the whole of its planes.
use Rattle.std.specs.Prelude.{◌≡◌, ◌⊎◌, ◌++◌, ◌<◌, ◌≤◌, ℕ, List, Err, None, Some, false, length}
use Rattle.std.specs.Prelude.{Ok, Result, slice_index, true}
use Rattle.std.specs.List.{concat}
use Rattle.jpeg_bits.specs.Reading.{◌>>=◌, End, Fault, Malformed}
use Rattle.jpeg_meaning.specs.ArrayPictures.{as_sent, picture_of_array}
use Rattle.jpeg_meaning.specs.DecodedImages.{at_size}
use Rattle.jpeg_meaning.specs.Found.{Said}
use Rattle.jpeg_meaning.specs.Levels.{Is8Bit, Levels}
use Rattle.jpeg_meaning.specs.Stream.{header_at}
use Rattle.jpeg_meaning.specs.WrittenImages.{WritesImage}
use Rattle.jpeg_meaning.specs.WrittenPlanes.{planes_of_blocks}
use Rattle.jpeg_meaning.specs.WrittenScans.{Coefficients}
use Rattle.zaxbriar_calls.specs.Faults.{IsOfCallNumber, IsOfRoomNumber}
use Rattle.zaxbriar_calls.specs.Features.{LacksFeature, NamesFeature, numbered}
use Rattle.zaxbriar_calls.specs.Given.{CountsImage, Gives, TellsFault, bytes_needed, given_by}
use Rattle.zaxbriar_calls.specs.Given.{rows_by, without_fault, without_rows}
use Rattle.zaxbriar_calls.specs.Limits.{are_known_for}
use Rattle.zaxbriar_calls.specs.Meanings.{AreWrongFor, CountsRead, IsTooLarge, IsWithin}
use Rattle.zaxbriar_calls.specs.Meanings.{ShowsSamples, as_described, no_picture, settings_of}
use Rattle.zaxbriar_calls.specs.Meanings.{size_wanted}
use Rattle.zaxbriar_calls.specs.Passes.{exceeds}
use Rattle.zaxbriar_calls.specs.declared.extents.Extent.{Extent}
use Rattle.zaxbriar_calls.specs.declared.extents.Extent.TheVariants.{Whole, Partial, Planes}
use Rattle.zaxbriar_calls.specs.declared.options.Options.{Options}
use Rattle.zaxbriar_calls.specs.declared.picture.Picture.{Picture}

-- the samples of an array of coefficients, as far as their bits were sent: those of its picture or,
-- one after the other, of its planes
abbrev pub samples_of_array : Extent → Options → Said → Coefficients → (ℕ → Levels)
    → Result (List ℕ) Fault
samples_of_array Planes o said array levels =
    planes_of_blocks (settings_of o).limit said (as_sent array levels)
    >>= (λ planes. Ok (concat planes))
samples_of_array _ o said array levels = picture_of_array (settings_of o) said array levels

-- Where bytes begin with an image that is written for coefficients of 8-bit samples, the whole of
-- its picture or of its planes is theirs, and `stream_bytes` is how many bytes the image takes.
abbrev pub FillsWhole : Extent → Options → List ℕ → List ℕ → List ℕ → Picture → Type 0
FillsWhole extent o bytes old new picture =
    (array : Coefficients) (image rest : List ℕ) (final : Said) (last : ℕ → Levels) →
    ((index row column : ℕ) → Is8Bit (array index row column)) →
    WritesImage array image final last →
    bytes ≡ image ++ rest →
    ShowsSamples extent o
    (samples_of_array extent o (at_size (size_wanted o) final) array last) old new picture
    × (picture.stream_bytes ≡ length image)

abbrev pub FillsImages : Extent → Options → List ℕ → List ℕ → List ℕ → Picture → Type 0
FillsImages Whole o bytes old new picture = FillsWhole Whole o bytes old new picture
FillsImages Partial o bytes old new picture = Unit {0}
FillsImages Planes o bytes old new picture = FillsWhole Planes o bytes old new picture

-- the numbers that a call returns: PARTIAL for a part alone, and TOO_MANY_PASSES for the whole and
-- for planes
abbrev pub IsAnswer : Extent → ℕ → Type 0
IsAnswer Whole code = (code ≤ 8) ⊎ (code ≡ 10)
IsAnswer Partial code = code ≤ 9
IsAnswer Planes code = (code ≤ 8) ⊎ (code ≡ 10)

-- No scan of a whole picture, or of planes, is refused for its blocks. A part that isn't given has
-- another fault than that of the stream.
abbrev pub IsWithinPasses : Extent → Options → List ℕ → Type 0
IsWithinPasses Whole o bytes = exceeds Whole o bytes ≡ false
IsWithinPasses Partial o bytes = Unit {0}
IsWithinPasses Planes o bytes = exceeds Planes o bytes ≡ false

pub record Fills (extent : Extent) (o : Options) (bytes old new : List ℕ) (picture : Picture)
    (code : ℕ) : Type 0 where
  -- After OK, the caller's memory has the picture that the stream gives, which has no fault, in the
  -- layout of the options, or its planes, and nothing else has changed in it; and `picture`
  -- describes it.
  pub given : code ≡ 0 → Gives extent o bytes old new None (without_rows picture)
  -- After PARTIAL, it has the picture of what the stream brings up to its first fault, which
  -- `picture` names beside describing the picture. After any other result it names no fault.
  pub part : code ≡ 9 → (fault : Fault)
      × Gives extent o bytes old new (Some fault) (without_fault (without_rows picture))
      × TellsFault extent o bytes picture fault
  pub entire : (code ≡ 9 → ⊥) → picture.fault ≡ 0
  -- Where the bytes are written for the coefficients of an image, it is their picture, or their
  -- planes.
  pub images : code ≡ 0 → FillsImages extent o bytes old new picture
  -- After OK and PARTIAL, `whole_rows` is how many rows of a part, from its top, are complete in
  -- each scan that the stream has begun. It is 0 after any other result, for a whole picture, and
  -- for planes.
  pub rows : (code ≡ 0) ⊎ (code ≡ 9) → picture.whole_rows ≡ rows_by extent o bytes
  pub rowless : (code ≡ 0 → ⊥) → (code ≡ 9 → ⊥) → picture.whole_rows ≡ 0
  -- `stream_bytes` is how many bytes the image takes after OK, where not a part was asked for, and
  -- how many the header does after NO_ROOM and TOO_LARGE. It is 0 where options don't exist, and
  -- never more than there are.
  pub counts : code ≡ 0 → CountsImage extent o bytes picture.stream_bytes
  pub header : (code ≡ 5) ⊎ (code ≡ 8) → CountsRead (header_at bytes) bytes picture.stream_bytes
  pub unread : are_known_for extent o ≡ false → picture.stream_bytes ≡ 0
  pub most : picture.stream_bytes ≤ length bytes
  -- There is no other result than OK, MALFORMED, UNSUPPORTED, TRUNCATED, NO_MEMORY, NO_ROOM,
  -- BAD_ARGUMENT and TOO_LARGE, TOO_MANY_PASSES for the whole and for planes, and PARTIAL for a
  -- part.
  pub number : IsAnswer extent code × (code ≡ 7 → ⊥)
  -- MALFORMED, UNSUPPORTED and TRUNCATED name the fault for which nothing is given: for a part,
  -- that of a stream without an accepted frame header, or a transform that doesn't fit the picture.
  -- After UNSUPPORTED `picture` names the feature, and after any other result but PARTIAL none.
  pub malformed : code ≡ 1
      → (given_by extent o bytes ≡ Err Malformed) × IsWithinPasses extent o bytes
  -- TOO_MANY_PASSES: passes are limited, and the fault is a scan of more blocks than that allows.
  pub passes : code ≡ 10 → (given_by extent o bytes ≡ Err Malformed)
      × (exceeds extent o bytes ≡ true) × (o.max_passes ≡ 0 → ⊥)
  pub unsupported : code ≡ 2 → LacksFeature (given_by extent o bytes) picture
  pub truncated : code ≡ 3 → given_by extent o bytes ≡ Err End
  pub unnamed : (code ≡ 2 → ⊥) → (code ≡ 9 → ⊥) → NamesFeature picture (numbered 0 0)
  -- After any other result than OK and PARTIAL, the caller's memory is as it was.
  pub kept : (code ≡ 0 → ⊥) → (code ≡ 9 → ⊥) → new ≡ old
  -- After OK, PARTIAL and NO_ROOM `picture` is, but for `whole_rows`, what `read_info` describes:
  -- `decoding_bytes` is the same of a part as of the whole. It is within the limits; and after
  -- NO_ROOM the caller's memory is too short for it.
  pub describes : (code ≡ 0) ⊎ (code ≡ 9)
      → IsWithin o bytes (as_described (without_fault (without_rows picture)))
  pub room : code ≡ 5 → IsWithin o bytes (as_described picture)
      × (length old < bytes_needed extent picture)
  -- Where the caller's memory is too short for a picture within the limits, this depends on the
  -- header alone, too: there is no other result, unless memory or the arguments are to blame.
  pub short : (size : Picture) → IsWithin o bytes size → length old < bytes_needed extent size
      → IsOfRoomNumber code
  -- TOO_LARGE: `picture` describes it, and it is above a limit. This depends on the header alone:
  -- whatever follows the header of such a picture, there is no other result, unless memory or the
  -- arguments are to blame.
  pub large : code ≡ 8 → IsTooLarge o bytes (as_described picture)
  pub limited : (size : Picture) → IsTooLarge o bytes size → IsOfCallNumber code
  -- Options that don't exist, as those do not for planes that arrange samples, are BAD_ARGUMENT,
  -- whatever the bytes are. Nothing else is but lines that don't fit the picture of the header.
  pub known : are_known_for extent o ≡ false → code ≡ 6
  pub wrong : code ≡ 6 → AreWrongFor extent o bytes
  -- `picture` is cleared, but for its text, the feature and `stream_bytes`, where options don't
  -- exist or the header is refused.
  pub unasked : are_known_for extent o ≡ false → as_described picture ≡ no_picture
  pub cleared : (fault : Fault) → header_at bytes ≡ Err fault → as_described picture ≡ no_picture
  -- The text ends by a zero, and says something where there is no room for the picture, or where it
  -- is too large.
  pub ended : slice_index picture.text 111 ≡ 0
  pub said : (code ≡ 5) ⊎ (code ≡ 8) → slice_index picture.text 0 ≡ 0 → ⊥
