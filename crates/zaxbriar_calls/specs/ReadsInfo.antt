-- What a call does that describes the picture of a stream, by its header: `read_info`.
use Rattle.std.specs.Prelude.{◌≡◌, ◌⊎◌, ◌≤◌, ℕ, List, Err, false, length, slice_index}
use Rattle.jpeg_bits.specs.Reading.{End, Malformed}
use Rattle.jpeg_meaning.specs.Stream.{header_at}
use Rattle.zaxbriar_calls.specs.Faults.{IsOfCallNumber}
use Rattle.zaxbriar_calls.specs.Features.{LacksFeature, NamesFeature, numbered}
use Rattle.zaxbriar_calls.specs.Limits.{are_known}
use Rattle.zaxbriar_calls.specs.Meanings.{AreWrong, CountsRead, IsTooLarge, IsWithin}
use Rattle.zaxbriar_calls.specs.Meanings.{as_described, no_picture, uncounted}
use Rattle.zaxbriar_calls.specs.declared.options.Options.{Options}
use Rattle.zaxbriar_calls.specs.declared.picture.Picture.{Picture}

pub record ReadsInfo (o : Options) (bytes : List ℕ) (picture : Picture) (code : ℕ) : Type 0 where
  -- After OK, `picture` describes the picture of the header, which is within the limits.
  pub describes : code ≡ 0 → IsWithin o bytes (uncounted picture)
  -- After OK and TOO_LARGE, `stream_bytes` is how many bytes the header takes. It is 0 where
  -- options don't exist, and never more than there are.
  pub counts : (code ≡ 0) ⊎ (code ≡ 8) → CountsRead (header_at bytes) bytes picture.stream_bytes
  pub unread : are_known o ≡ false → picture.stream_bytes ≡ 0
  pub most : picture.stream_bytes ≤ length bytes
  -- TOO_LARGE: `picture` describes it, and it is above a limit. No header of such a picture has
  -- another result, unless memory or the arguments are to blame.
  pub large : code ≡ 8 → IsTooLarge o bytes (as_described picture)
  pub limited : (size : Picture) → IsTooLarge o bytes size → IsOfCallNumber code
  -- There is no other result than OK, MALFORMED, UNSUPPORTED, TRUNCATED, NO_MEMORY, BAD_ARGUMENT
  -- and TOO_LARGE.
  pub number : (code ≤ 8) × (code ≡ 7 → ⊥)
  pub roomless : code ≡ 5 → ⊥
  -- No rows are counted, whatever is returned.
  pub rowless : picture.whole_rows ≡ 0
  -- MALFORMED, UNSUPPORTED and TRUNCATED name the header's fault. After UNSUPPORTED `picture` names
  -- the feature, and after any other result none.
  pub malformed : code ≡ 1 → header_at bytes ≡ Err Malformed
  pub unsupported : code ≡ 2 → LacksFeature (header_at bytes) picture
  pub truncated : code ≡ 3 → header_at bytes ≡ Err End
  pub unnamed : (code ≡ 2 → ⊥) → NamesFeature picture (numbered 0 0)
  -- Options that don't exist are BAD_ARGUMENT, whatever the bytes are. Nothing else is but lines
  -- that don't fit the picture of the header.
  pub known : are_known o ≡ false → code ≡ 6
  pub wrong : code ≡ 6 → AreWrong o bytes
  -- `picture` is cleared, but for its text, the feature and `stream_bytes`, unless it describes a
  -- picture.
  pub cleared : (code ≡ 0 → ⊥) → (code ≡ 8 → ⊥) → as_described picture ≡ no_picture
  -- The text ends by a zero, and says something where the picture is too large.
  pub ended : slice_index picture.text 111 ≡ 0
  pub said : code ≡ 8 → slice_index picture.text 0 ≡ 0 → ⊥
