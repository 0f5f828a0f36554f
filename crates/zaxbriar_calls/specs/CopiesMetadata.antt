-- What a call does that copies metadata of a header or of a whole image, whose scans may go so many
-- times over its picture: `metadata`.
use Rattle.std.specs.Prelude.{◌≡◌, ◌≤◌, ◌<◌, ℕ, List, Err, IsOk, None, length}
use Rattle.jpeg_bits.specs.Reading.{End, Lacks, Malformed}
use Rattle.jpeg_bits.specs.declared.error.UnsupportedFeature.{UnsupportedFeature}
use Rattle.zaxbriar_calls.specs.Metadata.{IsCopied, IsLonger, IsNoKind, end_at, is_whole, said_of}

pub record CopiesMetadata (bytes : List ℕ) (kind passes : ℕ) (old new : List ℕ)
    (count code : ℕ) : Type 0 where
  -- After OK, the buffer begins with what the segments by the end or the refusal of the header say;
  -- or of the whole image, where the kind asks for it.
  pub copies : code ≡ 0 → IsCopied (said_of passes kind bytes) old new count
  -- NO_DATA: the header, or the image, is whole, and its segments say nothing of this kind.
  pub none : code ≡ 7 → (said_of passes kind bytes ≡ None)
      × IsOk (end_at passes (is_whole kind) bytes)
  -- NO_ROOM: what they say is longer than the buffer, and its length is given.
  pub room : code ≡ 5 → IsLonger (said_of passes kind bytes) (length old) count
  -- After any other result, no bytes are counted.
  pub uncounted : (code ≡ 0 → ⊥) → (code ≡ 5 → ⊥) → count ≡ 0
  -- A kind that doesn't exist is refused, whatever the bytes are, and no other is.
  pub known : IsNoKind kind → code ≡ 6
  pub wrong : code ≡ 6 → IsNoKind kind
  -- There is no other result than OK, MALFORMED, UNSUPPORTED, TRUNCATED, NO_MEMORY, NO_ROOM,
  -- BAD_ARGUMENT and NO_DATA.
  pub number : code ≤ 7
  -- MALFORMED, UNSUPPORTED and TRUNCATED name the fault of the header, or of the image, before
  -- which its segments say nothing of this kind.
  pub malformed : code ≡ 1 → end_at passes (is_whole kind) bytes ≡ Err Malformed
  pub unsupported : code ≡ 2 → (feature : UnsupportedFeature)
      × (end_at passes (is_whole kind) bytes ≡ Err (Lacks feature))
  pub truncated : code ≡ 3 → end_at passes (is_whole kind) bytes ≡ Err End
  pub unsaid : 0 < code → code < 4 → said_of passes kind bytes ≡ None
  -- After any other result, the buffer is as it was.
  pub kept : (code ≡ 0 → ⊥) → new ≡ old
