-- What a call does that copies metadata that stand in several segments of an image:
-- `joined_metadata`.
use Rattle.std.specs.Prelude.{◌≡◌, ◌≤◌, ◌<◌, ℕ, List, None, false, length}
use Rattle.zaxbriar_calls.specs.Joined.{is_joined_kind, joined_of}
use Rattle.zaxbriar_calls.specs.Metadata.{IsCopied, IsLonger}

pub record CopiesJoined (bytes : List ℕ) (kind : ℕ) (old new : List ℕ) (count code : ℕ)
    : Type 0 where
  -- After OK, the buffer begins with the data of this kind, joined from the segments of the image.
  pub copies : code ≡ 0 → IsCopied (joined_of kind bytes) old new count
  -- NO_DATA: there are none.
  pub none : code ≡ 7 → joined_of kind bytes ≡ None
  -- NO_ROOM: they are longer than the buffer, and their length is given.
  pub room : code ≡ 5 → IsLonger (joined_of kind bytes) (length old) count
  -- After any other result, no bytes are counted.
  pub uncounted : (code ≡ 0 → ⊥) → (code ≡ 5 → ⊥) → count ≡ 0
  -- A kind that doesn't exist is refused, whatever the bytes are, and no other is.
  pub known : is_joined_kind kind ≡ false → code ≡ 6
  pub wrong : code ≡ 6 → is_joined_kind kind ≡ false
  -- There is no other result than OK, NO_MEMORY, NO_ROOM, BAD_ARGUMENT and NO_DATA.
  pub number : code < 4 → code ≡ 0
  pub most : code ≤ 7
  -- After any other result than OK, the buffer is as it was.
  pub kept : (code ≡ 0 → ⊥) → new ≡ old
