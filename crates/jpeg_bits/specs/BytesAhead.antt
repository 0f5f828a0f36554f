-- Bytes that were read ahead of a source and not taken yet (this project's own form).
use Rattle.std.specs.Prelude.{◌≡◌, ◌≢◌, ℕ, ◌<◌, ◌^◌, ◌++◌, List, [], ◌∷◌, length, take}
use Rattle.std.specs.Prelude.{true, ◌&&◌}
use Rattle.std.specs.Prelude.{nat_lt, Option, Some, None, Result, Ok, Err}
use Rattle.std.specs.Int.{byte_at, to_be_bytes, w64}
use Rattle.jpeg_bits.specs.Stream.{Stream}
use Rattle.jpeg_bits.specs.Reading.{ReadsSome}
use Rattle.jpeg_bits.specs.declared.error.Error.{Error}

-- bytes that were read ahead, and then what the reader has left; or else the reader alone
abbrev pub stream_after : Option (List ℕ) → Stream → Stream
stream_after None s = s
stream_after (Some ahead) s =
    record {
      bytes = ahead ++ s.bytes;
      known = s.known && nat_lt (length (ahead ++ s.bytes)) (2 ^ 64);
      failed = s.failed;
    }

-- none of the eight bytes of a word is FF
abbrev pub HasNoFf : ℕ → Type 0
HasNoFf word = (k : ℕ) → k < 8 → byte_at k word ≢ 255

-- the first count of the eight bytes of a word went, none of which is FF
abbrev pub TakesPlain : ℕ → ℕ → List ℕ → List ℕ → Type 0
TakesPlain word count old new = HasNoFf word × (old ≡ take count (to_be_bytes w64 word) ++ new)

-- the same of a source
abbrev pub PassesPlain : ℕ → ℕ → Stream → Stream → Type 0
PassesPlain word count old new =
    HasNoFf word × (new.failed ≡ old.failed) × (old.known ≡ true → (new.known ≡ true)
    × (old.bytes ≡ take count (to_be_bytes w64 word) ++ new.bytes))

-- two bytes were taken off a source
abbrev pub TakesTwo : ℕ → ℕ → Stream → Stream → Type 0
TakesTwo first second old new =
    (new.failed ≡ old.failed) × (old.known ≡ true → (new.known ≡ true)
    × (old.bytes ≡ first ∷ (second ∷ new.bytes)))

-- One read put the front of the bytes ahead, and none only at their end.
abbrev pub FillsFrom : Stream → Result (Unit {0}) Error → List ℕ → Stream → Type 0
FillsFrom old (Ok u) ahead new =
    (new.failed ≡ old.failed) × (old.known ≡ true → (new.known ≡ true)
    × (old.bytes ≡ ahead ++ new.bytes) × (ahead ≡ [] → new.bytes ≡ []))
FillsFrom old (Err e) ahead new = (ahead ≡ []) × ReadsSome old (Err e) ahead new
