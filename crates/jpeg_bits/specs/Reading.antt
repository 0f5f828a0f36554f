-- Reading from left to right, with the first fault that is met.
use Rattle.std.specs.Prelude.{◌≡◌, ℕ, zero, suc, ◌+◌, ◌-◌, ◌*◌, ◌<◌, ◌≤◌, ◌^◌, ◌++◌, List, [], ◌∷◌}
use Rattle.std.specs.Prelude.{length, take, Bool, true, false, Result, Ok, Err, nat_lt}
use Rattle.std.specs.Prelude.{if◌then◌else◌, string_bytes}
use Rattle.jpeg_bits.specs.Stream.{Stream}
use Rattle.jpeg_bits.specs.declared.error.UnsupportedFeature.{UnsupportedFeature}
use Rattle.jpeg_bits.specs.declared.error.Error.{Error}
use Rattle.jpeg_bits.specs.declared.error.Error.TheVariants as errors
use Rattle.std.specs.IoError.{error_kind}
use Rattle.std.specs.declared.io.ErrorKind.TheVariants.{UnexpectedEof}

-- Why bytes are refused: a broken rule, a feature that is refused by name, or the end of the bytes.
pub data Fault : Type 0 where
  Malformed : Fault
  Lacks : UnsupportedFeature → Fault
  End : Fault

-- a value and the bytes after it, or the first fault
abbrev pub Outcome : Type 0 → Type 0
Outcome Y = Result (Y × List ℕ) Fault

infixl 10 ◌>>=◌
abbrev pub ◌>>=◌ : {A B : Type 0} → Result A Fault → (A → Result B Fault) → Result B Fault
(Ok x) >>= f = f x
(Err e) >>= f = Err e

-- the fault that an error names; `OutOfMemory` names none
abbrev pub Names : {Y : Type 0} → Error → Result Y Fault → Type 0
Names (errors.Format text) outcome = outcome ≡ Err Malformed
Names (errors.Unsupported feature) outcome = outcome ≡ Err (Lacks feature)
Names (errors.Io e) outcome = (outcome ≡ Err End) × (error_kind e ≡ UnexpectedEof)
Names (errors.Internal text) outcome = ⊥
Names errors.OutOfMemory outcome = Unit {0}

-- A source that has failed stays so, and becomes so only with Io. An Io of a source that has not
-- failed is the end of its bytes.
abbrev pub MayFail : Error → Bool → Bool → Type 0
MayFail (errors.Io e) old new =
    (old ≡ true → new ≡ true) × (new ≡ false → error_kind e ≡ UnexpectedEof)
MayFail (errors.Internal text) old new = ⊥
MayFail _ old new = new ≡ old

-- why a source is known no more: a failed read, or interruptions without end, whose refusal has no
-- text
abbrev pub IsGivenUp : Error → Bool → Type 0
IsGivenUp (errors.Io e) failed = failed ≡ true
IsGivenUp (errors.Format text) failed = string_bytes text ≡ []
IsGivenUp _ failed = ⊥

-- known bytes are fewer than 2 ^ 64
abbrev pub IsShort : Stream → Type 0
IsShort s = s.known ≡ true → length s.bytes < 2 ^ 64

-- A call on a source, from old to new, answered what reading the bytes of old gives.
abbrev pub Answers : {X Y : Type 0} → (X → Y) → (List ℕ → Outcome Y) → Stream → Result X Error
    → Stream → Type 0
Answers view read old (Ok x) new =
    (new.failed ≡ old.failed) × (old.known ≡ true → (new.known ≡ true)
    × (read old.bytes ≡ Ok (view x, new.bytes)))
Answers view read old (Err e) new =
    MayFail e old.failed new.failed
    × (old.known ≡ true → new.known ≡ true → Names e (read old.bytes))
    × (old.known ≡ true → new.known ≡ false → IsGivenUp e new.failed)

abbrev pub next_byte : List ℕ → Outcome ℕ
next_byte [] = Err End
next_byte (b ∷ bs) = Ok (b, bs)

-- what a refusal of a broken rule is: its text, or `OutOfMemory`
abbrev pub NamesFormat : Error → Type 0
NamesFormat (errors.Format text) = Unit {0}
NamesFormat errors.OutOfMemory = Unit {0}
NamesFormat _ = ⊥

abbrev pub NamesEnd : Error → Type 0
NamesEnd (errors.Io e) = error_kind e ≡ UnexpectedEof
NamesEnd _ = ⊥

-- One read into a buffer took the front of the bytes, and none only at their end.
abbrev pub ReadsSome : Stream → Result ℕ Error → List ℕ → Stream → Type 0
ReadsSome old (Ok n) buffer new =
    (n ≤ length buffer) × (new.failed ≡ old.failed)
    × (old.known ≡ true → (new.known ≡ true) × (old.bytes ≡ take n buffer ++ new.bytes)
    × (n ≡ 0 → 0 < length buffer → new.bytes ≡ []))
ReadsSome old (Err e) buffer new = MayFail e old.failed new.failed
    × (old.known ≡ true → new.known ≡ true → ⊥) × (old.known ≡ true → new.known ≡ false
    → IsGivenUp e new.failed)

-- the higher byte first
unfoldable pub next_u16 : List ℕ → Outcome ℕ
next_u16 bytes = do
  high ← next_byte bytes
  low ← next_byte high.1
  Ok (256 * high.0 + low.0, low.1)

-- a length field, which counts itself
unfoldable pub length_at : List ℕ → Outcome ℕ
length_at bytes = do
  n ← next_u16 bytes
  if nat_lt n.0 2 then Err Malformed else Ok (n.0 - 2, n.1)

-- n values in a row, and the bytes after them
unfoldable pub times : {A : Type 0} → ℕ → (List ℕ → Outcome A) → List ℕ → Outcome (List A)
times zero read bytes = Ok ([], bytes)
times (suc n) read bytes = do
  first ← read bytes
  others ← times n read first.1
  Ok (first.0 ∷ others.0, others.1)

-- a call with no source answered what a definition gives
abbrev pub Gives : {Y : Type 0} → Result Y Fault → Result Y Error → Type 0
Gives outcome (Ok y) = outcome ≡ Ok y
Gives outcome (Err e) = Names e outcome

-- n bytes are passed over
unfoldable pub skip_at : ℕ → List ℕ → Outcome (Unit {0})
skip_at n bytes = times n next_byte bytes >>= λ x. Ok (tt, x.1)
