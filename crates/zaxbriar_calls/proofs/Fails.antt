-- A refusal of the header, or of what follows it, is one of the stream.
use Rattle.std.proofs.Common.{◌≡◌, ◌⊎◌, ◌∙◌, ◌<◌, ℕ, Ok, Err, Result, arith, refl, sym}
use Rattle.std.specs.Prelude.{IfErr, IsErrAnd}
use Rattle.jpeg_bits.specs.Reading.{Fault}
use Rattle.zaxbriar_calls.specs.Faults.{IsFault, IsNamed, IsOfCall, IsOfCallNumber, IsOfReading, IsOfRoom, IsOfRoomNumber}
use Rattle.zaxbriar_calls.specs.Faults.{IsOwn}
use Rattle.zaxbriar_calls.specs.Faults.{status_of, fault_code}
use Rattle.zaxbriar_calls.specs.declared.answers.Refusal.{Refusal}
use Rattle.zaxbriar_calls.specs.declared.answers.Refusal.TheVariants as refusals

-- ---- what follows of an outcome

pub if-err : {X E : Type 0} (r : Result X E) (P Q : E → Type 0) → IfErr r P → ((e : E) → P e → Q e) → IfErr r Q
if-err (Ok x) P Q p f = tt
if-err (Err e) P Q p f = f e p

-- a refusal of a decoder, and a part, are none for the size of a picture
pub not-own : (r : Refusal) → IsOfReading r → IsOwn r → ⊥
not-own r d o = grind arith

-- one for the size of a picture that isn't for lack of room is for a limit
pub own-large : (r : Refusal) (P : Type 0) → IsOwn r → (r ≡ refusals.NoRoom → ⊥) → (r ≡ refusals.TooLarge → P) → P
own-large refusals.NoRoom P own room large = absurd (room refl)
own-large refusals.TooLarge P own room large = large refl
own-large _ P own room large = absurd own

-- a number that no fault has
pub other-named : {Y : Type 0} (code : ℕ) (read : Result Y Fault) → (code < 4 → code ≡ 0) → IsNamed code read
other-named code read h = grind arith

refusal-named : {Y : Type 0} (r : Refusal) (read : Result Y Fault) → IsFault read r → IsNamed
    (fault_code r) read
refusal-named x read h = grind (arith, other-named)

-- the number of an outcome that names a fault is the fault's
pub named : {X Y : Type 0} (outcome : Result X Refusal) (read : Result Y Fault) (code : ℕ) → code ≡
    status_of outcome
    → IfErr outcome (IsFault read) → IsNamed code read
named x read code c h = grind (arith, other-named, refusal-named)

-- no refusal has the number of an OK
pub code-fails : (r : Refusal) → fault_code r ≡ 0 → ⊥
code-fails x e = grind arith

call-number : (r : Refusal) → IsOfCall r → IsOfCallNumber (fault_code r)
call-number r c = grind arith

pub of-call-number : {X : Type 0} (outcome : Result X Refusal) (code : ℕ) → code ≡ status_of outcome
    → IsErrAnd outcome IsOfCall → IsOfCallNumber code
of-call-number outcome code e c = grind (arith, call-number)

pub is-too-large : (r : Refusal) → fault_code r ≡ 8 → r ≡ refusals.TooLarge
is-too-large r e = grind arith

pub has-no-room : (r : Refusal) → fault_code r ≡ 5 → r ≡ refusals.NoRoom
has-no-room r e = grind arith

room-number : (r : Refusal) → IsOfRoom r → IsOfRoomNumber (fault_code r)
room-number r c = grind arith

pub of-room-number : {X : Type 0} (outcome : Result X Refusal) (code : ℕ) → code ≡ status_of outcome
    → IsErrAnd outcome IsOfRoom → IsOfRoomNumber code
of-room-number outcome code e c = grind (arith, room-number)

-- a refusal that isn't for lack of room has another number
pub not-room : {X : Type 0} (outcome : Result X Refusal) (code : ℕ) → code ≡ status_of outcome
    → IfErr outcome (λ r. r ≡ refusals.NoRoom → ⊥) → code ≡ 5 → ⊥
not-room (Ok x) code c n z = absurd (omega (arith, c, z))
not-room (Err r) code c n z = n (has-no-room r (sym c ∙ z))

-- a kind whose number is refused doesn't exist
pub no-kind : (kind code : ℕ) → (0 < kind → kind < 4 → code ≡ 6 → ⊥) → code ≡ 6 → (kind ≡ 0) ⊎ (3 < kind)
no-kind kind code known e = grind arith
