-- Fields that were written are read again.
use Rattle.std.proofs.Common.{◌≡◌, ℕ, ◌<◌, ◌+◌, ◌*◌, ◌/◌, ◌%◌, Bool, true, false, cond, List, ◌++◌, length, Ok, refl}
use Rattle.std.proofs.Common.{ap, ◌∙◌, arith}
use Rattle.std.proofs.lemmas.Bool.{le-ltb}
use Rattle.jpeg_bits.specs.Reading.{Outcome, ◌>>=◌, next_u16, length_at, skip_at}
use Rattle.jpeg_segments.specs.WrittenSegments.{u16_bytes, with_length, nibbles}
use Rattle.jpeg_bits.proofs.Filled.{bytes-read}
use Rattle.std.proofs.lemmas.Grind.{common_steps}

-- ---- steps

-- what is read after a value
pub read-on : {A B : Type 0} (o : Outcome A) (f : A × List ℕ → Outcome B) (x : A) (rest : List ℕ) (y : Outcome B)
    → o ≡ Ok (x, rest) → f (x, rest) ≡ y → (o >>= f) ≡ y
read-on o f x rest y e g = ap (λ r. r >>= f) e ∙ g

-- a rule that is kept
pub not-refused : {A : Type 0} (b : Bool) (x y : A) → b ≡ false → cond b x y ≡ y
not-refused b x y e = rw e refl

pub kept : {A : Type 0} (b : Bool) (x y : A) → b ≡ true → cond b x y ≡ x
kept b x y e = rw e refl

-- ---- fields

pub u16-joined : (n : ℕ) → 256 * (n / 256) + n % 256 ≡ n
u16-joined n = omega arith

pub u16-read : (n : ℕ) (rest : List ℕ) → next_u16 (u16_bytes n ++ rest) ≡ Ok (n, rest)
unfolding next_u16
u16-read n rest = ap (λ (x : ℕ). Ok (x, rest)) (u16-joined n)

pub length-read : (n : ℕ) (rest : List ℕ) → length_at (u16_bytes (n + 2) ++ rest) ≡ Ok (n, rest)
unfolding length_at
length-read n rest = grind (arith, common_steps, read-on, u16-read, not-refused, le-ltb)

-- a payload after its length field
pub sized-read : {B : Type 0} (payload rest : List ℕ) (f : ℕ × List ℕ → Outcome B)
    → (length_at (with_length payload ++ rest) >>= f) ≡ f (length payload, payload ++ rest)
sized-read payload rest f = grind (arith, common_steps, read-on, length-read)

pub nibbles-high : (high low : ℕ) → low < 16 → nibbles high low / 16 ≡ high
nibbles-high high low h = omega arith

pub nibbles-low : (high low : ℕ) → low < 16 → nibbles high low % 16 ≡ low
nibbles-low high low h = omega arith

pub skip-read : (xs : List ℕ) (rest : List ℕ) → skip_at (length xs) (xs ++ rest) ≡ Ok (tt, rest)
unfolding skip_at
skip-read xs rest = grind (arith, bytes-read)
