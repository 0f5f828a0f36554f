-- Readers of entropy-coded bits: a value and the text after it, or the first fault.
use Rattle.std.specs.Prelude.{◌≡◌, ℕ, ℤ, Bool, List, [], ◌∷◌, ◌++◌, length, drop, Result, Ok, Err}
use Rattle.jpeg_bits.specs.Reading.{Fault, Malformed}
use Rattle.jpeg_bits.specs.Entropy.{Text, Ending, bits_from, extended}

abbrev pub Reads : Type 0 → Type 0
Reads A = Text → Result (A × Text) Fault

abbrev pub read_on : {A B : Type 0} → (A → Reads B) → Result (A × Text) Fault
    → Result (B × Text) Fault
read_on f (Ok r) = f r.0 r.1
read_on f (Err e) = Err e

infixl 10 ◌>>=◌
abbrev pub ◌>>=◌ : {A B : Type 0} → Reads A → (A → Reads B) → Reads B
◌>>=◌ p f t = read_on f (p t)

abbrev pub gives : {A : Type 0} → A → Reads A
gives x t = Ok (x, t)

abbrev pub refused : {A : Type 0} → Reads A
refused t = Err Malformed

-- what is read of each, in turn
unfoldable pub each : {A B : Type 0} → (A → Reads B) → List A → Reads (List B)
each read [] = gives []
each read (x ∷ xs) = read x >>= (λ y. each read xs >>= (λ ys. gives (y ∷ ys)))

-- s bits as a signed number
unfoldable pub signed_from : ℕ → Reads ℤ
signed_from s = do
  v ← bits_from s
  gives (extended v s)

-- ---- of bits that were written

abbrev pub text : List Bool → List (List ℕ) → Ending → Text
text bits following e = record { bits = bits; following = following; ending = e }

-- Of a text that begins with these bits, these are read, and give x.
pub record ReadsJust {A : Type 0} (p : Reads A) (bits : List Bool) (x : A) : Type 0 where
  pub read : (rest : List Bool) (following : List (List ℕ)) (e : Ending)
      → p (text (bits ++ rest) following e) ≡ Ok (x, text rest (drop (length bits) following) e)
