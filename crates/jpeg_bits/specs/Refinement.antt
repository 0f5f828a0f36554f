-- Refinement of coefficients (T.81, G.1.2.3 and G.2.3).
use Rattle.std.specs.Prelude.{ℕ, zero, suc, ◌+◌, ◌-◌, ◌/◌, ◌%◌, ◌^◌, ◌==◌, nat_lt, Bool, true}
use Rattle.std.specs.Prelude.{false, List, [], ◌∷◌, length, set, take, drop, ℤ, pos, negsuc, neg_ℤ}
use Rattle.std.specs.Prelude.{if◌then◌else◌, ◌||◌, not}
use Rattle.jpeg_bits.specs.Entropy.{bits_from}
use Rattle.jpeg_bits.specs.Codes.{Table, symbol_from}
use Rattle.jpeg_bits.specs.Readers.{Reads, ◌>>=◌, each, gives, refused}
use Rattle.jpeg_bits.specs.Bands.{Band, before_more}

abbrev pub is_zero : ℤ → Bool
is_zero (pos zero) = true
is_zero _ = false

-- bit al of a number's two's complement.
abbrev pub bit_of : ℕ → ℤ → ℕ
bit_of al (pos n) = n / 2 ^ al % 2
bit_of al (negsuc n) = 1 - n / 2 ^ al % 2

-- a number that isn't 0, moved away from zero.
abbrev pub moved : ℕ → ℤ → ℤ
moved by (pos n) = pos (n + by)
moved by (negsuc n) = negsuc (n + by)

abbrev pub fits_i16 : ℤ → Bool
fits_i16 (pos n) = nat_lt n (2 ^ 15)
fits_i16 (negsuc n) = nat_lt n (2 ^ 15)

-- A number that isn't 0, with its correction bit.
abbrev pub corrected_by : ℕ → ℤ → ℕ → Reads ℤ
corrected_by al z b =
    if b == 0 || not (bit_of al z == 0) then gives z else (
    if fits_i16 (moved (2 ^ al) z) then gives (moved (2 ^ al) z) else refused)

-- One correction bit for each coefficient that isn't zero.
unfoldable pub corrected : ℕ → List ℤ → Reads (List ℤ)
corrected al numbers =
    each (λ z. if is_zero z then gives z else bits_from 1 >>= (λ b. corrected_by al z b)) numbers

-- How many coefficients there are up to zero number r, counted from 0, and with it; or all of them.
unfoldable pub through_zero : ℕ → List ℤ → ℕ
through_zero r [] = 0
through_zero r (z ∷ numbers) =
    if is_zero z then (if r == 0 then 1 else suc (through_zero (r - 1) numbers))
    else suc (through_zero r numbers)

-- the new number of a sign bit.
abbrev pub new_number : ℕ → ℕ → ℤ
new_number al zero = neg_ℤ (pos (2 ^ al))
new_number al (suc b) = pos (2 ^ al)

-- the list with its last element replaced.
unfoldable pub with_last : ℤ → List ℤ → List ℤ
with_last x numbers = set numbers (length numbers - 1) x

-- The piece of a token of run r and size s, where `others` reads what is after it: the coefficients
-- through zero number r, counted from 0, the last of which becomes a new number; those through the
-- sixteenth zero; or the rest.
unfoldable pub refined_piece : ℕ → (List ℤ → Reads Band) → List ℤ → ℕ → ℕ → Reads Band
refined_piece al others rest r s =
    if s == 0 then (
    if r == 15 then corrected al (take (through_zero 15 rest) rest) >>= (λ front.
    others (drop (through_zero 15 rest) rest) >>= (λ more. gives (before_more front more)))
    else bits_from r >>= (λ e. corrected al rest >>= (λ all. gives (all, 2 ^ r - 1 + e))))
    else (if s == 1 then bits_from 1 >>= (λ sign.
    corrected al (take (through_zero r rest) rest) >>= (λ front.
    others (drop (through_zero r rest) rest)
    >>= (λ more. gives (before_more (with_last (new_number al sign) front) more))))
    else refused)

-- The rest of a band, of at most n coefficients, cut into pieces, one a token.
unfoldable pub refined_ac : Table → ℕ → ℕ → List ℤ → Reads Band
refined_ac table al n [] = gives ([], 0)
refined_ac table al zero (x ∷ rest) = refused
refined_ac table al (suc n) (x ∷ rest) =
    symbol_from table >>= (λ c. refined_piece al (refined_ac table al n) (x ∷ rest) (c / 16)
    (c % 16))
