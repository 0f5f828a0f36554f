-- The coefficients of a block in entropy-coded bits (T.81, F.2.2 and G.1.2): tokens, and the band
-- that they fill.
use Rattle.std.specs.Prelude.{ℕ, zero, suc, ◌<◌, ◌+◌, ◌-◌, ◌/◌, ◌%◌, ◌^◌, ◌==◌, nat_le, nat_lt}
use Rattle.std.specs.Prelude.{List, [], ◌∷◌, ◌++◌, length, take, drop, ℤ, pos, ◌+ℤ◌}
use Rattle.std.specs.Prelude.{◌*ℤ◌, if◌then◌else◌}
use Rattle.std.specs.Int.{int_wrap, w16}
use Rattle.jpeg_bits.specs.Entropy.{bits_from}
use Rattle.jpeg_bits.specs.Readers.{Reads, ◌>>=◌, gives, refused, signed_from}
use Rattle.jpeg_bits.specs.Codes.{Table, symbol_from, code_from}
use Rattle.jpeg_bits.specs.declared.blocks.tokens.Token.{Token}
use Rattle.jpeg_bits.specs.declared.blocks.tokens.Token.TheVariants.{Value, Sixteen, Rest, Overlong}

-- modulo 2 ^ 16
abbrev pub wrapped : ℤ → ℤ
wrapped z = int_wrap w16 z

-- ---- DC

-- a DC difference: a code of its category, which is at most 11, and its bits
unfoldable pub difference : Table → Reads ℤ
difference table = do
  s ← symbol_from table
  if nat_le s 11 then signed_from s else refused

-- A DC coefficient on its predictor, at point transform al: the coefficient and the next predictor.
unfoldable pub first_dc : Table → ℕ → ℤ → Reads (ℤ × ℤ)
first_dc table al predictor = do
  d ← difference table
  gives (wrapped (wrapped (predictor +ℤ d) *ℤ pos (2 ^ al)), wrapped (predictor +ℤ d))

-- ---- AC

-- The token of run r and size s, whose code has the size named, where so much room is left of the
-- band. A value that is longer than the room is taken where it and its code have at most 8 bits.
unfoldable pub token_at : ℕ → ℕ → ℕ → ℕ → Reads Token
token_at room size r s =
    if nat_lt 0 s then (
    if nat_lt r room then signed_from s >>= (λ v. gives (Value r v)) else (
    if nat_le (size + s) 8 then signed_from s >>= (λ v. gives Overlong) else gives Overlong))
    else (if r == 15 then gives Sixteen else bits_from r >>= (λ e. gives (Rest (2 ^ r - 1 + e))))

-- the next token: a code of the symbol 16 r + s, and the bits after it
unfoldable pub token_from : Table → ℕ → Reads Token
token_from table room = code_from table >>= (λ c. token_at room c.0 (c.1 / 16) (c.1 % 16))

-- What a pass over the rest of a band gives: its coefficients, and the blocks of the run that
-- follows.
abbrev pub Band : Type 0
Band = List ℤ × ℕ

abbrev pub before_more : List ℤ → Band → Band
before_more front more = (front ++ more.0, more.1)

-- The piece of a token of a first pass, where `others` reads what is after it: r coefficients and a
-- value, sixteen coefficients, or the rest, which is kept. A value that is longer than the rest
-- writes nothing.
abbrev pub after_token : ℕ → (List ℤ → Reads Band) → List ℤ → Token → Reads Band
after_token al others rest (Value r v) =
    others (drop (r + 1) rest) >>= (λ more.
    gives (before_more (take r rest ++ wrapped (v *ℤ pos (2 ^ al)) ∷ []) more))
after_token al others rest Sixteen =
    others (drop 16 rest) >>= (λ more. gives (before_more (take 16 rest) more))
after_token al others rest (Rest run) = gives (rest, run)
after_token al others rest Overlong = gives (rest, 0)

-- The rest of a band, of at most n coefficients, cut into pieces, one a token.
unfoldable pub first_ac : Table → ℕ → ℕ → List ℤ → Reads Band
first_ac table al n [] = gives ([], 0)
first_ac table al zero (x ∷ rest) = refused
first_ac table al (suc n) (x ∷ rest) =
    token_from table (length (x ∷ rest)) >>= after_token al (first_ac table al n) (x ∷ rest)

-- the zeros of a value are within the room
abbrev pub IsWithinRoom : ℕ → Token → Type 0
IsWithinRoom room (Value r v) = r < room
IsWithinRoom room _ = Unit {0}
