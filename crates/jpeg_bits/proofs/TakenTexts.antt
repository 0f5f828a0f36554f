-- Readers of entropy-coded bits go by the bits of a text and its end alone, and take some first bits.
use Rattle.std.proofs.Common.{rules, ◌≡◌, ◌⊎◌, inl, inr, ℕ, zero, suc, ◌+◌, Bool, false, List, [], ◌∷◌}
use Rattle.std.proofs.Common.{◌++◌, take, drop, replicate, refl, ap, ap₂, ◌∙◌, arith, Ok, Err, Result}
use Rattle.std.proofs.Common.{Option, Some, None, ℤ, slice_index, if◌then◌else◌}
use Rattle.std.proofs.lemmas.List.{drop-drop}
use Rattle.std.proofs.lemmas.Grind.{common_steps}
use Rattle.jpeg_bits.specs.Reading.{Fault, Malformed}
use Rattle.jpeg_bits.specs.Reading as outcomes
use Rattle.jpeg_bits.specs.Entropy.{advance, bits_from, closed, has_bits, number_of, Broken, Ending, Found, Stops, Text}
use Rattle.jpeg_bits.specs.declared.beyond.Beyond.TheVariants.{Nothing}
use Rattle.jpeg_bits.specs.Readers.{Reads, each, read_on, gives, refused, signed_from, text, ◌>>=◌}
use Rattle.jpeg_bits.specs.Codes.{Table, code_by, code_from, code_in, code_lengths, next_16, symbol_from}
use Rattle.jpeg_bits.specs.Bands.{Band, after_token, difference, first_ac, first_dc, token_at, token_from}
use Rattle.jpeg_bits.specs.Refinement.{corrected, corrected_by, refined_ac, refined_piece}
use Rattle.jpeg_bits.specs.Passes.{Block, Pass, Via, band_part, block_from, blocks_of, dc_part}
use Rattle.jpeg_bits.specs.declared.blocks.tokens.Token.{Token}
use Rattle.jpeg_bits.specs.declared.blocks.tokens.Token.TheVariants.{Value}

-- ---- readers

-- an end before which no bit follows those that are there
abbrev pub IsStrict : Ending → Type 0
IsStrict (Found m rest) = ⊥
IsStrict (Stops m rest) = Unit {0}
IsStrict (Broken f) = Unit {0}

pub stopping-strict : (e : Ending) → IsStrict (closed Nothing e)
stopping-strict (Found m rest) = tt
stopping-strict (Stops m rest) = tt
stopping-strict (Broken f) = tt

-- What is read before the end e is read before f: it is the same, or no bit was read of it.
abbrev pub IsAs : Ending → Ending → Type 0
IsAs e f = (f ≡ e) ⊎ IsStrict e

-- What is read of these bits before this end, whatever follows the bits: n bits give x, or a fault.
pub data Taken {A : Type 0} (p : Reads A) (bits : List Bool) (e : Ending) : Type 0 where
  gave : (n : ℕ) (x : A)
      → ((f : Ending) (ps : List (List ℕ)) → IsAs e f
      → p (text bits ps f) ≡ Ok (x, text (drop n bits) (drop n ps) f)) → Taken p bits e
  failed : (g : Fault) → ((ps : List (List ℕ)) → p (text bits ps e) ≡ Err g) → Taken p bits e

unfoldable pub TakesBits : {A : Type 0} → Reads A → Type 0
TakesBits p = (bits : List Bool) (e : Ending) → Taken p bits e

then-taken : {A B : Type 0} (p : Reads A) (f : A → Reads B) → ((x : A) → TakesBits (f x)) → (bits : List Bool)
    (e : Ending) → Taken p bits e → Taken (p >>= f) bits e
unfolding TakesBits
then-taken {A} {B} p f each bits e (failed g is) = failed g (λ ps. ap (read_on f) (is ps))
then-taken {A} {B} p f each bits e (gave n x is) = go (each x (drop n bits) e)
  where
    go : Taken (f x) (drop n bits) e → Taken (p >>= f) bits e
    go (failed g fails) = failed g (λ ps. ap (read_on f) (is e ps (inl refl)) ∙ fails (drop n ps))
    go (gave m y more) = gave (n + m) y (λ h ps c. ap (read_on f) (is h ps c) ∙ more h (drop n ps) c
        ∙ ap₂ (λ (l : List Bool) (qs : List (List ℕ)). Ok (y, text l qs h)) (drop-drop m n bits) (drop-drop m n ps))

pub bind-takes : {A B : Type 0} (p : Reads A) (f : A → Reads B) → TakesBits p → ((x : A) → TakesBits (f x))
    → TakesBits (p >>= f)
unfolding TakesBits
bind-takes p f h each = λ bits e. then-taken p f each bits e (h bits e)

pub gives-takes : {A : Type 0} (x : A) → TakesBits (gives x)
unfolding TakesBits
gives-takes x = λ bits e. gave 0 x (λ f ps c. refl)

pub refused-takes : (A : Type 0) → TakesBits {A = A} refused
unfolding TakesBits
refused-takes A = λ bits e. failed Malformed (λ ps. refl)

pub if-takes : {A : Type 0} (b : Bool) (p q : Reads A) → TakesBits p → TakesBits q
    → TakesBits (if b then p else q)
if-takes b p q x y = grind arith

pub each-takes : {A B : Type 0} (read : A → Reads B) (xs : List A) → ((x : A) → TakesBits (read x))
    → TakesBits (each read xs)
unfolding each
each-takes read [] h = gives-takes []
each-takes read (x ∷ xs) h = search (rules, bind-takes, gives-takes, each-takes read xs h)

-- ---- bits and codes

-- bits that are there can be taken whatever follows them
has-anywhere : (n : ℕ) (bits : List Bool) (e f : Ending) (u : Unit {0}) → IsAs e f → has_bits n bits e ≡ Ok u
    → has_bits n bits f ≡ Ok tt
has-anywhere n bits e f u (inl same) h = ap (has_bits n bits) same ∙ h
has-anywhere n bits (Found m rest) f u (inr strict) h = absurd strict
has-anywhere n bits (Stops m rest) f u (inr strict) h = grind (arith, common_steps)
has-anywhere n bits (Broken g) f u (inr strict) h = grind (arith, common_steps)

-- a reader that needs n bits, and takes them
abbrev takes_bits : {A : Type 0} → ℕ → A → Text → Result (Unit {0}) Fault → Result (A × Text) Fault
takes_bits n x t o = outcomes.◌>>=◌ o (λ _. Ok (x, advance n t))

taken-n : {A : Type 0} (p : Reads A) (n : ℕ) (x : A) (bits : List Bool) (e : Ending)
    → ((f : Ending) (ps : List (List ℕ)) → p (text bits ps f) ≡ takes_bits n x (text bits ps f) (has_bits n bits f))
    → Taken p bits e
taken-n p n x bits e is = go (has_bits n bits e) refl
  where
    go : (o : Result (Unit {0}) Fault) → has_bits n bits e ≡ o → Taken p bits e
    go (Ok u) h = gave n x (λ f ps c. is f ps ∙ ap (takes_bits n x (text bits ps f)) (has-anywhere n bits e f u c h))
    go (Err g) h = failed g (λ ps. is e ps ∙ ap (takes_bits n x (text bits ps e)) h)

bits-takes : (n : ℕ) → TakesBits (bits_from n)
unfolding TakesBits bits_from
bits-takes n bits e = taken-n (bits_from n) n (number_of (take n (bits ++ replicate n false))) bits e (λ f ps. refl)

code-takes : (table : Table) → TakesBits (code_from table)
unfolding TakesBits code_from
code-takes table = λ bits e. go bits e (code_in (code_lengths table.counts) (next_16 bits)) refl
  where
    go : (bits : List Bool) (e : Ending) (o : Option (ℕ × ℕ))
        → code_in (code_lengths table.counts) (next_16 bits) ≡ o → Taken (code_from table) bits e
    go bits e None h = failed Malformed (λ ps. ap (code_by table (text bits ps e)) h)
    go bits e (Some c) h = taken-n (code_from table) c.1 (c.1, slice_index table.symbols c.0) bits e
        (λ f ps. ap (code_by table (text bits ps f)) h)

pub symbol-takes : (table : Table) → TakesBits (symbol_from table)
unfolding symbol_from
symbol-takes table = search (rules, bind-takes, code-takes, gives-takes)

pub signed-takes : (n : ℕ) → TakesBits (signed_from n)
unfolding signed_from
signed-takes n = search (rules, bind-takes, bits-takes, gives-takes)

-- ---- first passes

difference-takes : (table : Table) → TakesBits (difference table)
unfolding difference
difference-takes table = search (rules, bind-takes, symbol-takes, if-takes, signed-takes, refused-takes)

first_dc-takes : (table : Table) (al : ℕ) (predictor : ℤ) → TakesBits (first_dc table al predictor)
unfolding first_dc
first_dc-takes table al predictor = search (rules, bind-takes, difference-takes, gives-takes)

token_at-takes : (room size r s : ℕ) → TakesBits (token_at room size r s)
unfolding token_at
token_at-takes room size r s = search (rules, if-takes, bind-takes, signed-takes, bits-takes, gives-takes)

after-takes : (al : ℕ) (others : List ℤ → Reads Band) (rest : List ℤ)
    → ((rest : List ℤ) → TakesBits (others rest)) → (token : Token) → TakesBits (after_token al others rest token)
after-takes al others rest h (Value r v) = search (rules, bind-takes, gives-takes)
after-takes al others rest h n = search (rules, bind-takes, gives-takes)

first_ac-takes : (table : Table) (al n : ℕ) (rest : List ℤ) → TakesBits (first_ac table al n rest)
unfolding first_ac token_from
first_ac-takes table al (suc n) (x ∷ rest) =
    search (rules, bind-takes, code-takes, token_at-takes, after-takes, first_ac-takes table al n)
first_ac-takes table al n rest = search (rules, gives-takes, refused-takes)

dc-takes : (p : Pass) (dc : Table) (z predictor : ℤ) → TakesBits (dc_part p dc z predictor)
unfolding dc_part
dc-takes p dc z predictor = search (rules, if-takes, first_dc-takes, bind-takes, bits-takes, gives-takes)

-- ---- refinements

moved-takes : (al : ℕ) (z : ℤ) (b : ℕ) → TakesBits (corrected_by al z b)
moved-takes al z b = search (rules, if-takes, gives-takes, refused-takes)

corrected-takes : (al : ℕ) (band : List ℤ) → TakesBits (corrected al band)
unfolding corrected
corrected-takes al band = search (rules, each-takes, bind-takes, if-takes, gives-takes, bits-takes, moved-takes)

piece-takes : (al : ℕ) (others : List ℤ → Reads Band) (rest : List ℤ)
    → ((rest : List ℤ) → TakesBits (others rest)) → (r s : ℕ) → TakesBits (refined_piece al others rest r s)
unfolding refined_piece
piece-takes al others rest h r s =
    search (rules, if-takes, bind-takes, bits-takes, corrected-takes, gives-takes, refused-takes) depth 8

refined_ac-takes : (table : Table) (al n : ℕ) (rest : List ℤ) → TakesBits (refined_ac table al n rest)
unfolding refined_ac
refined_ac-takes table al (suc n) (x ∷ rest) =
    search (rules, bind-takes, symbol-takes, piece-takes, refined_ac-takes table al n)
refined_ac-takes table al n rest = search (rules, gives-takes, refused-takes)

-- ---- blocks

band-takes : (p : Pass) (ac : Table) (band : List ℤ) (run : ℕ) → TakesBits (band_part p ac band run)
unfolding band_part
band-takes p ac [] run = gives-takes _
band-takes p ac (x ∷ band) zero = search (rules, if-takes, first_ac-takes, refined_ac-takes)
band-takes p ac (x ∷ band) (suc run) = search (rules, if-takes, gives-takes, bind-takes, corrected-takes)

pub block-takes : (p : Pass) (dc ac : Table) (predictor : ℤ) (run : ℕ) (old : Block)
    → TakesBits (block_from p dc ac predictor run old)
unfolding block_from
block-takes p dc ac predictor run old = search (rules, bind-takes, dc-takes, band-takes, gives-takes)

pub blocks-takes : (p : Pass) (predictors : List ℤ) (run : ℕ) (turns : List (Via × Block))
    → TakesBits (blocks_of p predictors run turns)
unfolding blocks_of
blocks-takes p predictors run [] = gives-takes _
blocks-takes p predictors run (t ∷ turns) =
    let others : (xs : List ℤ) (run : ℕ) → TakesBits (blocks_of p xs run turns)
    = λ xs run. blocks-takes p xs run turns in
    search (rules, bind-takes, block-takes, gives-takes)
