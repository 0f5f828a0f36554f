-- The readers of entropy-coded bits read the same of a text whose bytes go on after its end.
use Rattle.std.proofs.Common.{rules, ◌≡◌, inl, ℕ, zero, suc, Bool, true, false, List, [], ◌∷◌, ◌++◌, drop, refl, sym}
use Rattle.std.proofs.Common.{ap, ◌∙◌}
use Rattle.std.proofs.Common.{Ok, Err, Result, Option, Some, None, ℤ, if◌then◌else◌, map}
use Rattle.std.proofs.lemmas.List.{drop-map}
use Rattle.jpeg_bits.specs.Reading.{Fault}
use Rattle.jpeg_bits.specs.Reading as reading
use Rattle.jpeg_bits.specs.Entropy.{Broken, Ending, Found, Stops, Text, advance, bits_from, has_bits, number_of}
use Rattle.jpeg_bits.specs.Readers.{Reads, each, read_on, gives, refused, signed_from, ◌>>=◌}
use Rattle.jpeg_bits.specs.Codes.{Table, code_by, code_from, code_in, code_lengths, next_16, symbol_from}
use Rattle.jpeg_bits.specs.Bands.{Band, after_token, difference, first_ac, first_dc, token_at, token_from}
use Rattle.jpeg_bits.specs.Refinement.{corrected, corrected_by, refined_ac, refined_piece}
use Rattle.jpeg_bits.specs.Passes.{Block, Pass, Via, band_part, block_from, dc_part}
use Rattle.jpeg_bits.specs.declared.blocks.tokens.Token.{Token}
use Rattle.jpeg_bits.specs.declared.blocks.tokens.Token.TheVariants.{Value}
use Rattle.jpeg_bits.proofs.TakenTexts.{Taken, TakesBits, bind-takes, block-takes, gives-takes}
use Rattle.jpeg_bits.proofs.TakenTexts.Taken.{gave, failed}
use Rattle.jpeg_segments.proofs.Codecs.{err-ok, ok-same}
use Rattle.jpeg_meaning.specs.InTurn.{Reached, turn_from}
use Rattle.jpeg_meaning.specs.Order.{Spot}
use Rattle.jpeg_meaning.proofs.Longer.LongerData.{later}

-- these bytes, and more
abbrev pub and_more : List ℕ → List ℕ → List ℕ
and_more more bytes = bytes ++ more

-- a text whose bytes go on after its end
abbrev pub later_text : List ℕ → Text → Text
later_text more t = record {
  bits = t.bits;
  following = map (and_more more) t.following;
  ending = later t.ending more;
}

abbrev pub later_result : {A : Type 0} → List ℕ → Result (A × Text) Fault → Result (A × Text) Fault
later_result more (Ok r) = Ok (r.0, later_text more r.1)
later_result more (Err e) = Err e

-- The same is read, and the bytes after it go on.
unfoldable pub IsLater : {A : Type 0} → List ℕ → Reads A → Type 0
IsLater more p = (t : Text) → p (later_text more t) ≡ later_result more (p t)

on-later : {A B : Type 0} (more : List ℕ) (f : A → Reads B)
    → ((x : A) (u : Text) → f x (later_text more u) ≡ later_result more (f x u))
    → (o : Result (A × Text) Fault) → read_on f (later_result more o) ≡ later_result more (read_on f o)
on-later more f h (Ok r) = h r.0 r.1
on-later more f h (Err e) = refl

pub bind-later : {A B : Type 0} (more : List ℕ) (p : Reads A) (f : A → Reads B) → IsLater more p
    → ((x : A) → IsLater more (f x)) → IsLater more (p >>= f)
unfolding IsLater
bind-later more p f h k = λ t. ap (read_on f) (h t) ∙ on-later more f k (p t)

pub gives-later : {A : Type 0} (more : List ℕ) (x : A) → IsLater more (gives x)
unfolding IsLater
gives-later more x = λ t. refl

pub refused-later : (more : List ℕ) (A : Type 0) → IsLater {A = A} more refused
unfolding IsLater
refused-later more A = λ t. refl

pub if-later : {A : Type 0} (more : List ℕ) (b : Bool) (p q : Reads A) → IsLater more p → IsLater more q
    → IsLater more (if b then p else q)
if-later more true p q x y = x
if-later more false p q x y = y

pub each-later : {A B : Type 0} (more : List ℕ) (read : A → Reads B) (xs : List A)
    → ((x : A) → IsLater more (read x)) → IsLater more (each read xs)
unfolding each
each-later more read [] h = gives-later more []
each-later more read (x ∷ xs) h = search (rules, bind-later, gives-later, each-later more read xs h)

-- ---- bits and codes

has-later : (n : ℕ) (bits : List Bool) (e : Ending) (more : List ℕ) → has_bits n bits (later e more) ≡ has_bits n bits e
has-later n bits (Found m rest) more = refl
has-later n bits (Stops m rest) more = refl
has-later n bits (Broken f) more = refl

pub advance-later : (more : List ℕ) (n : ℕ) (t : Text) → advance n (later_text more t) ≡ later_text more (advance n t)
advance-later more n t =
    ap (λ (l : List (List ℕ)). record { bits = drop n t.bits; following = l; ending = later t.ending more })
    (drop-map (and_more more) n t.following)

-- so many bits are passed over, if they are there
taken-later : {A : Type 0} (more : List ℕ) (n : ℕ) (x : A) (t : Text) → (o : Result (Unit {0}) Fault)
    → reading.◌>>=◌ o (λ u. Ok (x, advance n (later_text more t)))
    ≡ later_result more (reading.◌>>=◌ o (λ u. Ok (x, advance n t)))
taken-later more n x t (Ok u) = ap (λ (a : Text). Ok (x, a)) (advance-later more n t)
taken-later more n x t (Err e) = refl

pub bits-later : (more : List ℕ) (n : ℕ) → IsLater more (bits_from n)
unfolding IsLater bits_from
bits-later more n = λ t. rw (has-later n t.bits t.ending more) (taken-later more n _ t (has_bits n t.bits t.ending))

code-later-by : (more : List ℕ) (table : Table) (t : Text) (o : Option (ℕ × ℕ))
    → code_by table (later_text more t) o ≡ later_result more (code_by table t o)
code-later-by more table t None = refl
code-later-by more table t (Some c) =
    rw (has-later c.1 t.bits t.ending more) (taken-later more c.1 _ t (has_bits c.1 t.bits t.ending))

pub code-later : (more : List ℕ) (table : Table) → IsLater more (code_from table)
unfolding IsLater code_from
code-later more table = λ t. code-later-by more table t (code_in (code_lengths table.counts) (next_16 t.bits))

pub symbol-later : (more : List ℕ) (table : Table) → IsLater more (symbol_from table)
unfolding symbol_from
symbol-later more table = search (rules, bind-later, code-later, gives-later)

pub signed-later : (more : List ℕ) (n : ℕ) → IsLater more (signed_from n)
unfolding signed_from
signed-later more n = search (rules, bind-later, bits-later, gives-later)

-- ---- first passes

difference-later : (more : List ℕ) (table : Table) → IsLater more (difference table)
unfolding difference
difference-later more table = search (rules, bind-later, symbol-later, if-later, signed-later, refused-later)

first_dc-later : (more : List ℕ) (table : Table) (al : ℕ) (predictor : ℤ)
    → IsLater more (first_dc table al predictor)
unfolding first_dc
first_dc-later more table al predictor = search (rules, bind-later, difference-later, gives-later)

token_at-later : (more : List ℕ) (room size r s : ℕ) → IsLater more (token_at room size r s)
unfolding token_at
token_at-later more room size r s = search (rules, if-later, bind-later, signed-later, bits-later, gives-later)

after-later : (more : List ℕ) (al : ℕ) (others : List ℤ → Reads Band) (rest : List ℤ)
    → ((rest : List ℤ) → IsLater more (others rest)) → (token : Token)
    → IsLater more (after_token al others rest token)
after-later more al others rest h (Value r v) = search (rules, bind-later, gives-later)
after-later more al others rest h token = search (rules, bind-later, gives-later)

first_ac-later : (more : List ℕ) (table : Table) (al n : ℕ) (rest : List ℤ) → IsLater more (first_ac table al n rest)
unfolding first_ac token_from
first_ac-later more table al (suc n) (x ∷ rest) =
    search (rules, bind-later, code-later, token_at-later, after-later, first_ac-later more table al n)
first_ac-later more table al n rest = search (rules, gives-later, refused-later)

dc-later : (more : List ℕ) (p : Pass) (dc : Table) (z predictor : ℤ) → IsLater more (dc_part p dc z predictor)
unfolding dc_part
dc-later more p dc z predictor = search (rules, if-later, first_dc-later, bind-later, bits-later, gives-later)

-- ---- refinements

moved-later : (more : List ℕ) (al : ℕ) (z : ℤ) (b : ℕ) → IsLater more (corrected_by al z b)
moved-later more al z b = search (rules, if-later, gives-later, refused-later)

corrected-later : (more : List ℕ) (al : ℕ) (band : List ℤ) → IsLater more (corrected al band)
unfolding corrected
corrected-later more al band = search (rules, each-later, bind-later, if-later, gives-later, bits-later, moved-later)

piece-later : (more : List ℕ) (al : ℕ) (others : List ℤ → Reads Band) (rest : List ℤ)
    → ((rest : List ℤ) → IsLater more (others rest)) → (r s : ℕ) → IsLater more (refined_piece al others rest r s)
unfolding refined_piece
piece-later more al others rest h r s =
    search (rules, if-later, bind-later, bits-later, corrected-later, gives-later, refused-later) depth 8

refined_ac-later : (more : List ℕ) (table : Table) (al n : ℕ) (rest : List ℤ)
    → IsLater more (refined_ac table al n rest)
unfolding refined_ac
refined_ac-later more table al (suc n) (x ∷ rest) =
    search (rules, bind-later, symbol-later, piece-later, refined_ac-later more table al n)
refined_ac-later more table al n rest = search (rules, gives-later, refused-later)

-- ---- blocks

band-later : (more : List ℕ) (p : Pass) (ac : Table) (band : List ℤ) (run : ℕ) → IsLater more (band_part p ac band run)
unfolding band_part
band-later more p ac [] run = gives-later more _
band-later more p ac (x ∷ band) zero = search (rules, if-later, first_ac-later, refined_ac-later)
band-later more p ac (x ∷ band) (suc run) = search (rules, if-later, gives-later, bind-later, corrected-later)

block-later : (more : List ℕ) (p : Pass) (dc ac : Table) (predictor : ℤ) (run : ℕ) (old : Block)
    → IsLater more (block_from p dc ac predictor run old)
unfolding block_from
block-later more p dc ac predictor run old = search (rules, bind-later, dc-later, band-later, gives-later)

pub turn-later : (more : List ℕ) (p : Pass) (vias : List Via) (s : Spot) (old : Reached)
    → IsLater more (turn_from p vias s old)
unfolding turn_from
turn-later more p vias s old = search (rules, bind-later, block-later, gives-later)

-- ---- the end

end-by : {A : Type 0} (p : Reads A) (t : Text) (r : A × Text) → p t ≡ Ok r → Taken p t.bits t.ending
    → r.1.ending ≡ t.ending
end-by p t r e (gave n x is) =
    ap (λ (q : _ × Text). q.1.ending) (ok-same r _ (sym e ∙ is t.ending t.following (inl refl)))
end-by p t r e (failed g is) = absurd (err-ok g r (sym (is t.following) ∙ e))

-- What is read leaves the end of the text.
pub end-kept : {A : Type 0} (p : Reads A) → TakesBits p → (t : Text) (r : A × Text) → p t ≡ Ok r
    → r.1.ending ≡ t.ending
unfolding TakesBits
end-kept p h t r e = end-by p t r e (h t.bits t.ending)

pub turn-takes : (p : Pass) (vias : List Via) (s : Spot) (old : Reached) → TakesBits (turn_from p vias s old)
unfolding turn_from
turn-takes p vias s old = search (rules, bind-takes, block-takes, gives-takes)
