-- A token that is looked up is the token that is defined.
use Rattle.std.proofs.Common.{◌≡◌, ◌⊎◌, inl, inr, ℕ, ◌+◌, ◌-◌, ◌/◌, ◌%◌, ◌^◌, nat_lt, nat_le, Bool, true, false, List}
use Rattle.std.proofs.Common.{◌++◌, take, drop, replicate, slice_index, ℤ, pos, Option, Some, None, Result, Ok, Err}
use Rattle.std.proofs.Common.{refl, sym, ap, ◌∙◌, arith, length-drop}
use Rattle.std.proofs.lemmas.Bool.{le-leb, lt-leb, lt-ltb, cases_lt, false≢true}
use Rattle.jpeg_bits.specs.Reading.{Fault, ◌>>=◌ as ◌>>r=◌}
use Rattle.jpeg_bits.specs.Entropy.{Text, Ending, has_bits, bits_from, advance, number_of, extended}
use Rattle.jpeg_bits.specs.Codes.{Table, code_in, code_lengths, next_16, symbol_from, is_ac, short_token, after_code}
use Rattle.jpeg_bits.specs.Codes.{short_code_by, short_code_from, short_value, fast_from, code_by, code_from}
use Rattle.jpeg_bits.proofs.BufferedBits.{if_buffered}
use Rattle.jpeg_bits.specs.Readers.{Reads, ◌>>=◌, gives, read_on, signed_from}
use Rattle.jpeg_bits.specs.Bands.{difference, token_at, token_from}
use Rattle.jpeg_bits.specs.Lookups.{value_token, slow_token, fast_or, looked_up}
use Rattle.jpeg_bits.specs.declared.blocks.tokens.Token.{Token}
use Rattle.jpeg_bits.specs.declared.blocks.tokens.Token.TheVariants.{Rest}

advance-none : (t : Text) → advance 0 t ≡ t
advance-none t = refl

take-none : (xs : List Bool) → number_of (take 0 xs) ≡ 0
take-none xs = refl

has-none : (bits : List Bool) (e : Ending) → has_bits 0 bits e ≡ Ok tt
has-none bits e = grind (arith, le-leb)

pub no-bits : (t : Text) → bits_from 0 t ≡ Ok (0, t)
unfolding bits_from
no-bits t = rw (has-none t.bits t.ending, take-none (t.bits ++ replicate 0 false), advance-none t) refl

-- a number of no bits
pub no-number : (t : Text) → signed_from 0 t ≡ Ok (pos 0, t)
unfolding signed_from extended
no-number t = ap (read_on (λ v. gives (extended v 0))) (no-bits t)

-- a difference of category 0
pub no_difference : (table : Table) (s : ℕ) (t u : Text) → symbol_from table t ≡ Ok (s, u) → s ≡ 0
    → difference table t ≡ Ok (pos 0, u)
unfolding difference
no_difference table s t u e none = rw (e, none) (no-number u)

rest-same : (r : ℕ) (t : Text) → read_on (λ e. gives (Rest (2 ^ r - 1 + e))) (bits_from r t)
    ≡ (elim (nat_lt 0 r) as (λ _. Reads Token) [
      | true ↦ bits_from r >>= (λ e. gives (Rest (2 ^ r - 1 + e)))
      | false ↦ gives (Rest 0)
    ]) t
rest-same r t = grind (arith, no-bits, lt-ltb)

-- a token that isn't short
slow-same : (room size r s : ℕ) (t : Text) (a : Bool) → nat_lt 0 s ≡ a → (a ≡ true → nat_le (size + s) 8 ≡ false)
    → token_at room size r s t ≡ slow_token room r s t
unfolding token_at slow_token
slow-same room size r s t a e long = grind (arith, nat_lt, rest-same, nat_le, false≢true)

-- a token that is short
value-same : (room size r s : ℕ) (t : Text) → nat_lt 0 s ≡ true → nat_le (size + s) 8 ≡ true
    → token_at room size r s t ≡ read_on (λ v. gives (value_token room r v)) (signed_from s t)
unfolding token_at
value-same room size r s t e short = grind (arith, nat_lt, nat_le, false≢true)

-- ---- bits that can be taken

pub both-buffered : (n s : ℕ) (bits : List Bool) (e : Ending) → has_bits (n + s) bits e ≡ Ok tt →
    has_bits n bits e ≡ Ok tt
both-buffered n s bits e h = grind (arith, cases_lt, lt-leb, le-leb)

-- where n + s bits can't be taken, the n can't, or the s after them
not-buffered : (n s : ℕ) (bits : List Bool) (e : Ending) (f : Fault) → has_bits (n + s) bits e ≡
    Err f
    → (has_bits n bits e ≡ Err f) ⊎ ((has_bits n bits e ≡ Ok tt) × (has_bits s (drop n bits) e ≡ Err f))
not-buffered n s bits e f h = grind (arith, cases_lt, lt-leb, le-leb, length-drop)

signed-refused : (s : ℕ) (t : Text) (f : Fault) → has_bits s t.bits t.ending ≡ Err f → signed_from s t ≡ Err f
unfolding signed_from bits_from
signed-refused s t f h = rw h refl

-- ---- the look-up

abbrev by_code : ℕ → Result ((ℕ × ℕ) × Text) Fault → Result (Token × Text) Fault
by_code room o = read_on (λ c. token_at room c.0 (c.1 / 16) (c.1 % 16)) o

abbrev by_look : Table → ℕ → Result (Option (ℕ × ℕ) × Text) Fault → Result (Token × Text) Fault
by_look table room o = read_on (fast_or table room) (read_on short_value o)

value-look : (table : Table) (room r : ℕ) (o : Result (ℤ × Text) Fault)
    → read_on (λ v. gives (value_token room r v)) o ≡ read_on (fast_or table room) (read_on (λ v. gives (Some (v, r)))
    o)
value-look table room r o = grind arith

-- a code of a symbol that is short
module _ (table : Table) (room n symbol : ℕ) (t : Text) (some : nat_lt 0 (symbol % 16) ≡ true)
    (short : nat_le (n + symbol % 16) 8 ≡ true) where
  at-value : by_code room (Ok ((n, symbol), advance n t)) ≡ read_on (λ v. gives (value_token room (symbol / 16) v))
      (signed_from (symbol % 16) (advance n t))
  at-value = value-same room n (symbol / 16) (symbol % 16) (advance n t) some short

  pub at-short : (o : Result (Unit {0}) Fault) → has_bits (n + symbol % 16) t.bits t.ending ≡ o
      → by_code room (if_buffered (n, symbol) (advance n t) (has_bits n t.bits t.ending))
      ≡ by_look table room (◌>>r=◌ {B = Option (ℕ × ℕ) × Text} o (λ (u : Unit {0}).
      Ok (Some (symbol / 16, symbol % 16), advance n t)))
  at-short (Ok u) h = grind (arith, both-buffered, at-value, value-look)
  at-short (Err f) h =
      elim (not-buffered n (symbol % 16) t.bits t.ending f h) [
        | inl e ↦ ap (λ o. by_code room (if_buffered (n, symbol) (advance n t) o)) e
        | inr p ↦
            ap (λ o. by_code room (if_buffered (n, symbol) (advance n t) o)) p.0
            ∙ at-value ∙ ap (read_on (λ v. gives (value_token room (symbol / 16) v)))
            (signed-refused (symbol % 16) (advance n t) f p.1)
      ]

abbrev symbol_in_code : Result ((ℕ × ℕ) × Text) Fault → Result (ℕ × Text) Fault
symbol_in_code o = read_on (λ (c : ℕ × ℕ). gives c.1) o

-- a code of another symbol
at-long : (room n symbol : ℕ) (t : Text) (a : Bool) → nat_lt 0 (symbol % 16) ≡ a
    → (a ≡ true → nat_le (n + symbol % 16) 8 ≡ false) → (o : Result (Unit {0}) Fault)
    → by_code room (if_buffered (n, symbol) t o) ≡ read_on (λ (c : ℕ). slow_token room (c / 16) (c % 16))
    (symbol_in_code (if_buffered (n, symbol) t o))
at-long room n symbol t a e long o = grind (arith, slow-same)

module _ (table : Table) (room : ℕ) (ac : is_ac table.class ≡ true) (t : Text) where
  at-slow : (c : ℕ × ℕ) → symbol_from table t ≡ symbol_in_code (code_by table t (Some c))
      → short_token table c ≡ None → (a : Bool)
      → nat_lt 0 (slice_index table.symbols c.0 % 16) ≡ a
      → (a ≡ true → nat_le (c.1 + slice_index table.symbols c.0 % 16) 8 ≡ false)
      → by_code room (code_by table t (Some c)) ≡ by_look table room (short_code_by table t (Some c))
  at-slow c hs none a ha long =
      at-long _ _ _ _ a ha long _
      ∙ sym (ap (read_on (λ (k : ℕ). slow_token room (k / 16) (k % 16))) hs)
      ∙ sym (ap (λ k. by_look table room (after_code c.1 t k)) none)

  at-code : (c : ℕ × ℕ) → symbol_from table t ≡ symbol_in_code (code_by table t (Some c)) → (a b : Bool)
      → nat_lt 0 (slice_index table.symbols c.0 % 16) ≡ a → nat_le (c.1 + slice_index table.symbols c.0 % 16) 8 ≡ b
      → by_code room (code_by table t (Some c)) ≡ by_look table room (short_code_by table t (Some c))
  at-code c hs true true ha hb =
      let symbol = slice_index table.symbols c.0 in
      let short : short_token table c ≡ Some (symbol / 16, symbol % 16) = rw (ac, ha, hb) refl in
      at-short table room c.1 symbol t ha hb _ refl
      ∙ sym (ap (λ k. by_look table room (after_code c.1 t k)) short)
  at-code c hs true false ha hb = at-slow c hs (rw (ac, ha, hb) refl) true ha (λ e. hb)
  at-code c hs false b ha hb = at-slow c hs (rw (ac, ha) refl) false ha (λ e. absurd (false≢true e))

  at-any : (o : Option (ℕ × ℕ)) → symbol_from table t ≡ symbol_in_code (code_by table t o)
      → by_code room (code_by table t o) ≡ by_look table room (short_code_by table t o)
  at-any o hs = grind (arith, at-code, nat_lt, slice_index, nat_le)

  -- A token that is looked up, in a table for AC, is the token that is defined.
  pub tokens-same : token_from table room t ≡ looked_up table room t
  unfolding token_from looked_up code_from fast_from short_code_from symbol_from
  tokens-same = at-any (code_in (code_lengths table.counts) (next_16 t.bits)) refl
