-- Differences that 12 bits begin with.
use Rattle.std.proofs.Common.{◌≡◌, ℕ, ℤ, pos, ◌+◌, ◌<◌, ◌≤◌, Bool, true, false, List, ◌++◌, length, take, drop}
use Rattle.std.proofs.Common.{replicate, Some, Ok, refl, sym, ap, ◌∙◌, arith, is_ok, nat_le, le-leb, if◌then◌else◌}
use Rattle.std.proofs.lemmas.List.{take-append-le, take-take, take_all}
use Rattle.jpeg_bits.specs.Entropy.{Text, Ahead, upcoming_by, upcoming, IsFilled, has_buffered, Takes, advance}
use Rattle.jpeg_bits.specs.Entropy.{has_bits, number_of, extended, same_text}
use Rattle.jpeg_bits.specs.Stream.{Stream}
use Rattle.jpeg_bits.specs.Codes.{Table, code_in, code_lengths, next_16, symbol_from, code_from}
use Rattle.jpeg_bits.specs.ShortCodes.{symbol_in, next_bits}
use Rattle.jpeg_bits.specs.Readers.{read_on, gives, signed_from, refused, Reads}
use Rattle.jpeg_bits.specs.Bands.{difference}
use Rattle.jpeg_bits.specs.ShortDifferences.{IsShortDifference}
use Rattle.jpeg_bits.proofs.BufferedBits.{has_bits-buffered, advance-buffered, filled-less, ok_unit}
use Rattle.jpeg_bits.proofs.Fast.{both-buffered}
use Rattle.jpeg_bits.proofs.Loops.{second_ok}
use Rattle.jpeg_bits.proofs.Reservoirs.{same_zeros}
use Rattle.jpeg_bits.proofs.ShortLemmas.{short_agree, value-bits}
use Rattle.jpeg_bits.proofs.Tables.{all-rising}
use Rattle.jpeg_bits.proofs.WideTokens.{seen-code, signed-seen, advanced, buffered-then, front-text}

module _ (table : Table) (counted : length table.counts ≡ 16) (bits : List Bool) (long : length bits ≡ 12)
    (more : List Bool) (symbol size : ℕ) (found : symbol_in table (bits ++ more) ≡ Some (symbol, size)) where
  -- a code that is seen in 12 bits is that of a text which begins with them
  symbol-seen : (t : Text) → next_bits 12 t.bits ≡ bits → size ≤ 12 → has_bits size t.bits t.ending ≡ Ok tt
      → symbol_from table t ≡ Ok (symbol, advance size t)
  unfolding symbol_from code_from
  symbol-seen t e le buffered =
      let lens = code_lengths table.counts in
      let x = bits ++ more in
      let y = next_16 t.bits in
      let first : take 12 x ≡ take 12 bits = take-append-le 12 bits more (omega arith) in
      let second : take 12 y ≡ take 12 bits
      = take-take 12 16 (t.bits ++ replicate 16 false) (omega arith)
      ∙ same_zeros t.bits 12 16 12 (omega arith) (omega arith) ∙ e ∙ sym (take_all 12 bits (omega arith)) in
      let same = short_agree 12 lens (all-rising table.counts counted) x y (first ∙ sym second) in
      ap (read_on (λ (c : ℕ × ℕ). gives c.1))
      (seen-code table 12 symbol size t (code_in lens x) (code_in lens y) found same le buffered)

  -- so is the difference after it
  difference-seen : (t : Text) → next_bits 12 t.bits ≡ bits → symbol ≤ 11 → size + symbol ≤ 12
      → has_bits (size + symbol) t.bits t.ending ≡ Ok tt
      → difference table t
      ≡ Ok (extended (number_of (take symbol (drop size bits))) symbol, advance (size + symbol) t)
  unfolding difference
  difference-seen t e small le buffered =
      let number : take symbol (drop size t.bits ++ replicate symbol false) ≡ take symbol (drop size bits)
      = sym (value-bits 12 t.bits size symbol le) ∙ ap (λ (l : List Bool). take symbol (drop size l)) e in
      let picks : (if nat_le symbol 11 then signed_from symbol else refused) ≡ signed_from symbol
      = rw (le-leb symbol 11 small) refl in
      ap (read_on (λ (s : ℕ). if nat_le s 11 then signed_from s else refused))
      (symbol-seen t e (omega (arith, le)) (both-buffered size symbol t.bits t.ending buffered))
      ∙ ap (λ (r : Reads ℤ). r (advance size t)) picks
      ∙ signed-seen symbol (advance size t) (buffered-then size symbol t buffered)
      ∙ ap (λ (l : List Bool). Ok (extended (number_of l) symbol, advance symbol (advance size t))) number
      ∙ ap (λ (u : Text). Ok (extended (number_of (take symbol (drop size bits))) symbol, u)) (advanced size symbol t)

  pub short-value : (v : ℤ) (n : ℕ) → symbol ≤ 11 → n ≡ size + symbol → n ≤ 12
      → v ≡ extended (number_of (take symbol (drop size bits))) symbol → IsShortDifference table bits (v, n)
  short-value v n small is few e = record {
    few = few;
    reads = λ some t b.
        difference-seen t b.0 small (omega (arith, is, few))
        (ap (λ (k : ℕ). has_bits k t.bits t.ending) (sym is) ∙ b.1)
        ∙ ap (λ (w : ℤ). Ok (w, advance (size + symbol) t)) (sym e)
        ∙ ap (λ (k : ℕ). Ok (v, advance k t)) (sym is);
  }

none-extended : (xs : List Bool) → extended (number_of (take 0 xs)) 0 ≡ pos 0
unfolding extended
none-extended xs = refl

pub short-zero : (table : Table) (counted : length table.counts ≡ 16) (bits : List Bool) (long : length bits ≡ 12)
    (more : List Bool) (symbol size : ℕ) → symbol_in table (bits ++ more) ≡ Some (symbol, size)
    → symbol ≡ 0 → size + symbol ≤ 12 → IsShortDifference table bits (pos 0, size)
short-zero table counted bits long more symbol size found none few =
    short-value table counted bits long more symbol size found (pos 0) size (omega (arith, none)) (omega (arith, none))
    (omega (arith, few))
    (sym (none-extended (drop size bits))
    ∙ ap (λ (s : ℕ). extended (number_of (take s (drop size bits))) s) (sym none))

pub short_none : (table : Table) (bits : List Bool) → IsShortDifference table bits (pos 0, 0)
short_none table bits = record { few = omega arith; reads = λ some t b. absurd (omega (arith, some)) }

-- ---- a difference that is buffered

buffered-text : (table : Table) (v : ℤ) (n : ℕ) (b d : Ahead) (bytes : List ℕ)
    → IsFilled 16 b.bits b.met → IsShortDifference table (next_bits 12 b.bits) (v, n) → 0 < n
    → is_ok (has_buffered n b.bits b.met) ≡ true → d.bits ≡ drop n b.bits → d.met ≡ b.met
    → difference table (upcoming b bytes) ≡ Ok (v, upcoming d bytes)
unfolding upcoming
buffered-text table v n b d bytes filled short some ok eb em =
    let few : n ≤ 16 = omega (arith, short.few) in
    short.reads some (upcoming_by b.bits b.met bytes) (
      front-text 12 b.bits b.met bytes (omega arith) (filled-less 12 16 b.bits b.met (omega arith) filled),
      has_bits-buffered n b.bits b.met bytes (filled-less n 16 b.bits b.met few filled) ∙ ok_unit _ ok,
    )
    ∙ ap (λ (u : Text). Ok (v, u)) (advance-buffered n b.bits b.met bytes (filled-less n 16 b.bits b.met few filled))
    ∙ sym (ap (λ bs. Ok (v, upcoming_by bs d.met bytes)) eb
    ∙ ap (λ m. Ok (v, upcoming_by (drop n b.bits) m bytes)) em)

pub short-taken : (table : Table) (v : ℤ) (n count : ℕ) (u : Unit {0}) (a b d : Ahead) (old new : Stream)
    → count ≡ n → Takes (λ (x : Unit {0}). 0) same_text a old (Ok u) b new
    → IsFilled 16 b.bits b.met → IsShortDifference table (next_bits 12 b.bits) (v, n) → 0 < n
    → true ≡ is_ok (has_buffered count b.bits b.met) → d.bits ≡ drop count b.bits → d.met ≡ b.met
    → Takes (λ (v : ℤ). v) (difference table) a old (Ok v) d new
short-taken table v n count u a b d old new counted p filled short some ok eb em = (
  p.0,
  λ known. (
    (p.1 known).0,
    ap (difference table) (second_ok (p.1 known).1)
        ∙ buffered-text table v n b d new.bytes filled short some
        (ap (λ (k : ℕ). is_ok (has_buffered k b.bits b.met)) (sym counted) ∙ sym ok)
        (eb ∙ ap (λ (k : ℕ). drop k b.bits) counted) em,
  ),
)
