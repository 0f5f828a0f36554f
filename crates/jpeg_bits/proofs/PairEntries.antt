-- The values that 11 bits begin with, and the end of the block after them: how they are read, and how
-- their table is filled.
use Rattle.std.proofs.Common.{◌≡◌, ℕ, ℤ, pos, ◌+◌, ◌-◌, ◌*◌, ◌/◌, ◌%◌, ◌^◌, ◌<◌, ◌≤◌, ◌*ℤ◌, ◌==◌, ◌&&◌, nat_le, Bool}
use Rattle.std.proofs.Common.{true, false, List, ◌++◌, length, drop, replicate, get_or, set, Option, Some, None, Ok}
use Rattle.std.proofs.Common.{refl, sym, ap, ◌∙◌, subst, arith, append_assoc, if◌then◌else◌, is_ok}
use Rattle.std.proofs.lemmas.Bool.Decides.{nat_tests}
use Rattle.std.proofs.lemmas.Bool.{false≢true}
use Rattle.jpeg_bits.specs.Stream.{Stream}
use Rattle.jpeg_bits.specs.Entropy.{Text, Ahead, Takes, IsFilled, upcoming, upcoming_by, same_text}
use Rattle.jpeg_bits.specs.Entropy.{advance, has_buffered}
use Rattle.jpeg_bits.specs.Codes.{Table}
use Rattle.jpeg_bits.specs.ShortCodes.{HoldsCodes, next_bits, short_code, symbol_in, unpacked_code}
use Rattle.jpeg_bits.specs.Written.{low_bits}
use Rattle.jpeg_bits.specs.Bands.{token_from, wrapped}
use Rattle.jpeg_bits.specs.Passes.{Pass}
use Rattle.jpeg_bits.specs.Zigzag.{zigzag}
use Rattle.jpeg_bits.specs.BlockView.{IsPass}
use Rattle.jpeg_bits.specs.ZigzagParts.{band_start, band_end, band_in}
use Rattle.jpeg_bits.specs.Pairs.{pair_of, after_values, end_alone, with_end, ended}
use Rattle.jpeg_bits.specs.Pairs.{EndsAfter, IsPairOf, IsWithinPassed, Nothing, Values, Ended, Alone}
use Rattle.jpeg_bits.specs.Entropy.{Met}
use Rattle.jpeg_bits.specs.declared.huffman.pairs.Pair.{Pair}
use Rattle.jpeg_bits.specs.declared.blocks.tokens.Token.{Token}
use Rattle.jpeg_bits.specs.declared.blocks.tokens.Token.TheVariants.{Rest}
use Rattle.jpeg_bits.proofs.BufferedBits.{has_bits-buffered, advance-buffered, filled-less, ok_unit}
use Rattle.jpeg_bits.proofs.ShortLemmas.{length-next_bits, fewer-buffered, eleven_padded, symbol_found}
use Rattle.jpeg_bits.proofs.BlockParts.{IsAtIndex, band_from, index-end, index-last}
use Rattle.jpeg_bits.proofs.WideTokens.{Seen, pair-seen, pair_small, index-pair, token-seen, none_left}
use Rattle.jpeg_bits.proofs.WideTokens.{advanced, front-text, bits_after}

-- each entry is small
pub entry-small : (table : Table) (bits : List Bool) (p : Pair) → IsPairOf table bits p → IsWithinPassed p
entry-small table bits p Nothing = record { first = omega arith; second = omega arith; few = omega arith }
entry-small table bits p (Values most) = pair_small table bits (pair_of table bits) refl most
entry-small table bits p (Ended size most e) =
    let s = pair_small table bits (pair_of table bits) refl most in
    let first = s.first in
    let second = s.second in
    record { first = omega arith; second = omega arith; few = e.few }
entry-small table bits p (Alone size e) =
    let few = e.few in
    record { first = omega arith; second = omega arith; few = omega arith }

-- what an entry gives
pub data Found (table : Table) (bits : List Bool) : Pair → Type 0 where
  Plain : (p : Pair) → p.passed < 64 → Seen table bits p → Found table bits p
  Then : (p : Pair) (size : ℕ) → p.passed < 64 → Seen table bits p → EndsAfter table bits p.bits size
      → Found table bits (after_values p size)

pub pair-found : (table : Table) (bits : List Bool) (p : Pair) → IsPairOf table bits p → p.passed % 128 < 64
    → Found table bits p
pair-found table bits p Nothing h = absurd (omega (arith, h))
pair-found table bits p (Values most) h =
    let less : (pair_of table bits).passed < 64 = omega (arith, h, most) in
    Plain (pair_of table bits) less (pair-seen table bits (pair_of table bits) refl less)
pair-found table bits p (Ended size most e) h =
    let less : (pair_of table bits).passed < 64 = omega (arith, h, most) in
    Then (pair_of table bits) size less (pair-seen table bits (pair_of table bits) refl less) e
pair-found table bits p (Alone size e) h = absurd (omega (arith, h))

pub end-found : (table : Table) (bits : List Bool) (p : Pair) → IsPairOf table bits p → p.passed ≡ 127
    → EndsAfter table bits 0 p.bits
end-found table bits p Nothing h = absurd (omega (arith, h))
end-found table bits p (Values most) h = absurd (omega (arith, h, most))
end-found table bits p (Ended size most e) h = absurd (omega (arith, h))
end-found table bits p (Alone size e) h = e

-- ---- how the end of a block is read

-- the end of a block after the first of the next 11 bits
end-buffered : (table : Table) (room : ℕ) (bits : List Bool) (met : Met) (bytes : List ℕ) (n size : ℕ)
    → length table.counts ≡ 16 → IsFilled 16 bits met → EndsAfter table (next_bits 11 bits) n size
    → has_buffered (n + size) bits met ≡ Ok tt
    → token_from table room (upcoming_by (drop n bits) met bytes)
    ≡ Ok (Rest 0, upcoming_by (drop (n + size) bits) met bytes)
end-buffered table room bits met bytes n size counted filled e buffered =
    let t = upcoming_by bits met bytes in
    let xs = next_bits 11 bits in
    let few = e.few in
    let less : (k : ℕ) → k ≤ 11 → IsFilled k bits met
    = λ k le. filled-less k 16 bits met (omega (arith, le)) filled in
    let more = replicate n false ++ replicate 5 false in
    let found : symbol_in table (drop n xs ++ more) ≡ Some (0, size)
    = ap (symbol_in table) (sym (append_assoc (drop n xs) (replicate n false) (replicate 5 false))) ∙ e.code in
    let seen = token-seen table counted 11 (omega arith) xs (length-next_bits 11 bits) n more 0 size found room t
    (front-text 11 bits met bytes (omega arith) (less 11 (omega arith))) few
    (has_bits-buffered (n + size) bits met bytes (less (n + size) few) ∙ buffered) in
    ap (token_from table room) (sym (advance-buffered n bits met bytes (less n (omega arith))))
    ∙ seen ∙ none_left room size 0 0 (advance size (advance n t)) refl refl
    ∙ ap (λ (w : Text). Ok (Rest 0, w)) (advanced n size t
    ∙ advance-buffered (n + size) bits met bytes (less (n + size) few))

module _ (table : Table) (counted : length table.counts ≡ 16) (d : Ahead) (filled : IsFilled 16 d.bits d.met)
    (mid : Stream) where
  Takes-end : (room n size : ℕ) (e : Ahead) → EndsAfter table (next_bits 11 d.bits) n size
      → has_buffered (n + size) d.bits d.met ≡ Ok tt → e.bits ≡ drop (n + size) d.bits → e.met ≡ d.met
      → Takes (λ (t : Token). t) (token_from table room) (record { bits = drop n d.bits; met = d.met }) mid
      (Ok (Rest 0)) e mid
  unfolding upcoming
  Takes-end room n size e is enough bits met = (
    refl,
    λ known. (
      known,
      rw (bits, met) (end-buffered table room d.bits d.met mid.bytes n size counted filled is enough),
    ),
  )

  module _ (p : Pass) (first : List ℤ) (a b : Ahead) (old cur : Stream) (block : List ℤ) (at end : ℕ)
      (pass : IsPass p) (last : end ≡ band_end p) (from : band_start p ≤ at) (long : length block ≡ 64)
      (before : IsAtIndex table p first a old block at b cur)
      (buffered : Takes (λ (u : Unit {0}). 0) same_text b cur (Ok tt) d mid) where
    -- The values of an entry are written, and its bits are taken.
    pub index-entry : (pair : Pair) → Found table (next_bits 11 d.bits) pair
        → at + pair.passed % 128 ≤ end → true ≡ is_ok (has_buffered pair.bits d.bits d.met) → (e : Ahead)
        → e.bits ≡ drop pair.bits d.bits → e.met ≡ d.met
        → (x y : ℤ) → x ≡ wrapped (pair.first *ℤ pos (2 ^ p.al)) → y ≡ wrapped (pair.second *ℤ pos (2 ^ p.al))
        → IsAtIndex table p first a old (set (set block (get_or zigzag (at + pair.run) 0) x)
        (get_or zigzag (at + pair.next) 0) y) (at + pair.passed) e mid
    index-entry pair (Plain _ less seen) room ok e bits met x y value other =
        index-pair table counted d filled mid p first a b old cur block at end pass last from long before buffered
        pair seen (omega (arith, room, less)) ok e bits met x y value other
    index-entry _ (Then q size less seen is) room ok e bits met x y value other =
        let enough = ok_unit _ (sym ok) in
        let c : Ahead = record { bits = drop q.bits d.bits; met = d.met } in
        let at' = at + q.passed in
        let left : at' < end = omega (arith, room, less) in
        let ok' = fewer-buffered q.bits (q.bits + size) d.bits d.met (omega arith) enough in
        let here = index-pair table counted d filled mid p first a b old cur block at end pass last from long before
        buffered q seen (omega (arith, left)) (ap is_ok (sym ok')) c refl refl x y value other in
        index-end table p first a c c e old mid mid mid (set (set block (get_or zigzag (at + q.run) 0) x)
        (get_or zigzag (at + q.next) 0) y) at' end pass last (omega arith) left here
        (refl, λ known. (known, refl)) (at + (129 + q.passed)) (omega (arith, last, pass.end))
        (Takes-end (end - at') q.bits size e is enough bits met)

    -- the end alone
    pub index-alone : (n : ℕ) → EndsAfter table (next_bits 11 d.bits) 0 n → at < end
        → true ≡ is_ok (has_buffered n d.bits d.met) → (e : Ahead) → e.bits ≡ drop n d.bits → e.met ≡ d.met
        → Takes (λ (run : ℕ). (band_in p block, run)) (band_from table p first) a old (Ok 0) e mid
    index-alone n is lt ok e bits met =
        let more : n ≡ 0 + n = omega arith in
        let enough = subst (λ (k : ℕ). has_buffered k d.bits d.met ≡ Ok tt) more (ok_unit _ (sym ok)) in
        index-last table p first a b d e old cur mid mid block at end pass last from lt before buffered (Rest 0) 0
        (Takes-end (end - at) 0 n e is enough (bits ∙ ap (λ (k : ℕ). drop k d.bits) more) met) refl

-- ---- how the table is filled

module _ (table : Table) (codes : List ℕ) (counted : length table.counts ≡ 16)
    (holds : HoldsCodes table.counts table.symbols codes) (b rest : ℕ) (lt : b < 2048)
    (small : (pair_of table (low_bits 11 b)).passed ≤ 64) (few : (pair_of table (low_bits 11 b)).bits ≤ 11)
    (is : rest ≡ b * 2 ^ (pair_of table (low_bits 11 b)).bits % 2048) where
  abbrev p : Pair
  p = pair_of table (low_bits 11 b)

  -- the code after a pair
  next-ends : (size : ℕ) → unpacked_code (get_or codes (rest / 8) 0) ≡ Some (0, size) → p.bits + size ≤ 11
      → EndsAfter table (low_bits 11 b) p.bits size
  next-ends size code within =
      let left : low_bits 11 rest ≡ drop p.bits (low_bits 11 b) ++ replicate p.bits false
      = bits_after 11 11 p.bits p.bits b rest few (omega arith) is in
      let index : rest * 32 / 256 ≡ rest / 8 = omega arith in
      let byte : rest / 8 < 256 = omega (arith, is) in
      let short : short_code table.counts table.symbols (low_bits 8 (rest * 32 / 256)) ≡ Some (0, size)
      = ap (λ (k : ℕ). short_code table.counts table.symbols (low_bits 8 k)) index ∙ sym (holds (rest / 8) byte)
      ∙ code in
      record {
        few = within;
        code = ap (λ (l : List Bool). symbol_in table (l ++ replicate 5 false)) (sym left)
            ∙ ap (symbol_in table) (sym (eleven_padded rest))
            ∙ symbol_found table (rest * 32) (0, size) counted short;
      }

  -- with the end of the block after it
  with-end : (size : ℕ) → (a : Bool) → (p.bits == 0) ≡ a → EndsAfter table (low_bits 11 b) p.bits size
      → IsPairOf table (low_bits 11 b) (if a then end_alone size else after_values p size)
  with-end size true none e =
      let nothing : p.bits ≡ 0 = grind (arith, nat_tests, false≢true) in
      Alone size (subst (λ (n : ℕ). EndsAfter table (low_bits 11 b) n size) nothing e)
  with-end size false some e = Ended size small e

  pub entry-filled : IsPairOf table (low_bits 11 b) (ended p (unpacked_code (get_or codes (rest / 8) 0)))
  unfolding ended with_end
  entry-filled = go (unpacked_code (get_or codes (rest / 8) 0)) refl
    where
      test : (c : ℕ × ℕ) → unpacked_code (get_or codes (rest / 8) 0) ≡ Some c → (a : Bool)
          → ((c.0 == 0) && nat_le c.1 (11 - p.bits)) ≡ a
          → IsPairOf table (low_bits 11 b)
          (if a then (if p.bits == 0 then end_alone c.1 else after_values p c.1) else p)
      test (symbol, size) code true h =
          let zero_is : symbol ≡ 0 = grind (arith, nat_tests, false≢true) in
          let within : p.bits + size ≤ 11 = grind (arith, nat_tests, false≢true) in
          with-end size _ refl (next-ends size (code ∙ ap (λ (s : ℕ). Some (s, size)) zero_is) within)
      test c code false h = Values small

      go : (o : Option (ℕ × ℕ)) → unpacked_code (get_or codes (rest / 8) 0) ≡ o → IsPairOf table (low_bits 11 b) (ended p o)
      go None code = Values small
      go (Some c) code = test c code _ refl
