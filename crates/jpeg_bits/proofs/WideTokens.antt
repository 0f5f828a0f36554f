-- The next token: a value within the room that the next 11 bits begin with, or by its code.
use Rattle.std.proofs.lemmas.Grind.{common_steps}
use Rattle.std.proofs.lemmas.Bool.Decides.{nat_tests}
use Rattle.std.proofs.Common.{◌≡◌, ℕ, ℤ, ◌+◌, ◌-◌, ◌/◌, ◌%◌, ◌^◌, ◌<◌, ◌≤◌, Bool, true, false, List, [], ◌++◌, length}
use Rattle.std.proofs.Common.{take, drop, replicate, get_or, Option, Some, None, Result, Ok, Err, refl, sym, ap, ◌∙◌}
use Rattle.std.proofs.Common.{arith, is_some, ltb, append_assoc, append-nil, length-drop, zero, suc, ◌*◌, ◌∷◌, pos}
use Rattle.std.proofs.Common.{◌*ℤ◌, is_ok, subst, length-append, length-take, inl, inr, pow_pos, set, get_or-set_other}
use Rattle.std.proofs.Common.{get_or-set_same, nat_lt, ◌==◌, ◌||◌, if◌then◌else◌, length-set}
use Rattle.std.proofs.lemmas.Bool.{lt-ltb, false≢true, cases_lt}
use Rattle.std.proofs.lemmas.List.{take-take, take-append-le, drop-append-le, drop-drop}
use Rattle.jpeg_bits.specs.Entropy.{Text, Ahead, upcoming_by, upcoming, IsFilled, has_buffered, Takes, advance}
use Rattle.jpeg_bits.specs.Entropy.{has_bits, bits_from, number_of, extended, same_text}
use Rattle.jpeg_bits.specs.Stream.{Stream}
use Rattle.jpeg_bits.specs.declared.huffman.codes.HuffmanTableClass.{HuffmanTableClass}
use Rattle.jpeg_bits.specs.declared.error.Error.{Error}
use Rattle.jpeg_bits.specs.Codes.{Table, code_in, code_lengths, next_16, code_by, code_from}
use Rattle.jpeg_bits.specs.ShortCodes.{named, symbol_in, short_value_by, short_value_of, next_bits}
use Rattle.jpeg_bits.specs.ShortCodes.{packed, HoldsWideValues}
use Rattle.jpeg_bits.specs.Readers.{read_on, gives, signed_from, Reads}
use Rattle.jpeg_bits.specs.Bands.{token_at, token_from, Band, IsWithinRoom, before_more, wrapped, after_token, first_ac}
use Rattle.jpeg_bits.specs.Entropy.{Met}
use Rattle.jpeg_bits.specs.declared.blocks.tokens.Token.{Token}
use Rattle.jpeg_bits.specs.declared.blocks.tokens.Token.TheVariants.{Value, Rest, Sixteen, Overlong}
use Rattle.jpeg_bits.proofs.BufferedBits.{has_bits-buffered, advance-buffered, filled-less, ok_unit}
use Rattle.jpeg_bits.proofs.Fast.{no-bits, both-buffered}
use Rattle.jpeg_bits.proofs.Reservoirs.{same_zeros, low_bits-append, low_bits-zeros, low_bits-take}
use Rattle.jpeg_bits.proofs.Reservoirs.{low_bits-drop, low_bits-high}
use Rattle.jpeg_bits.proofs.ShortLemmas.{IsShort, short_some, size_of, all_short, at_most, short_agree, value-bits}
use Rattle.jpeg_bits.proofs.ShortLemmas.{length-next_bits, next-buffered, fewer-buffered}
use Rattle.jpeg_bits.proofs.Tables.{all-rising}
use Rattle.std.proofs.Math.Nat.{div-add-mod'}
use Rattle.jpeg_bits.specs.Reading.{Fault}
use Rattle.jpeg_bits.specs.Written.{low_bits}
use Rattle.jpeg_bits.specs.Skips.{run_after, run_within, run_of, IsSkip, PassesOver, after_skip}
use Rattle.jpeg_bits.proofs.BandLoop.{Leaves}
use Rattle.jpeg_bits.proofs.BandSteps.{Leaves-buffered}
use Rattle.jpeg_bits.specs.Pairs.{ShortValue, no_pair, one_value, two_values, pair_by, value_in}
use Rattle.jpeg_bits.specs.Pairs.{pair_of, IsWithinPassed}
use Rattle.jpeg_bits.specs.Passes.{Pass}
use Rattle.jpeg_bits.specs.Zigzag.{zigzag}
use Rattle.jpeg_bits.specs.BlockView.{IsPass}
use Rattle.jpeg_bits.specs.ZigzagParts.{band_start, band_end}
use Rattle.jpeg_bits.specs.declared.huffman.pairs.Pair.{Pair}
use Rattle.jpeg_bits.proofs.BlockParts.{IsAtIndex, index-value}

-- a value within the room
pub value-within : (room size r s : ℕ) (t : Text) → ltb 0 s ≡ true → ltb r room ≡ true
    → token_at room size r s t ≡ read_on (λ (v : ℤ). gives (Value r v)) (signed_from s t)
unfolding token_at
value-within room size r s t some fits = rw (some, fits, token_at) refl

-- the rest of the band, in one block
none-here : (room size : ℕ) (t : Text) → token_at room size 0 0 t ≡ Ok (Rest 0, t)
unfolding token_at
none-here room size t = ap (read_on (λ (e : ℕ). gives (Rest (2 ^ 0 - 1 + e)))) (no-bits t)

pub none_left : (room size r s : ℕ) (t : Text) → s ≡ 0 → r ≡ 0 → token_at room size r s t ≡ Ok (Rest 0, t)
none_left room size r s t none first = rw (none, first) (none-here room size t)

-- Bits are passed in two steps.
pub advanced : (m n : ℕ) (t : Text) → advance n (advance m t) ≡ advance (m + n) t
advanced m n t = grind (arith, common_steps, drop-drop)

-- the bits after the first n can be taken where all can
pub buffered-then : (n s : ℕ) (t : Text) → has_bits (n + s) t.bits t.ending ≡ Ok tt
    → has_bits s (advance n t).bits (advance n t).ending ≡ Ok tt
buffered-then n s t h = grind (arith, common_steps, nat_tests, false≢true, length-drop)

-- a code that is seen in some bits is that of a text whose bits agree with them so far
pub seen-code : (table : Table) (n symbol size : ℕ) (u : Text) (o p : Option (ℕ × ℕ))
    → named table.symbols o ≡ Some (symbol, size) → at_most n o ≡ at_most n p → size ≤ n
    → has_bits size u.bits u.ending ≡ Ok tt → code_by table u p ≡ Ok ((size, symbol), advance size u)
seen-code table n symbol size u o p is same le buffered = grind (arith, common_steps, nat_tests, false≢true)

module _ (table : Table) (counted : length table.counts ≡ 16) (most : ℕ) (few : most ≤ 16) (bits : List Bool)
    (long : length bits ≡ most) (used : ℕ) (more : List Bool) (symbol size : ℕ)
    (found : symbol_in table (drop used bits ++ more) ≡ Some (symbol, size)) where
  -- a code that is seen after the first of some bits is that of a text which begins with them
  pub token-seen : (room : ℕ) (t : Text) → next_bits most t.bits ≡ bits → used + size ≤ most
      → has_bits (used + size) t.bits t.ending ≡ Ok tt
      → token_from table room (advance used t)
      ≡ token_at room size (symbol / 16) (symbol % 16) (advance size (advance used t))
  unfolding token_from code_from
  token-seen room t e le buffered =
      let n = most - used in
      let lens = code_lengths table.counts in
      let x = drop used bits ++ more in
      let y = next_16 (drop used t.bits) in
      let cut = length-drop used bits in
      let first : take n x ≡ take n (drop used bits) = take-append-le n (drop used bits) more (omega arith) in
      let second : take n y ≡ take n (drop used bits)
      = take-take n 16 (drop used t.bits ++ replicate 16 false) (omega arith)
      ∙ same_zeros (drop used t.bits) n 16 n (omega arith) (omega arith)
      ∙ sym (value-bits most t.bits used n (omega arith)) ∙ ap (λ (l : List Bool). take n (drop used l)) e in
      let same = short_agree n lens (all-rising table.counts counted) x y (first ∙ sym second) in
      ap (read_on (λ (c : ℕ × ℕ). token_at room c.0 (c.1 / 16) (c.1 % 16)))
      (seen-code table n symbol size (advance used t) (code_in lens x) (code_in lens y) found same (omega arith)
      (buffered-then used size t buffered))

-- a signed number of bits that can be taken
pub signed-seen : (s : ℕ) (t : Text) → has_bits s t.bits t.ending ≡ Ok tt
    → signed_from s t ≡ Ok (extended (number_of (take s (t.bits ++ replicate s false))) s, advance s t)
unfolding signed_from bits_from
signed-seen s t buffered = rw buffered refl

-- the bits of a value after its code
seen-bits : (bits more : List Bool) (used l s : ℕ) → used + l + s ≤ 11
    → take s (drop l (drop used (next_bits 11 bits) ++ more)) ≡ take s (drop l (drop used bits) ++ replicate s false)
seen-bits bits more used l s le =
    let xs = next_bits 11 bits in
    let long : l + s ≤ length (drop used xs) = omega (arith, length-drop used xs, length-next_bits 11 bits) in
    grind (arith, drop-append-le, take-append-le, drop-drop, length-drop, value-bits 11 bits (used + l) s)

module _ (table : Table) (room : ℕ) (t : Text) (used : ℕ) (more : List Bool) (v : ℤ) (r n : ℕ)
    (counted : length table.counts ≡ 16) (le : used + n ≤ 11) (buffered : has_bits (used + n)
    t.bits t.ending ≡ Ok tt)
    (within : r < room) where
  -- by its code
  at-value : (c : ℕ × ℕ)
      → code_in (code_lengths table.counts) ((drop used (next_bits 11 t.bits) ++ more) ++ replicate 5 false) ≡ Some c
      → IsShort 11 table c (drop used (next_bits 11 t.bits) ++ more) v r n
      → token_from table room (advance used t) ≡ Ok (Value r v, advance (used + n) t)
  at-value c e k =
      let xs = next_bits 11 t.bits in
      let s = size_of table c in
      let symbol = get_or table.symbols c.0 0 in
      let zeros = replicate 5 false in
      let found : symbol_in table (drop used xs ++ (more ++ zeros)) ≡ Some (symbol, c.1)
      = ap (symbol_in table) (sym (append_assoc (drop used xs) more zeros)) ∙ ap (named table.symbols) e in
      let all : has_bits (used + c.1 + s) t.bits t.ending ≡ Ok tt
      = ap (λ (i : ℕ). has_bits i t.bits t.ending) (omega (arith, k.all)) ∙ buffered in
      let next = buffered-then (used + c.1) s t all in
      let seen = token-seen table counted 11 (omega arith) xs (length-next_bits 11 t.bits) used (more ++ zeros) symbol
      c.1 found room t refl (omega (arith, k.all)) (both-buffered (used + c.1) s t.bits t.ending all) in
      let bits = seen-bits t.bits more used c.1 s (omega (arith, k.all)) in
      let value = k.value in
      let run = k.run in
      let count = k.all in
      grind (arith, common_steps, nat_tests, signed-seen, value-within, lt-ltb, advanced)

  -- a value that is seen after the first of 11 bits is that of a text which begins with them
  pub value-seen : short_value_of 11 table (drop used (next_bits 11 t.bits) ++ more) ≡ Some (v, r, n)
      → token_from table room (advance used t) ≡ Ok (Value r v, advance (used + n) t)
  value-seen is =
      go (code_in (code_lengths table.counts) ((drop used (next_bits 11 t.bits) ++ more) ++ replicate 5 false)) refl is
    where
      go : (o : Option (ℕ × ℕ))
          → code_in (code_lengths table.counts) ((drop used (next_bits 11 t.bits) ++ more) ++ replicate 5 false) ≡ o
          → short_value_by 11 table.class (drop used (next_bits 11 t.bits) ++ more) (named table.symbols o)
          ≡ Some (v, r, n) → token_from table room (advance used t) ≡ Ok (Value r v, advance (used + n) t)
      go None e w = absurd (false≢true (ap is_some w))
      go (Some c) e w = at-value c e (short_some _ _ _ _ _ _ _ w)

-- the next bits of a text are seen from those that are buffered
pub front-text : (n : ℕ) (bits : List Bool) (met : Met) (bytes : List ℕ) → n ≤ 16 → IsFilled n bits met
    → next_bits n (upcoming_by bits met bytes).bits ≡ next_bits n bits
front-text n bits met bytes le filled = grind (arith, common_steps, nat_tests, same_zeros, take-take, next-buffered)

-- a value that is seen after the first of the next 11 bits
pub value-buffered : (table : Table) (room : ℕ) (bits : List Bool) (met : Met) (bytes : List ℕ) (used : ℕ)
    (more : List Bool) (v : ℤ) (r n : ℕ) → length table.counts ≡ 16 → IsFilled 16 bits met → used + n ≤ 11
    → has_buffered (used + n) bits met ≡ Ok tt → r < room
    → short_value_of 11 table (drop used (next_bits 11 bits) ++ more) ≡ Some (v, r, n)
    → token_from table room (upcoming_by (drop used bits) met bytes)
    ≡ Ok (Value r v, upcoming_by (drop (used + n) bits) met bytes)
value-buffered table room bits met bytes used more v r n counted filled le buffered within is =
    let t = upcoming_by bits met bytes in
    let less : (k : ℕ) → k ≤ 11 → IsFilled k bits met
    = λ k few. filled-less k 16 bits met (omega (arith, few)) filled in
    ap (token_from table room) (sym (advance-buffered used bits met bytes (less used (omega arith))))
    ∙ value-seen table room t used more v r n counted le (has_bits-buffered (used + n) bits met
    bytes (less (used + n) le)
    ∙ buffered) within (ap (λ (xs : List Bool). short_value_of 11 table (drop used xs ++ more))
    (front-text 11 bits met bytes (omega arith) (less 11 (omega arith))) ∙ is)
    ∙ ap (λ (w : Text). Ok (Value r v, w)) (advance-buffered (used + n) bits met bytes (less (used + n) le))

-- a value that is found takes at most the bits that are looked at
few-bits : (most : ℕ) (class : HuffmanTableClass) (bits : List Bool) (o : Option (ℕ × ℕ)) (v : ℤ) (r n : ℕ)
    → short_value_by most class bits o ≡ Some (v, r, n) → n ≤ most
few-bits most class bits o v r n h = grind (arith, false≢true, all_short)

-- a value that the next 11 bits begin with
pub wide-taken : (table : Table) (room : ℕ) (b d : Ahead) (bytes : List ℕ) (v : ℤ) (r n : ℕ)
    → length table.counts ≡ 16 → IsFilled 16 b.bits b.met
    → short_value_of 11 table (next_bits 11 b.bits) ≡ Some (v, r, n) → r < room → has_buffered n
    b.bits b.met ≡ Ok tt
    → d.bits ≡ drop n b.bits → d.met ≡ b.met
    → token_from table room (upcoming b bytes) ≡ Ok (Value r v, upcoming d bytes)
unfolding upcoming
wide-taken table room b d bytes v r n counted filled e within enough eb em =
    let bits = next_bits 11 b.bits in
    let few = few-bits 11 table.class bits (symbol_in table (bits ++ replicate 5 false)) v r n e in
    let same : n ≡ 0 + n = omega arith in
    let all = append-nil bits in
    grind (arith, common_steps, value-buffered table room b.bits b.met bytes 0 [] v r n)

-- ---- a token of a code that was read

module _ (table : Table) (room : ℕ) (b d : Ahead) where
  pub Token-of-code : (e : Ahead) (mid new : Stream) (c : ℕ × ℕ) (r : Result Token Error)
      → Takes (λ (c : ℕ × ℕ). c) (code_from table) b mid (Ok c) d mid
      → Takes (λ (t : Token). t) (token_at room c.0 (c.1 / 16) (c.1 % 16)) d mid r e new
      → Takes (λ (t : Token). t) (token_from table room) b mid r e new
  unfolding token_from
  Token-of-code e mid new c r code token = grind arith

  pub Token-no-code : (mid : Stream) (e : Error) → Takes (λ (c : ℕ × ℕ). c) (code_from table) b mid (Err e) d mid
      → Takes (λ (t : Token). t) (token_from table room) b mid (Err e) d mid
  unfolding token_from
  Token-no-code mid e code = grind arith

-- ---- a band of a first pass that is passed over, token by token or several at once

-- ---- turns

-- what the turns after the next give alike, the turns from there do
same-after : (f g : ℕ → Reads ℕ) (room : ℕ) → 0 < room → ((k : ℕ) (t : Text) → k < room → f k t ≡ g k t)
    → (o : Result (Token × Text) Fault) → read_on (run_after f room) o ≡ read_on (run_after g room) o
same-after f g room some h (Err e) = refl
same-after f g room some h (Ok (Value r v, u)) = h (room - (r + 1)) u (omega arith)
same-after f g room some h (Ok (Sixteen, u)) = h (room - 16) u (omega arith)
same-after f g room some h (Ok (Rest run, u)) = refl
same-after f g room some h (Ok (Overlong, u)) = refl

-- more turns than there is room for make no difference
turns-same : (table : Table) (m n room : ℕ) (t : Text) → room ≤ m → room ≤ n
    → run_within table m room t ≡ run_within table n room t
unfolding run_within
turns-same table m n zero t h k = refl
turns-same table zero n (suc room) t h k = absurd (omega arith)
turns-same table (suc m) zero (suc room) t h k = absurd (omega arith)
turns-same table (suc m) (suc n) (suc room) t h k =
    same-after (run_within table m) (run_within table n) (suc room) (omega arith)
    (λ l u lt. turns-same table m n l u (omega arith) (omega arith)) (token_from table (suc room) t)

-- a band is passed over token by token
pub run-token : (table : Table) (room : ℕ) (t : Text) → 0 < room
    → run_of table room t ≡ read_on (run_after (run_of table) room) (token_from table room t)
unfolding run_of run_within
run-token table zero t h = absurd (omega arith)
run-token table (suc room) t h =
    same-after (run_within table room) (run_of table) (suc room) h
    (λ l u lt. turns-same table room l l u (omega arith) (omega arith)) (token_from table (suc room) t)

pub run-none : (table : Table) (t : Text) → run_of table 0 t ≡ Ok (0, t)
unfolding run_of run_within
run-none table t = refl

-- ---- a band whose coefficients are read and not kept

-- the zeros of a token that is read are within the room
within-at : (room size r s : ℕ) (t : Text) (a : Bool) → ltb r room ≡ a → (k : Token) (u : Text)
    → token_at room size r s t ≡ Ok (k, u) → IsWithinRoom room k
unfolding token_at
within-at room size r s t a e k u h = grind (arith, common_steps, nat_tests)

token-within : (table : Table) (room : ℕ) (t : Text) (k : Token) (u : Text) → token_from table room t ≡ Ok (k, u)
    → IsWithinRoom room k
unfolding token_from
token-within table room t k u h = go (code_from table t) h
  where
    go : (o : Result ((ℕ × ℕ) × Text) Fault)
        → read_on (λ (c : ℕ × ℕ). token_at room c.0 (c.1 / 16) (c.1 % 16)) o ≡ Ok (k, u) → IsWithinRoom room k
    go (Err e) h = absurd (false≢true (ap is_ok h))
    go (Ok (c, v)) h = within-at _ _ _ _ _ _ refl _ _ h

abbrev pub measured : Band → Reads (ℕ × ℕ)
measured b = gives (length b.0, b.1)

abbrev pub of_length : ℕ → ℕ → Reads (ℕ × ℕ)
of_length n run = gives (n, run)

measured-after : (front : List ℤ) (n m : ℕ) (o : Result (Band × Text) Fault) (p : Result (ℕ × Text) Fault)
    → read_on measured o ≡ read_on (of_length m) p → length front + m ≡ n
    → read_on measured (read_on (λ more. gives (before_more front more)) o) ≡ read_on (of_length n) p
measured-after front n m o p h k = grind (arith, common_steps, length-append, false≢true)

-- a band keeps its length, and its run is read without its coefficients
pub first-measured : (table : Table) (al n : ℕ) (band : List ℤ) (t : Text)
    → read_on measured (first_ac table al n band t) ≡ read_on (of_length (length band))
    (run_within table n (length band) t)
unfolding first_ac run_within
first-measured table al n [] t = refl
first-measured table al zero (x ∷ rest) t = refl
first-measured table al (suc n) (x ∷ rest) t =
    go (token_from table (length (x ∷ rest)) t) (token-within table (length (x ∷ rest)) t)
    (λ k u. first-measured table al n (drop k (x ∷ rest)) u)
  where
    go : (o : Result (Token × Text) Fault)
        → ((k : Token) (u : Text) → o ≡ Ok (k, u) → IsWithinRoom (length (x ∷ rest)) k)
        → ((k : ℕ) (u : Text) → read_on measured (first_ac table al n (drop k (x ∷ rest)) u)
        ≡ read_on (of_length (length (drop k (x ∷ rest)))) (run_within table n (length (drop k (x ∷ rest))) u))
        → read_on measured (read_on (after_token al (first_ac table al n) (x ∷ rest)) o)
        ≡ read_on (of_length (length (x ∷ rest))) (read_on (run_after (run_within table n) (length (x ∷ rest))) o)
    go (Err e) within more = refl
    go (Ok (Value r v, u)) within more =
        let lt : r < length (x ∷ rest) = within (Value r v) u refl in
        let front = take r (x ∷ rest) ++ wrapped (v *ℤ pos (2 ^ al)) ∷ [] in
        let left = length-drop (r + 1) (x ∷ rest) in
        let long : length front + length (drop (r + 1) (x ∷ rest)) ≡ length (x ∷ rest)
        = grind (arith, length-append, length-take) in
        measured-after front (length (x ∷ rest)) (length (drop (r + 1) (x ∷ rest)))
        (first_ac table al n (drop (r + 1) (x ∷ rest)) u)
        (run_within table n (length (x ∷ rest) - (r + 1)) u) (subst (λ (l : ℕ).
        read_on measured (first_ac table al n (drop (r + 1) (x ∷ rest)) u)
        ≡ read_on (of_length (length (drop (r + 1) (x ∷ rest)))) (run_within table n l u)) left (more (r + 1) u)) long
    go (Ok (Sixteen, u)) within more =
        let front = take 16 (x ∷ rest) in
        let left = length-drop 16 (x ∷ rest) in
        let long : length front + length (drop 16 (x ∷ rest)) ≡ length (x ∷ rest)
        = omega (arith, left, length-take 16 (x ∷ rest)) in
        measured-after front (length (x ∷ rest)) (length (drop 16 (x ∷ rest)))
        (first_ac table al n (drop 16 (x ∷ rest)) u)
        (run_within table n (length (x ∷ rest) - 16) u) (subst (λ (l : ℕ).
        read_on measured (first_ac table al n (drop 16 (x ∷ rest)) u)
        ≡ read_on (of_length (length (drop 16 (x ∷ rest)))) (run_within table n l u)) left (more 16 u)) long
    go (Ok (Rest run, u)) within more = refl
    go (Ok (Overlong, u)) within more = refl

-- ---- the tokens that 12 bits begin with

-- Some bits after the first of n, with zeros after them, are the low ones of their number, moved.
pub bits_after : (n w used k b rest : ℕ) → used ≤ n → n + k ≡ w + used → rest ≡ b * 2 ^ k % 2 ^ w
    → low_bits w rest ≡ drop used (low_bits n b) ++ replicate k false
bits_after n w used k b rest h size e =
    let m = n - used in
    let x = b * 2 ^ k in
    let whole : x ≡ x / 2 ^ w * 2 ^ w + x % 2 ^ w = sym (div-add-mod' x (2 ^ w)) in
    let all : w ≡ m + k = omega arith in
    let split : n ≡ used + m = omega arith in
    let none : x ≡ x + 0 = omega arith in
    let low : low_bits m b ≡ low_bits m (b % 2 ^ m)
    = ap (low_bits m) (sym (div-add-mod' b (2 ^ m))) ∙ low_bits-high m (b / 2 ^ m) (b % 2 ^ m) in
    ap (low_bits w) e ∙ sym (ap (low_bits w) whole ∙ low_bits-high w (x / 2 ^ w) (x % 2 ^ w))
    ∙ ap (low_bits w) none ∙ ap (λ (j : ℕ). low_bits j (x + 0)) all
    ∙ low_bits-append _ _ _ _ (pow_pos k)
    ∙ ap (λ (l : List Bool). low_bits m b ++ l) (low_bits-zeros k)
    ∙ ap (λ (l : List Bool). l ++ replicate k false) (low ∙ sym (low_bits-drop used m b)
    ∙ ap (λ (j : ℕ). drop used (low_bits j b)) (sym split))

signed-passed : (others : ℕ → Reads ℕ) (room r s : ℕ) (t : Text) → has_bits s t.bits t.ending ≡ Ok tt
    → read_on (run_after others room) (read_on (λ (v : ℤ). gives (Value r v)) (signed_from s t))
    ≡ others (room - (r + 1)) (advance s t)
unfolding signed_from bits_from
signed-passed others room r s t buffered = rw buffered refl

value-passed : (others : ℕ → Reads ℕ) (room size r s : ℕ) (t : Text) → 0 < s → r < room
    → has_bits s t.bits t.ending ≡ Ok tt
    → read_on (run_after others room) (token_at room size r s t) ≡ others (room - (r + 1)) (advance s t)
value-passed others room size r s t some within buffered =
    ap (read_on (run_after others room)) (value-within _ _ _ _ _ (lt-ltb 0 s some) (lt-ltb r room within))
    ∙ signed-passed others room _ _ _ buffered

sixteen-passed : (others : ℕ → Reads ℕ) (room size r s : ℕ) (t : Text) → s ≡ 0 → r ≡ 15
    → read_on (run_after others room) (token_at room size r s t) ≡ others (room - (r + 1)) (advance s t)
unfolding token_at
sixteen-passed others room size r s t none all = rw (none, all) refl

module _ (table : Table) (counted : length table.counts ≡ 16) (bits : List Bool) (long : length bits ≡ 12)
    (used symbol size : ℕ) (found : symbol_in table (drop used bits ++ replicate (4 + used) false) ≡ Some
    (symbol, size))
  where
    abbrev s : ℕ
    s = symbol % 16

    abbrev r : ℕ
    r = symbol / 16

    pub skip-more : (count passed : ℕ) → count ≡ size + s → used + count ≤ 12 → (s ≡ 0 → r ≡ 15)
        → PassesOver table bits (used, passed, false)
        → PassesOver table bits (used + count, passed + (r + 1), false)
    skip-more count passed is le all h room lt most t b =
        let buffered : has_bits (used + size + s) t.bits t.ending ≡ Ok tt
        = ap (λ (k : ℕ). has_bits k t.bits t.ending) (omega (arith, is)) ∙ b.1 in
        let here = both-buffered (used + size) s t.bits t.ending buffered in
        let room' = room - passed in
        let u = advance used t in
        let v = advance size u in
        let next : has_bits s v.bits v.ending ≡ Ok tt
        = ap (λ (w : Text). has_bits s w.bits w.ending) (advanced used size t) ∙ buffered-then
        (used + size) s t buffered in
        let step : read_on (run_after (run_of table) room') (token_at room' size r s v)
        ≡ run_of table (room' - (r + 1)) (advance s v) = elim (cases_lt 0 s) [
          | inl some ↦ value-passed (run_of table) room' size r s v some (omega arith) next
          | inr none ↦ sixteen-passed (run_of table) room' size r s v (omega arith) (all (omega arith))
        ] in
        let left : room' - (r + 1) ≡ room - (passed + (r + 1)) = omega arith in
        let after : advance s v ≡ advance (used + count) t
        = ap (advance s) (advanced used size t) ∙ advanced (used + size) s t
        ∙ ap (λ (k : ℕ). advance k t) (omega (arith, is)) in
        h room (omega arith) most t (b.0, both-buffered used size t.bits t.ending here)
        ∙ run-token table room' u (omega arith)
        ∙ ap (read_on (run_after (run_of table) room')) (token-seen table counted 12 (omega arith) bits long used
        (replicate (4 + used) false) symbol size found room' t b.0 (omega (arith, is)) here)
        ∙ step
        ∙ ap (λ (k : ℕ). run_of table k (advance s v)) left
        ∙ ap (run_of table (room - (passed + (r + 1)))) after

    pub skip-last : (count passed : ℕ) → count ≡ size + s → used + count ≤ 12 → s ≡ 0 → r ≡ 0
        → PassesOver table bits (used, passed, false)
        → PassesOver table bits (used + count, passed, true)
    skip-last count passed is le none end h room lt most t b =
        let same : used + size ≡ used + count = omega arith in
        let here : has_bits (used + size) t.bits t.ending ≡ Ok tt
        = ap (λ (k : ℕ). has_bits k t.bits t.ending) same ∙ b.1 in
        let room' = room - passed in
        let u = advance used t in
        let v = advance size u in
        h room lt most t (b.0, both-buffered used size t.bits t.ending here)
        ∙ run-token table room' u (omega arith)
        ∙ ap (read_on (run_after (run_of table) room')) (token-seen table counted 12 (omega arith) bits long used
        (replicate (4 + used) false) symbol size found room' t b.0 (omega (arith, is)) here
        ∙ none_left room' size r s v none end)
        ∙ ap (λ (w : Text). Ok (0, w)) (advanced used size t ∙ ap (λ (k : ℕ). advance k t) same)

pub twelve_front : (number : ℕ) (bits : List Bool) → low_bits 16 number ≡ next_16 bits
    → low_bits 12 (number / 16) ≡ next_bits 12 bits
twelve_front number bits e =
    sym (low_bits-take 12 4 number) ∙ ap (take 12) e ∙ take-take 12 16 (bits ++ replicate 16 false) (omega arith)
    ∙ same_zeros bits 12 16 12 (omega arith) (omega arith)

-- what holds of the first elements of a list, with one more
pub set-holds : {A : Type 0} (P : ℕ → A → Type 0) (xs : List A) (i : ℕ) (v d : A) → i < length xs
    → ((k : ℕ) → k < i → P k (get_or xs k d)) → P i v → (k : ℕ) → k < i + 1 → P k (get_or (set xs i v) k d)
set-holds P xs i v d lt below here k h = grind (arith, cases_lt, get_or-set_other, get_or-set_same)

-- ---- steps of the loop that passes over the tokens of a band

after-buffered : (table : Table) (left n passed : ℕ) (last : Bool) (bits : List Bool) (met : Met)
    (bytes : List ℕ) → IsFilled 16 bits met → IsSkip table (next_bits 12 bits) (n, passed, last) → passed < left
    → left ≤ 63 → is_ok (has_buffered n bits met) ≡ true
    → run_of table left (upcoming_by bits met bytes)
    ≡ after_skip table left (n, passed, last) (upcoming_by bits met bytes)
after-buffered table left n passed last bits met bytes filled skip lt most ok =
    let few : n ≤ 16 = omega (arith, skip.few) in
    skip.passes left lt most (upcoming_by bits met bytes) (
      front-text 12 bits met bytes (omega arith) (filled-less 12 16 bits met (omega arith) filled),
      has_bits-buffered n bits met bytes (filled-less n 16 bits met few filled) ∙ ok_unit _ ok,
    )

module _ (table : Table) (room left : ℕ) (a b d e : Ahead) (old cur mid new : Stream)
    (p : Leaves (run_of table room) a old (run_of table left) b cur)
    (q : Takes (λ (u : Unit {0}). 0) same_text b cur (Ok tt) d mid) where
  text-buffered : Leaves (run_of table room) a old (run_of table left) d mid
  text-buffered = Leaves-buffered (run_of table room) (run_of table left) a b d old cur mid p q

  pub skip-refused : 0 < left → (x : Error) → Takes (λ (k : Token). k) (token_from table left) d mid (Err x) e new
      → Takes (λ (run : ℕ). run) (run_of table room) a old (Err x) e new
  skip-refused some x h = grind (arith, run-token, text-buffered)

  pub skip-token : 0 < left → (k : Token) → Takes (λ (k : Token). k) (token_from table left) d mid (Ok k) e new
      → Leaves (run_of table room) a old (run_after (run_of table) left k) e new
  skip-token some k h = grind (arith, run-token, text-buffered)

  pub skip-overlong : 0 < left → Takes (λ (k : Token). k) (token_from table left) d mid (Ok Overlong) e new
      → Takes (λ (run : ℕ). run) (run_of table room) a old (Ok 0) e new
  skip-overlong some h = skip-token some Overlong h

  -- several tokens at once
  module _ (n passed count over : ℕ) (last : Bool) (counted : count ≡ n) (is : over ≡ passed)
      (filled : IsFilled 16 d.bits d.met) (skip : IsSkip table (next_bits 12 d.bits) (n, passed, last))
      (lt : over < left) (most : left ≤ 63) (ok : true ≡ is_ok (has_buffered count d.bits d.met))
      (bits : e.bits ≡ drop count d.bits) (met : e.met ≡ d.met) where
    after-text : (bytes : List ℕ)
        → run_of table left (upcoming d bytes) ≡ after_skip table left (n, passed, last) (upcoming d bytes)
    unfolding upcoming
    after-text bytes =
        after-buffered table left n passed last d.bits d.met bytes filled skip (omega (arith, lt, is)) most
        (ap (λ (k : ℕ). is_ok (has_buffered k d.bits d.met)) (sym counted) ∙ sym ok)

    next-text : (bytes : List ℕ) → advance n (upcoming d bytes) ≡ upcoming e bytes
    unfolding upcoming
    next-text bytes =
        advance-buffered n d.bits d.met bytes (filled-less n 16 d.bits d.met (omega (arith, skip.few)) filled)
        ∙ ap (λ (k : ℕ). upcoming_by (drop k d.bits) d.met bytes) (sym counted)
        ∙ sym (ap (λ (l : List Bool). upcoming_by l e.met bytes) bits
        ∙ ap (λ (m : Met). upcoming_by (drop count d.bits) m bytes) met)

    skipped : (l : Bool) → last ≡ l → Leaves (run_of table room) a old (after_skip table left (n, passed, l)) d mid
    skipped l is-last =
        let buffered = text-buffered in (
          buffered.0,
          λ known.
              let at = buffered.1 known in (
                at.0,
                at.1 ∙ after-text mid.bytes
                    ∙ ap (λ (l : Bool). after_skip table left (n, passed, l) (upcoming d mid.bytes)) is-last,
              ),
        )

    pub skip-over : last ≡ false → Leaves (run_of table room) a old (run_of table (left - over)) e mid
    skip-over on =
        let s = skipped false on in (
          s.0,
          λ known.
              let at = s.1 known in (
                at.0,
                at.1 ∙ ap (run_of table (left - passed)) (next-text mid.bytes)
                    ∙ ap (λ (k : ℕ). run_of table (left - k) (upcoming e mid.bytes)) (sym is),
              ),
        )

    pub skip-to-end : last ≡ true → Takes (λ (run : ℕ). run) (run_of table room) a old (Ok 0) e mid
    skip-to-end end =
        let s = skipped true end in (
          s.0,
          λ known.
              let at = s.1 known in (at.0, at.1 ∙ ap (λ (t : Text). Ok (0, t)) (next-text mid.bytes)),
        )

pub skip-all : (table : Table) (room left : ℕ) (a b : Ahead) (old new : Stream) → left ≡ 0
    → Leaves (run_of table room) a old (run_of table left) b new
    → Takes (λ (run : ℕ). run) (run_of table room) a old (Ok 0) b new
skip-all table room left a b old new none p = grind (arith, run-none)

-- ---- the values that 11 bits begin with, one or two: how their look-up table is filled, and how they are read

-- ---- the look-up table

-- The second value of an entry stands at the index of the bits after the first, before zeros.
pub pair-at : (table : Table) (values : List ShortValue) (b j : ℕ) → HoldsWideValues table values
    → length values ≡ 2048 → b < 2048 → (get_or values b (packed None)).2 ≤ 11
    → j ≡ b * 2 ^ (get_or values b (packed None)).2 % 2048
    → pair_by (get_or values b (packed None)) (get_or values j (packed None)) ≡ pair_of table (low_bits 11 b)
unfolding pair_of
pair-at table values b j holds size lt few is = grind (arith, bits_after)

-- ---- what is found

-- an entry by two tests: whether there is no value, and whether there is one alone
abbrev by-tests : (a b : Bool) (v w : ShortValue) → Pair
by-tests a b v w = if a then no_pair else (if b then one_value v else two_values v w)

-- both values are within 11 bits
few-both : (n m : ℕ) → ((m == 0) || nat_lt 11 (n + m)) ≡ false → n + m ≤ 11
few-both n m h = grind (arith, nat_tests)

-- each entry is small
small-by : (a b : Bool) (v w : ShortValue) → v.2 ≤ 11 → (b ≡ false → v.2 + w.2 ≤ 11)
    → (by-tests a b v w).passed ≤ 64 → IsWithinPassed (by-tests a b v w)
small-by true b v w few both most = record { first = omega arith; second = omega arith; few = omega arith }
small-by false true v w few both most = record { first = omega arith; second = omega arith; few = few }
small-by false false v w few both most = record { first = omega arith; second = omega arith; few = both refl }

-- a value takes at most 11 bits
few-in : (class : HuffmanTableClass) (bits : List Bool) (o : Option (ℕ × ℕ))
    → (packed (short_value_by 11 class bits o)).2 ≤ 11
few-in class bits o = grind arith

-- the entry of any bits is small
pub pair_small : (table : Table) (bits : List Bool) (p : Pair) → p ≡ pair_of table bits → p.passed ≤ 64
    → IsWithinPassed p
unfolding pair_of pair_by
pair_small table bits p is most = grind (arith, small-by, nat_lt, few-in, few-both)

-- what is found: one value, or two
pub data Seen (table : Table) (bits : List Bool) : Pair → Type 0 where
  One : (v : ℤ) (r n : ℕ) → short_value_of 11 table bits ≡ Some (v, r, n) → Seen table bits (one_value (v, r, n))
  Two : (v : ℤ) (r n : ℕ) (w : ℤ) (q m : ℕ) → n + m ≤ 11 → short_value_of 11 table bits ≡ Some (v, r, n)
      → short_value_of 11 table (drop n bits ++ replicate n false) ≡ Some (w, q, m)
      → Seen table bits (two_values (v, r, n) (w, q, m))

module _ (table : Table) (bits : List Bool) where
  -- after a first value
  seen-by : (v : ℤ) (r n : ℕ) → short_value_of 11 table bits ≡ Some (v, r, n) → (o : Option ShortValue)
      → short_value_of 11 table (drop n bits ++ replicate n false) ≡ o → (a b : Bool)
      → b ≡ (((packed o).2 == 0) || nat_lt 11 (n + (packed o).2)) → (by-tests a b (v, r, n) (packed o)).passed < 64
      → Seen table bits (by-tests a b (v, r, n) (packed o))
  seen-by v r n e o f true b is some = absurd (omega (arith, some))
  seen-by v r n e o f false true is some = One v r n e
  seen-by v r n e None f false false is some = absurd (false≢true is)
  seen-by v r n e (Some (w, q, m)) f false false is some = Two v r n w q m (few-both n m (sym is)) e f

  -- the entry after a first look-up
  abbrev entry_by : Option ShortValue → Pair
  entry_by o = pair_by (packed o) (value_in table (drop (packed o).2 bits ++ replicate (packed o).2 false))

  -- an entry that has values is what is found
  pub pair-seen : (p : Pair) → p ≡ pair_of table bits → p.passed < 64 → Seen table bits p
  unfolding pair_of pair_by
  pair-seen p is some =
      subst (Seen table bits) (sym is)
      (go (short_value_of 11 table bits) refl (subst (λ (p : Pair). p.passed < 64) is some))
    where
      go : (o : Option ShortValue) → short_value_of 11 table bits ≡ o → (entry_by o).passed < 64
          → Seen table bits (entry_by o)
      go None e some = absurd (omega (arith, some))
      go (Some (v, r, n)) e some =
          seen-by _ _ _ e _ refl (n == 0) _ refl some

-- ---- how they are read

-- a value that is written twice
set-twice : (xs : List ℤ) (i : ℕ) (y : ℤ) → set (set xs i y) i y ≡ set xs i y
set-twice [] i y = refl
set-twice (x ∷ xs) zero y = refl
set-twice (x ∷ xs) (suc i) y = ap (λ (l : List ℤ). x ∷ l) (set-twice xs i y)

module _ (table : Table) (counted : length table.counts ≡ 16) (d : Ahead) (filled : IsFilled 16 d.bits d.met)
    (mid : Stream) where
  -- the first value is taken
  Takes-first : (room : ℕ) (v : ℤ) (r n : ℕ) (e : Ahead)
      → short_value_of 11 table (next_bits 11 d.bits) ≡ Some (v, r, n) → has_buffered n d.bits
      d.met ≡ Ok tt → r < room
      → e.bits ≡ drop n d.bits → e.met ≡ d.met
      → Takes (λ (t : Token). t) (token_from table room) d mid (Ok (Value r v)) e mid
  Takes-first room v r n e is enough within bits met = grind (arith, wide-taken)

  -- and the second
  Takes-second : (room n : ℕ) (w : ℤ) (q m : ℕ) (e : Ahead) → n + m ≤ 11
      → short_value_of 11 table (drop n (next_bits 11 d.bits) ++ replicate n false) ≡ Some (w, q, m)
      → has_buffered (n + m) d.bits d.met ≡ Ok tt → q < room → e.bits ≡ drop (n + m) d.bits → e.met
      ≡ d.met
      → Takes (λ (t : Token). t) (token_from table room) (record { bits = drop n d.bits; met = d.met }) mid
      (Ok (Value q w)) e mid
  unfolding upcoming
  Takes-second room n w q m e few is enough within bits met = (
    refl,
    λ known. (
      known,
      rw (bits, met) (value-buffered _ _ d.bits d.met mid.bytes n (replicate n false) _ _ m counted filled few
          enough within is),
    ),
  )

  -- The values of a pair are written, and its bits are taken.
  module _ (p : Pass) (first : List ℤ) (a b : Ahead) (old cur : Stream) (block : List ℤ) (at end : ℕ)
      (pass : IsPass p) (last : end ≡ band_end p) (from : band_start p ≤ at) (long : length block ≡ 64)
      (before : IsAtIndex table p first a old block at b cur)
      (buffered : Takes (λ (u : Unit {0}). 0) same_text b cur (Ok tt) d mid) where
    pub index-pair : (pair : Pair) → Seen table (next_bits 11 d.bits) pair → at + pair.passed ≤ end
        → true ≡ is_ok (has_buffered pair.bits d.bits d.met) → (e : Ahead) → e.bits ≡ drop
        pair.bits d.bits → e.met ≡ d.met
        → (x y : ℤ) → x ≡ wrapped (pair.first *ℤ pos (2 ^ p.al)) → y ≡ wrapped (pair.second *ℤ pos (2 ^ p.al))
        → IsAtIndex table p first a old (set (set block (get_or zigzag (at + pair.run) 0) x)
        (get_or zigzag (at + pair.next) 0) y) (at + pair.passed) e mid
    index-pair _ (One v r n is) room ok e bits met x y value same =
        let again : y ≡ x = same ∙ sym value in
        let next : at + (r + 1) ≡ at + r + 1 = omega arith in
        let i = get_or zigzag (at + r) 0 in
        let written : set (set block i x) i y ≡ set block i x
        = ap (set (set block i x) i) again ∙ set-twice block i x in
        rw (written, next) (index-value table p first a b d e old cur mid mid block at end pass
        last from (omega arith)
        before buffered (Value r v) r v x long (omega arith) value
        (Takes-first (end - at) v r n e is (ok_unit _ (sym ok))
        (omega arith) bits met) refl)
    index-pair _ (Two v r n w q m few is then-is) room ok e bits met x y value other =
        let enough = ok_unit _ (sym ok) in
        let c : Ahead = record { bits = drop n d.bits; met = d.met } in
        let i = get_or zigzag (at + r) 0 in
        let at' = at + r + 1 in
        let index : at + (r + 1 + q) ≡ at' + q = omega arith in
        let next : at + (r + q + 2) ≡ at' + q + 1 = omega arith in
        let one = index-value table p first a b d c old cur mid mid block at end pass last from
        (omega arith) before
        buffered (Value r v) r v x long (omega arith) value (Takes-first (end - at) v r n c is
        (fewer-buffered n (n + m) d.bits d.met (omega arith) enough) (omega arith) refl refl) refl in
        rw (index, next) (index-value table p first a c c e old mid mid mid (set block i x) at' end pass last
        (omega arith) (omega arith) one (refl, λ known. (known, refl)) (Value q w) q w y (length-set block i x ∙ long)
        (omega arith) other (Takes-second (end - at') n w q m e few then-is enough (omega arith) bits met) refl)
