-- Short codes and values.
use Rattle.std.proofs.lemmas.Grind.{common_steps}
use Rattle.std.proofs.Common.{rules, ◌≡◌, length-set, set, below_more, get_or-set_other, get_or-set_same, ℕ, ℤ, zero, suc, ◌+◌}
use Rattle.std.proofs.Common.{◌-◌, ◌*◌, ◌/◌, ◌%◌, ◌^◌, ◌<◌, ◌≤◌, Bool, true, false, cond, eqb, leb, ltb, ◌&&◌, List, []}
use Rattle.std.proofs.Common.{◌∷◌, ◌++◌, length, take, drop, get_or, replicate, Option, Some, None, Ok, refl, sym, ap}
use Rattle.std.proofs.Common.{◌∙◌, arith, inl, inr, length-append, length-take, length-drop, IfSome, is_some, pow_pos}
use Rattle.std.proofs.Common.{Result, Err, is_ok, subst, ◌⊎◌, nat_lt, nat_le, if◌then◌else◌, le_refl, sum}
use Rattle.std.specs.Option.{option_map}
use Rattle.std.proofs.Math.Seq.{drop-nil}
use Rattle.std.proofs.lemmas.List.{take-take, take-append-le, take_all, take-replicate}
use Rattle.std.proofs.lemmas.List.{drop-replicate, drop-take, drop-drop, get_or-drop}
use Rattle.std.proofs.lemmas.List.{length-replicate}
use Rattle.std.proofs.lemmas.Bool.{cases_lt, false≢true}
use Rattle.std.proofs.lemmas.Bool.Decides.{nat_tests}
use Rattle.jpeg_bits.specs.Reading.{◌>>=◌, Fault, ◌>>=◌ as ◌>>r=◌, Names, NamesFormat}
use Rattle.jpeg_bits.specs.Entropy.{number_of, extended, upcoming_by, has_buffered, IsFilled}
use Rattle.jpeg_bits.specs.Entropy.{text_at, Text, Ahead, Takes, upcoming}
use Rattle.jpeg_bits.specs.Readers.{read_on, signed_from}
use Rattle.jpeg_bits.specs.Written.{low_bits}
use Rattle.jpeg_bits.specs.Codes.{Table, code_in, code_lengths, code_value, begins, next_16, is_ac}
use Rattle.jpeg_bits.specs.Codes.{short_token, after_code, short_code_by, short_code_from}
use Rattle.jpeg_bits.specs.Codes.{short_value, fast_from, symbol_from, code_from}
use Rattle.jpeg_bits.specs.ShortCodes.{named, symbol_in, short_only, short_code, short_value_by, short_value_of}
use Rattle.jpeg_bits.specs.ShortCodes.{next_bits, packed, ArePassed, HoldsRows, IsRun, rest_of_code, rest_of_value}
use Rattle.jpeg_bits.specs.ShortCodes.{unpacked_code, HoldsValues}
use Rattle.jpeg_bits.specs.declared.huffman.codes.HuffmanTableClass.{HuffmanTableClass}
use Rattle.jpeg_bits.specs.declared.huffman.codes.HuffmanTableClass.TheVariants.{DC}
use Rattle.jpeg_bits.specs.declared.huffman.codes.Row.{Row}
use Rattle.jpeg_bits.specs.Entropy.{At, Met, Unmet}
use Rattle.std.proofs.Math.Nat.{mod-lt, div-mul-le_self, div-eq_of_lt-le, mul-le-mul_right}
use Rattle.jpeg_bits.proofs.CodeLemmas.{first_from, passed-none, still-passed, tried-at}
use Rattle.jpeg_bits.proofs.WrittenBits.{length_low_bits, number_of-low_bits}
use Rattle.jpeg_bits.proofs.Reservoirs.{low_bits-append, low_bits-zeros, low_bits-take}
use Rattle.jpeg_bits.proofs.Reservoirs.{low_bits-drop, same_zeros, front_small}
use Rattle.jpeg_bits.proofs.Tables.{IsRising, ordered, all-rising, rising-at, rising-lengths, symbol-code}
use Rattle.jpeg_bits.proofs.BufferedBits.{has_bits-buffered, advance-buffered, bits_from-buffered, filled-less}
use Rattle.jpeg_bits.proofs.BufferedBits.{if_buffered, ok_unit, MayFail-same, code_from-buffered, code_from-none}
use Rattle.jpeg_bits.proofs.BufferedBits.{names_format, may_fail_format}
use Rattle.std.proofs.lemmas.Nat.{pow-add}
use Rattle.jpeg_bits.specs.Stream.{Stream}
use Rattle.jpeg_bits.specs.declared.error.Error.{Error}
use Rattle.jpeg_bits.proofs.Loops.{Names-through, bind_err, still_known}

-- ---- which code of at most n bits begins the bits is seen from the first n

abbrev pub at_most : ℕ → Option (ℕ × ℕ) → Option (ℕ × ℕ)
at_most n None = None
at_most n (Some c) = cond (leb c.1 n) (Some c) None

same_begins : (n : ℕ) (lens : List ℕ) (x y : List Bool) (i : ℕ) → get_or lens i 0 ≤ n → take n x ≡ take n y
    → begins lens x i ≡ begins lens y i
unfolding begins
same_begins n lens x y i h e =
    let l = get_or lens i 0 in
    ap (λ (b : List Bool). eqb (number_of b) (code_value lens i)) (sym (take-take l n x h) ∙ ap (take l) e
    ∙ take-take l n y h)

abbrev short_from : ℕ → List ℕ → Option ℕ → Option (ℕ × ℕ)
short_from n lens o = at_most n (option_map (λ i. (i, get_or lens i 0)) o)

long_only : (n : ℕ) (lens : List ℕ) (test : ℕ → Bool) (i k : ℕ)
    → ((j : ℕ) → i ≤ j → j < i + k → n < get_or lens j 0) → short_from n lens (first_from test i k) ≡ None
long_only n lens test i zero h = refl
long_only n lens test i (suc k) h =
    grind (arith, long_only n lens test (i + 1) k (λ j a b. h j (omega arith) (omega arith)))

module _ (n : ℕ) (lens : List ℕ) (rising : IsRising 1 16 lens) (x y : List Bool) (same : take n x ≡ take n y) where
  agree_from : (i k : ℕ) → i + k ≤ length lens → short_from n lens (first_from (begins lens x) i k)
      ≡ short_from n lens (first_from (begins lens y) i k)
  agree_from i zero h = refl
  agree_from i (suc k) h =
      elim (cases_lt n (get_or lens i 0)) [
        | inl lt ↦ long_only n lens (begins lens x) i (suc k) (λ j a b.
            let o = ordered 1 16 lens i j rising a (omega arith) in omega (arith, o, lt))
            ∙ sym (long_only n lens (begins lens y) i (suc k) (λ j a b.
            let o = ordered 1 16 lens i j rising a (omega arith) in omega (arith, o, lt)))
        | inr le ↦ ap (λ (b : Bool). short_from n lens (cond b (Some i) (first_from (begins lens x) (i + 1) k)))
            (same_begins n lens x y i le same) ∙ go (begins lens y i) (agree_from (i + 1) k (omega arith))
      ]
    where
      go : (b : Bool) → short_from n lens (first_from (begins lens x) (i + 1) k) ≡ short_from n lens
          (first_from (begins lens y) (i + 1) k)
          → short_from n lens (cond b (Some i) (first_from (begins lens x) (i + 1) k)) ≡ short_from n lens
          (cond b (Some i) (first_from (begins lens y) (i + 1) k))
      go b r = grind arith

  pub short_agree : at_most n (code_in lens x) ≡ at_most n (code_in lens y)
  unfolding code_in
  short_agree = agree_from 0 (length lens) (omega arith)

-- a code that is too long makes no short value
pub short_enough : (n : ℕ) (class : HuffmanTableClass) (bits : List Bool) (symbols : List ℕ) (o : Option (ℕ × ℕ))
    → short_value_by n class bits (named symbols (at_most n o)) ≡ short_value_by n class bits (named symbols o)
short_enough n class bits symbols o = grind arith

-- what n bits begin with is seen from the first n of more
pub value_seen : (n : ℕ) (table : Table) (x y bits : List Bool) → length table.counts ≡ 16 → take n x ≡ take n y
    → short_value_by n table.class bits (symbol_in table x) ≡ short_value_by n table.class bits (symbol_in table y)
value_seen n table x y bits counted same =
    let lens = code_lengths table.counts in
    sym (short_enough n table.class bits table.symbols (code_in lens x))
    ∙ ap (λ (o : Option (ℕ × ℕ)). short_value_by n table.class bits (named table.symbols o))
    (short_agree n _ (all-rising table.counts counted) x y same)
    ∙ short_enough n table.class bits table.symbols (code_in lens y)

-- ---- tables

-- a list whose first elements are the values of f, with one more
pub set_next : {A : Type 0} (xs : List A) (i : ℕ) (v d : A) (f : ℕ → A) → i < length xs
    → ((k : ℕ) → k < i → get_or xs k d ≡ f k) → v ≡ f i → (k : ℕ) → k < i + 1 → get_or (set xs i v) k d ≡ f k
set_next xs i v d f lt below here = grind (arith, below_more, get_or-set_other, get_or-set_same)

pub length_set : {A : Type 0} (xs : List A) (i : ℕ) (v : A) (n : ℕ) → length xs ≡ n → length (set xs i v) ≡ n
length_set xs i v n h = length-set xs i v ∙ h

-- ---- codes by their first 8 bits

-- a byte's bits with zeros after them
pub byte_padded : (b : ℕ) → low_bits 16 (b * 256) ≡ low_bits 8 b ++ replicate 8 false
byte_padded b =
    let e : b * 256 ≡ b * 2 ^ 8 + 0 = omega arith in
    ap (low_bits 16) e ∙ low_bits-append _ _ _ _ (omega arith)
    ∙ ap (λ (l : List Bool). low_bits 8 b ++ l) (low_bits-zeros 8)

front_of : (n k : ℕ) (bits : List Bool) → length bits ≡ n → take n (bits ++ replicate k false) ≡ bits
front_of n k bits h = take-append-le n bits (replicate k false) (omega arith) ∙ take_all n bits (omega arith)

-- the first 8 of 16 bits say the short code
pub short_of_16 : (counts : List ℕ) (bits : ℕ) → length counts ≡ 16
    → short_only (code_in (code_lengths counts) (low_bits 8 (bits / 256) ++ replicate 8 false))
    ≡ short_only (code_in (code_lengths counts) (low_bits 16 bits))
short_of_16 counts bits h =
    let eight = low_bits 8 (bits / 256) in
    short_agree _ _ (all-rising counts h) _ _
    (front_of 8 8 eight (length_low_bits 8 (bits / 256)) ∙ sym (low_bits-take 8 8 bits))

short_named : (symbols : List ℕ) (o : Option (ℕ × ℕ)) (p : ℕ × ℕ) → named symbols (short_only o) ≡ Some p
    → named symbols o ≡ Some p
short_named symbols o p h = grind (arith, false≢true)

-- the bits of a short code are few
pub few_short : (counts symbols : List ℕ) (eight : List Bool) (p : ℕ × ℕ) → short_code counts symbols eight ≡ Some p
    → p.1 ≤ 8
few_short counts symbols eight p h =
    go (code_in (code_lengths counts) (eight ++ replicate 8 false)) h
  where
    go : (o : Option (ℕ × ℕ)) → named symbols (short_only o) ≡ Some p → p.1 ≤ 8
    go o found = grind (arith, nat_tests, false≢true)

-- whether a code is short is seen with its symbol too
pub short-of-named : (symbols : List ℕ) (o : Option (ℕ × ℕ))
    → short_only (named symbols o) ≡ named symbols (short_only o)
short-of-named symbols o = grind arith

-- a short code that stands at the index that the first 8 bits are is that of the bits
pub symbol_found : (table : Table) (bits : ℕ) (p : ℕ × ℕ) → length table.counts ≡ 16
    → short_code table.counts table.symbols (low_bits 8 (bits / 256)) ≡ Some p
    → symbol_in table (low_bits 16 bits) ≡ Some p
symbol_found table bits p h e = grind (arith, short_named, short_of_16)

-- where none stands there, no code of at most 8 bits begins the bits
pub none_short : (counts symbols : List ℕ) (bits : ℕ) → length counts ≡ 16
    → short_code counts symbols (low_bits 8 (bits / 256)) ≡ None
    → (c : ℕ × ℕ) → c.1 ≤ 8 → code_in (code_lengths counts) (low_bits 16 bits) ≡ Some c → ⊥
none_short counts symbols bits h none c le found = grind (arith, short_of_16, false≢true)

-- ---- values by their first n bits

-- the next n bits of a text of which n are buffered
pub next-buffered : (n : ℕ) (bits : List Bool) (met : Met) (bytes : List ℕ) → n ≤ 16 →
    IsFilled n bits met
    → take n (next_16 (upcoming_by bits met bytes).bits) ≡ next_bits n bits
next-buffered n bits (Unmet beyond) bytes le h =
    let t = (text_at bytes).bits in
    let z = replicate 16 false in
    take-take n 16 ((bits ++ t) ++ z) le
    ∙ take-append-le n (bits ++ t) z (omega (arith, length-append bits t)) ∙ take-append-le n bits t h
    ∙ sym (take-append-le n bits (replicate n false) h)
next-buffered n bits (At end) bytes le h =
    take-take n 16 (bits ++ replicate 16 false) le ∙ same_zeros bits n 16 n (omega arith) (omega arith)

pub length-next_bits : (n : ℕ) (bits : List Bool) → length (next_bits n bits) ≡ n
length-next_bits n bits = grind (arith, length-take, length-append, length-replicate)

-- the first 11 of the next 16 bits
pub eleven_front : (number : ℕ) (bits : List Bool) → low_bits 16 number ≡ next_16 bits
    → low_bits 11 (number / 32) ≡ next_bits 11 bits
eleven_front number bits e =
    sym (low_bits-take 11 5 number) ∙ ap (take 11) e ∙ take-take 11 16 (bits ++ replicate 16 false) (omega arith)
    ∙ same_zeros bits 11 16 11 (omega arith) (omega arith)

-- whether the rest of some bits can be taken
pub rest-buffered : (l n : ℕ) (bits : List Bool) (met : Met) → l + n ≤ length bits
    → has_buffered n (drop l bits) met ≡ Ok tt
rest-buffered l n bits met h = grind (arith, length-drop)

both-buffered : (l n : ℕ) (bits : List Bool) (met : Met) → has_buffered (l + n) bits met
    ≡ Ok tt
    → has_buffered n (drop l bits) met ≡ Ok tt
both-buffered l n bits met h = grind (arith, rest-buffered, false≢true)

-- fewer bits can be taken too
pub fewer-buffered : (few n : ℕ) (bits : List Bool) (met : Met) → few ≤ n → has_buffered
    n bits met ≡ Ok tt
    → has_buffered few bits met ≡ Ok tt
fewer-buffered few n bits met le h = grind (arith, rest-buffered, false≢true)

zeros-after : (bits : List Bool) (l n k : ℕ) → l + n ≤ k → take n (drop l (bits ++ replicate k false))
    ≡ take n (drop l bits ++ replicate n false)
zeros-after [] l n k h = grind (arith, drop-replicate, take-replicate, drop-nil)
zeros-after (x ∷ xs) zero n k h = same_zeros (x ∷ xs) n k n (omega arith) (omega arith)
zeros-after (x ∷ xs) (suc l) n k h = zeros-after xs l n k (omega arith)

-- the bits of a value after its code, of the first n
pub value-bits : (n : ℕ) (bits : List Bool) (l s : ℕ) → l + s ≤ n
    → take s (drop l (next_bits n bits)) ≡ take s (drop l bits ++ replicate s false)
value-bits n bits l s h = let e : n ≡ l + (n - l) = omega arith in grind (arith, drop-take, take-take, zeros-after)

abbrev pub size_of : Table → ℕ × ℕ → ℕ
size_of table c = get_or table.symbols c.0 0 % 16

abbrev is_short : ℕ → Table → ℕ × ℕ → Bool
is_short n table c = is_ac table.class && (ltb 0 (size_of table c) && leb (c.1 + size_of table c) n)

token_none : (table : Table) (c : ℕ × ℕ) (bits : List Bool)
    → short_value_by 8 table.class bits (Some (get_or table.symbols c.0 0, c.1)) ≡ None → short_token table c ≡ None
token_none table c bits h = grind (arith, false≢true)

-- the code of a short value
pub record IsShort (most : ℕ) (table : Table) (c : ℕ × ℕ) (bits : List Bool) (v : ℤ) (r n : ℕ) : Type 0 where
  pub short : is_short most table c ≡ true
  pub some : ltb 0 (size_of table c) ≡ true
  pub few : c.1 + size_of table c ≤ most
  pub value : v ≡ extended (number_of (take (size_of table c) (drop c.1 bits))) (size_of table c)
  pub run : r ≡ get_or table.symbols c.0 0 / 16
  pub all : n ≡ c.1 + size_of table c

pub all_short : (a b d : Bool) → (a && (b && d)) ≡ true → (b ≡ true) × (d ≡ true)
all_short a b d h = grind (arith, false≢true)

pub short_some : (most : ℕ) (table : Table) (c : ℕ × ℕ) (bits : List Bool) (v : ℤ) (r n : ℕ)
    → short_value_by most table.class bits (Some (get_or table.symbols c.0 0, c.1)) ≡ Some (v, r, n)
    → IsShort most table c bits v r n
short_some most table c bits v r n h = grind (arith, false≢true, all_short)

filled-rest : (m l n : ℕ) (bits : List Bool) (met : Met) → l + n ≤ m → IsFilled m bits met
    → IsFilled n (drop l bits) met
filled-rest m l n bits met h f = grind (arith, length-drop)

module _ (most : ℕ) (table : Table) (bits : List Bool) (met : Met) (bytes : List ℕ) (few : most ≤ 16)
    (filled : IsFilled most bits met) where
  -- what the buffered bits begin with is seen from the text
  pub value-text : length table.counts ≡ 16 → short_value_of most table (next_bits most bits)
      ≡ short_value_by most table.class (next_bits most bits)
      (symbol_in table (next_16 (upcoming_by bits met bytes).bits))
  value-text counted = grind (arith, value_seen, front_of, length-next_bits, next-buffered)

  -- the value after a code of l bits
  pub value-read : (l s : ℕ) → l + s ≤ most → has_buffered (l + s) bits met ≡ Ok tt
      → signed_from s (upcoming_by (drop l bits) met bytes)
      ≡ Ok (extended (number_of (take s (drop l (next_bits most bits)))) s, upcoming_by (drop (l + s) bits) met bytes)
  unfolding signed_from
  value-read l s le buffered =
      grind (arith, filled-rest, drop-drop, bits_from-buffered, both-buffered, value-bits)

module _ (table : Table) (bits : List Bool) (met : Met) (bytes : List ℕ) (filled : IsFilled 8 bits met)
    (counted : length table.counts ≡ 16) where
  token-text : (c : ℕ × ℕ) (v : ℤ) (r n : ℕ) → IsShort 8 table c (next_bits 8 bits) v r n
      → read_on short_value (after_code c.1 (upcoming_by bits met bytes) (short_token table c)) ≡
      (has_buffered n bits met
      >>= λ (u : Unit {0}). Ok (Some (v, r), upcoming_by (drop n bits) met bytes))
  token-text c v r n k = grind (arith, filled-less, has_bits-buffered, advance-buffered, value-read)

  -- no short token
  pub fast-none : short_value_of 8 table (next_bits 8 bits) ≡ None → fast_from table (upcoming_by bits met bytes) ≡
      Ok (None, upcoming_by bits met bytes)
  unfolding fast_from short_code_from
  fast-none e = go (code_in (code_lengths table.counts) (next_16 (upcoming_by bits met bytes).bits))
      (sym (value-text 8 table bits met bytes (omega arith) filled counted) ∙ e)
    where
      go : (o : Option (ℕ × ℕ)) → short_value_by 8 table.class (next_bits 8 bits) (named table.symbols o) ≡ None
          → read_on short_value (short_code_by table (upcoming_by bits met bytes) o) ≡
          Ok (None, upcoming_by bits met bytes)
      go None n = refl
      go (Some c) n = ap (λ (r : Option (ℕ × ℕ)). read_on short_value (after_code c.1 (upcoming_by bits met bytes) r))
          (token_none table c (next_bits 8 bits) n)

  -- a short token, and how many bits it takes
  pub fast-some : (v : ℤ) (r n : ℕ) → short_value_of 8 table (next_bits 8 bits) ≡ Some (v, r, n)
      → fast_from table (upcoming_by bits met bytes) ≡ (has_buffered n bits met >>= λ (u : Unit {0}).
      Ok (Some (v, r), upcoming_by (drop n bits) met bytes))
  unfolding fast_from short_code_from
  fast-some v r n e = go (code_in (code_lengths table.counts) (next_16 (upcoming_by bits met bytes).bits))
      (sym (value-text 8 table bits met bytes (omega arith) filled counted) ∙ e)
    where
      go : (o : Option (ℕ × ℕ)) → short_value_by 8 table.class (next_bits 8 bits) (named table.symbols o)
          ≡ Some (v, r, n)
          → read_on short_value (short_code_by table (upcoming_by bits met bytes) o) ≡
          (has_buffered n bits met
          >>= λ (u : Unit {0}). Ok (Some (v, r), upcoming_by (drop n bits) met bytes))
      go None w = absurd (false≢true (ap is_some w))
      go (Some c) w = token-text c v r n (short_some 8 table c (next_bits 8 bits) v r n w)

-- ---- building tables

-- the number of a value after a code of l bits, of n
pub value_below : (n bits l s : ℕ) → l + s ≤ n → bits % 2 ^ (n - l) / 2 ^ (n - l - s) < 2 ^ s
value_below n bits l s h = grind (arith, mod-lt, pow_pos, front_small)

pub value_number : (n bits l s : ℕ) → l + s ≤ n → bits % 2 ^ (n - l) / 2 ^ (n - l - s)
    ≡ number_of (take s (drop l (low_bits n bits)))
value_number n bits l s h =
    let m = n - l in
    let e : n ≡ l + m = omega arith in
    let f : m ≡ s + (m - s) = omega arith in
    grind (arith, common_steps, nat_tests, low_bits-drop, low_bits-take, number_of-low_bits, value_below)

-- 11 bits with zeros after them
pub eleven_padded : (b : ℕ) → low_bits 16 (b * 32) ≡ low_bits 11 b ++ replicate 5 false
eleven_padded b =
    let e : b * 32 ≡ b * 2 ^ 5 + 0 = omega arith in
    ap (low_bits 16) e ∙ low_bits-append _ _ _ _ (omega arith)
    ∙ ap (λ (l : List Bool). low_bits 11 b ++ l) (low_bits-zeros 5)

-- the zeros and the bits of a packed value are few
pub small_packed : (o : Option (ℤ × ℕ × ℕ)) → IfSome o (λ t. t.1 ≤ 15) → IfSome o (λ t. t.2 ≤ 11)
    → ((packed o).1 ≤ 15) × ((packed o).2 ≤ 11)
small_packed o run few = grind arith

-- bits that fit a byte
pub within_byte : (o : Option (ℤ × ℕ × ℕ)) → IfSome o (λ t. t.2 ≤ 11) → IfSome o (λ t. t.2 ≤ 255)
within_byte o h = grind arith

-- ---- bytes that the same short code begins

-- a code of l bits begins all bits that have its first l bits
same-code : (symbols : List ℕ) (l v : ℕ) (x y : Option (ℕ × ℕ)) → at_most l x ≡ at_most l y
    → named symbols (short_only x) ≡ Some (v, l) → named symbols (short_only y) ≡ Some (v, l)
same-code symbols l v x y e h = grind (arith, false≢true, at_most)

-- the same code begins the bytes of a run
pub same-run : (counts symbols : List ℕ) (first b v l : ℕ) → length counts ≡ 16 → l ≤ 8
    → b / 2 ^ (8 - l) ≡ first / 2 ^ (8 - l) → short_code counts symbols (low_bits 8 first) ≡ Some (v, l)
    → short_code counts symbols (low_bits 8 b) ≡ Some (v, l)
same-run counts symbols first b v l counted few e h =
    let whole : l + (8 - l) ≡ 8 = omega arith in
    grind (arith, take-append-le, length_low_bits, low_bits-take, same-code, short_agree, all-rising)

-- a run of bytes
pub run-entry : (counts symbols : List ℕ) (first end b : ℕ) (code : Option (ℕ × ℕ)) → length counts ≡ 16
    → first ≤ b → b < end → IfSome code (λ c. c.1 ≤ 8) → IsRun (rest_of_code 8 code) first end
    → code ≡ short_code counts symbols (low_bits 8 first) → code ≡ short_code counts symbols (low_bits 8 b)
run-entry counts symbols first end b None counted from to few run is =
    let whole : b / 2 ^ 0 ≡ first / 2 ^ 0 = run b from to in
    let same : b ≡ first = omega (arith, whole) in
    is ∙ ap (λ (k : ℕ). short_code counts symbols (low_bits 8 k)) (sym same)
run-entry counts symbols first end b (Some (v, l)) counted from to few run is =
    sym (same-run counts symbols first b v l counted few (run b from to) (sym is))

-- one more element that is equal to those before it
pub run-next : (xs : List ℕ) (i v : ℕ) → i < length xs
    → set (replicate i v ++ drop i xs) i v ≡ replicate (i + 1) v ++ drop (i + 1) xs
run-next (x ∷ xs) (suc i) v h = search (rules, run-next xs i v)
run-next xs i v h = search rules

-- where no code is packed
pub unpacked_none : (n : ℕ) → n ≡ 0 → unpacked_code n ≡ None
unfolding unpacked_code
unpacked_none n e = rw e refl

-- where a code is packed
pub unpacked_some : (n k : ℕ) → n ≡ k → (k ≡ 0 → ⊥) → unpacked_code n ≡ Some (k % 256, k / 256)
unfolding unpacked_code
unpacked_some n k e some = grind (arith, nat_tests)

-- elements that are equal, in place of those from `at` on
module _ (xs whole : List ℕ) (at end v : ℕ) (le : at ≤ end) (few : end ≤ length xs)
    (is : whole ≡ take at xs ++ (replicate (end - at) v ++ drop (end - at) (drop at xs))) where
  pub run_before : (k : ℕ) → k < at → get_or whole k 0 ≡ get_or xs k 0
  run_before k lt = grind (arith, common_steps)

  pub run_inside : (k : ℕ) → at ≤ k → k < end → get_or whole k 0 ≡ v
  run_inside k from to = grind (arith, common_steps)

-- no code of at most 8 bits begins the bits once their rows are passed
pub none-after : (counts symbols : List ℕ) (rows : List Row) (byte b n : ℕ) → length counts ≡ 16
    → HoldsRows counts rows → byte ≤ b → b < 256 → 8 ≤ n → ArePassed rows n (byte * 256)
    → None ≡ short_code counts symbols (low_bits 8 b)
unfolding code_in
none-after counts symbols rows byte b n counted holds le few enough passed =
    let lens = code_lengths counts in
    let base = sum (take 8 counts) in
    let t = tried-at counts 8 (omega arith) in
    let p = passed-none counts rows (b * 256) counted holds (omega arith) 8 (omega arith)
    (λ i lt. still-passed rows n (byte * 256) (b * 256) (omega arith) passed i (omega arith)) in
    let rising = subst (IsRising 9 16) (sym t.rest) (rising-lengths 9 16 (drop 8 counts) 9 (le_refl 9)
    (omega (arith, length-drop 8 counts))) in
    let long : (j : ℕ) → base ≤ j → j < base + (length lens - base) → 8 < get_or lens j 0 = λ j a z.
    let whole : base + (j - base) ≡ j = omega arith in
    omega (
      arith,
      (rising-at 9 16 (drop base lens) (j - base) rising (omega (arith, length-drop base lens))).0,
      get_or-drop base lens (j - base) 0 ∙ ap (λ (k : ℕ). get_or lens k 0) whole,
    ) in
    let none = ap (short_from 8 lens) p.1
    ∙ long_only 8 lens (begins lens (low_bits 16 (b * 256))) base (length lens - base) long in
    sym (ap (λ (l : List Bool). named symbols (short_only (code_in lens l))) (sym (byte_padded b))
    ∙ ap (named symbols) none)

-- ---- numbers of n bits that the same value begins

-- the first bits of numbers that differ in their last alone
same-front : (n k first b : ℕ) → k ≤ n → b / 2 ^ k ≡ first / 2 ^ k
    → take (n - k) (low_bits n first) ≡ take (n - k) (low_bits n b)
same-front n k first b le e =
    let m = n - k in
    let whole : n ≡ m + k = omega arith in
    ap (λ (j : ℕ). take m (low_bits j first)) whole ∙ low_bits-take m k first ∙ ap (low_bits m) (sym e)
    ∙ sym (ap (λ (j : ℕ). take m (low_bits j b)) whole ∙ low_bits-take m k b)

-- and fewer of them
fewer-front : (m n : ℕ) (x y : List Bool) → m ≤ n → take n x ≡ take n y → take m x ≡ take m y
fewer-front m n x y le e = sym (take-take m n x le) ∙ ap (take m) e ∙ take-take m n y le

-- a value by its code and its bits
abbrev value_by : ℕ → HuffmanTableClass → ℕ × ℕ → List Bool → Option (ℤ × ℕ × ℕ)
value_by n class c bits =
    if is_ac class && (nat_lt 0 (c.0 % 16) && nat_le (c.1 + c.0 % 16) n)
    then Some (extended (number_of bits) (c.0 % 16), c.0 / 16, c.1 + c.0 % 16) else None

-- a code and its value begin all bits that have their first bits
same-value : (n : ℕ) (class : HuffmanTableClass) (x y : List Bool) (c : ℕ × ℕ)
    → take (c.1 + c.0 % 16) x ≡ take (c.1 + c.0 % 16) y
    → short_value_by n class x (Some c) ≡ short_value_by n class y (Some c)
same-value n class x y c e =
    ap (value_by n class c) (sym (drop-take c.1 (c.0 % 16) x) ∙ ap (drop c.1) e ∙ drop-take c.1 (c.0 % 16) y)

-- a code whose value isn't within the bits
value-beyond : (n : ℕ) (class : HuffmanTableClass) (x : List Bool) (c : ℕ × ℕ) → n < c.1 + c.0 % 16
    → short_value_by n class x (Some c) ≡ None
value-beyond n class x c over = grind (arith, nat_tests, false≢true)

found-again : (c : ℕ × ℕ) (o : Option (ℕ × ℕ)) → at_most c.1 (Some c) ≡ at_most c.1 o → o ≡ Some c
found-again c o h = grind (arith, nat_tests, false≢true)

module _ (n : ℕ) (table : Table) (first b : ℕ) (most : n ≤ 16) (counted : length table.counts ≡ 16) where
  abbrev padded : ℕ → List Bool
  padded k = low_bits n k ++ replicate (16 - n) false

  abbrev code_at : ℕ → Option (ℕ × ℕ)
  code_at k = code_in (code_lengths table.counts) (padded k)

  padded-front : (m k : ℕ) → m ≤ n → take m (padded k) ≡ take m (low_bits n k)
  padded-front m k le = take-append-le m (low_bits n k) (replicate (16 - n) false) (omega (arith, length_low_bits n k))

  same-padded : (m : ℕ) → m ≤ n → take m (low_bits n first) ≡ take m (low_bits n b)
      → take m (padded first) ≡ take m (padded b)
  same-padded m le e = padded-front m first le ∙ e ∙ sym (padded-front m b le)

  same-at : (c : ℕ × ℕ) → c.1 ≤ n → take c.1 (low_bits n first) ≡ take c.1 (low_bits n b) → code_at first ≡ Some c
      → code_at b ≡ Some c
  same-at c le e is =
      let agree = short_agree c.1 (code_lengths table.counts) (all-rising table.counts counted) (padded first)
      (padded b) (same-padded c.1 le e) in
      found-again c (code_at b) (ap (at_most c.1) (sym is) ∙ agree)

  run-by : (o : Option (ℕ × ℕ)) → code_at first ≡ o → b / 2 ^ rest_of_value n (named table.symbols o)
      ≡ first / 2 ^ rest_of_value n (named table.symbols o)
      → short_value_by n table.class (low_bits n first) (named table.symbols o)
      ≡ short_value_by n table.class (low_bits n b) (named table.symbols (code_at b))
  run-by None is same =
      let whole : b ≡ first = omega (arith, same) in
      ap (λ (p : Option (ℕ × ℕ)). short_value_by n table.class (low_bits n first) (named table.symbols p)) (sym is)
      ∙ ap (λ (k : ℕ). short_value_by n table.class (low_bits n k) (named table.symbols (code_at k))) (sym whole)
  run-by (Some c) is same =
      let s = size_of table c in
      let symbol = get_or table.symbols c.0 0 in
      elim (cases_lt n (c.1 + s)) [
        | inl over ↦
            let rest : n - c.1 ≡ rest_of_value n (Some (symbol, c.1)) = grind (arith, nat_tests) in
            let e = subst (λ (k : ℕ). b / 2 ^ k ≡ first / 2 ^ k) (sym rest) same in
            value-beyond n table.class (low_bits n first) (symbol, c.1) over
            ∙ beyond over e (cases_lt n c.1)
        | inr within ↦
            let k = n - (c.1 + s) in
            let rest : k ≡ rest_of_value n (Some (symbol, c.1)) = grind (arith, nat_tests) in
            let e = subst (λ (j : ℕ). b / 2 ^ j ≡ first / 2 ^ j) (sym rest) same in
            let all : n - k ≡ c.1 + s = omega arith in
            let front = subst (λ (m : ℕ). take m (low_bits n first) ≡ take m (low_bits n b)) all
            (same-front n k first b (omega arith) e) in
            let found = same-at c (omega arith) (fewer-front c.1 (c.1 + s) (low_bits n first) (low_bits n b)
            (omega arith) front) is in
            same-value n table.class (low_bits n first) (low_bits n b) (symbol, c.1) front
            ∙ ap (λ (p : Option (ℕ × ℕ)). short_value_by n table.class (low_bits n b) (named table.symbols p))
            (sym found)
      ]
    where
      beyond : n < c.1 + size_of table c → b / 2 ^ (n - c.1) ≡ first / 2 ^ (n - c.1) → (n < c.1) ⊎ (c.1 ≤ n)
          → None ≡ short_value_by n table.class (low_bits n b) (named table.symbols (code_at b))
      beyond over e (inl long) =
          let none : n - c.1 ≡ 0 = omega arith in
          let whole : b / 2 ^ 0 ≡ first / 2 ^ 0 = rw none at e in
          let same : first ≡ b = omega (arith, whole) in
          sym (value-beyond n table.class (low_bits n b) (get_or table.symbols c.0 0, c.1) over)
          ∙ ap (λ (p : Option (ℕ × ℕ)). short_value_by n table.class (low_bits n b) (named table.symbols p))
          (sym is ∙ ap code_at same)
      beyond over e (inr le) =
          let all : n - (n - c.1) ≡ c.1 = omega arith in
          let front = subst (λ (m : ℕ). take m (low_bits n first) ≡ take m (low_bits n b)) all
          (same-front n (n - c.1) first b (omega arith) e) in
          sym (value-beyond n table.class (low_bits n b) (get_or table.symbols c.0 0, c.1) over)
          ∙ ap (λ (p : Option (ℕ × ℕ)). short_value_by n table.class (low_bits n b) (named table.symbols p))
          (sym (same-at c le front is))

  -- the same value begins the numbers of a run
  pub value-run : (end : ℕ) → first ≤ b → b < end
      → IsRun (rest_of_value n (symbol_in table (low_bits n first ++ replicate (16 - n) false))) first end
      → short_value_of n table (low_bits n first) ≡ short_value_of n table (low_bits n b)
  value-run end from to run = run-by (code_at first) refl (run b from to)

-- ---- where a run ends

module _ (first rest : ℕ) where
  run-within : (n : ℕ) → rest ≤ n → first < 2 ^ n
      → (first / 2 ^ rest + 1) * 2 ^ rest % 18446744073709551616 ≤ 2 ^ n
  run-within n le fits =
      let whole : n - rest + rest ≡ n = omega arith in
      let size : 2 ^ (n - rest) * 2 ^ rest ≡ 2 ^ n
      = sym (pow-add 2 (n - rest) rest) ∙ ap (λ (k : ℕ). 2 ^ k) whole in
      let below : first / 2 ^ rest < 2 ^ (n - rest)
      = front_small first (n - rest) rest (subst (λ (k : ℕ). first < 2 ^ k) (sym whole) fits) in
      let times : (first / 2 ^ rest + 1) * 2 ^ rest ≤ 2 ^ (n - rest) * 2 ^ rest
      = mul-le-mul_right (2 ^ rest) (omega (arith, below)) in
      omega (arith, times, size)

  pub run-most : first < 2048 → rest ≤ 11 → (first / 2 ^ rest + 1) * 2 ^ rest % 18446744073709551616 ≤ 2048
  run-most fits le = run-within 11 le fits

  pub run-byte : first < 256 → rest ≤ 8 → (first / 2 ^ rest + 1) * 2 ^ rest % 18446744073709551616 ≤ 256
  run-byte fits le = run-within 8 le fits

  pub run-same : IsRun rest first ((first / 2 ^ rest + 1) * 2 ^ rest % 18446744073709551616)
  run-same b from to = grind (arith, div-mul-le_self, div-eq_of_lt-le)

-- ---- symbols and short values of bits that are buffered

-- the code of a symbol that is found
record IsCode (table : Table) (bits : List Bool) (symbol size : ℕ) : Type 0 where
  code : ℕ × ℕ
  found : code_in (code_lengths table.counts) bits ≡ Some code
  symbol_is : symbol ≡ get_or table.symbols code.0 0
  size_is : code.1 ≡ size

code_of : (table : Table) (bits : List Bool) (symbol size : ℕ) → symbol_in table bits ≡ Some (symbol, size)
    → IsCode table bits symbol size
code_of table bits symbol size h = grind (arith, false≢true)

no_code_of : (table : Table) (bits : List Bool) → symbol_in table bits ≡ None → code_in (code_lengths table.counts) bits
    ≡ None
no_code_of table bits h = grind (arith, false≢true)

code_from-named : (table : Table) (bits : List Bool) (met : Met) (bytes : List ℕ) (symbol size : ℕ)
    → IsFilled 16 bits met → size ≤ 16 → symbol_in table (next_16 bits) ≡ Some (symbol, size)
    → code_from table (upcoming_by bits met bytes)
    ≡ if_buffered (size, symbol) (upcoming_by (drop size bits) met bytes) (has_buffered size bits met)
code_from-named table bits met bytes symbol size f le e = grind (arith, code_of, code_from-buffered)

pub Code-buffered : (table : Table) (b d : Ahead) (source : Stream) (symbol size : ℕ) → IsFilled 16
    b.bits b.met
    → size ≤ 16 → symbol_in table (next_16 b.bits) ≡ Some (symbol, size) → is_ok (has_buffered size
    b.bits b.met) ≡ true
    → d.bits ≡ drop size b.bits → d.met ≡ b.met
    → Takes (λ (c : ℕ × ℕ). c) (code_from table) b source (Ok (size, symbol)) d source
unfolding upcoming
Code-buffered table b d source symbol size f le e ok eb em = (
  refl,
  λ known. (
    known,
    code_from-named _ b.bits b.met source.bytes symbol size f le e
        ∙ ap (if_buffered (size, symbol) (upcoming_by (drop size b.bits) b.met source.bytes)) (ok_unit _ ok)
        ∙ sym (ap (λ bs. Ok ((size, symbol), upcoming_by bs d.met source.bytes)) eb
        ∙ ap (λ m. Ok ((size, symbol), upcoming_by (drop size b.bits) m source.bytes)) em),
  ),
)

pub Code-refused : (table : Table) (b : Ahead) (source : Stream) (symbol size : ℕ) (e : Error)
    → IsFilled 16 b.bits b.met → size ≤ 16 → symbol_in table (next_16 b.bits) ≡ Some (symbol, size)
    → Names e (has_buffered size b.bits b.met)
    → Takes (λ (c : ℕ × ℕ). c) (code_from table) b source (Err e) b source
unfolding upcoming
Code-refused table b source symbol size e f le h want = (
  MayFail-same e (has_buffered size b.bits b.met) source.failed want,
  λ known _. Names-through _ _ _ (λ g x. code_from-named _ b.bits b.met source.bytes symbol size f le h
      ∙ ap (if_buffered (size, symbol) (upcoming_by (drop size b.bits) b.met source.bytes)) x) want,
  λ known gone. still_known e _ known gone,
)

pub Code-none : (table : Table) (b : Ahead) (source : Stream) (e : Error) → IsFilled 16 b.bits b.met
    → symbol_in table (next_16 b.bits) ≡ None → NamesFormat e
    → Takes (λ (c : ℕ × ℕ). c) (code_from table) b source (Err e) b source
unfolding upcoming
Code-none table b source e f h format =
    grind (arith, may_fail_format, names_format, code_from-none, no_code_of, still_known)

pub Symbol-of-code : (table : Table) (b d : Ahead) (source : Stream) (c : ℕ × ℕ)
    → Takes (λ (c : ℕ × ℕ). c) (code_from table) b source (Ok c) d source
    → Takes (λ (n : ℕ). n) (symbol_from table) b source (Ok c.1) d source
Symbol-of-code table b d source c code = grind (arith, symbol-code)

pub Symbol-no-code : (table : Table) (b d : Ahead) (source : Stream) (e : Error)
    → Takes (λ (c : ℕ × ℕ). c) (code_from table) b source (Err e) d source
    → Takes (λ (n : ℕ). n) (symbol_from table) b source (Err e) d source
Symbol-no-code table b d source e code = grind (arith, symbol-code)

pub fast-taken : (table : Table) (b d : Ahead) (bytes : List ℕ) (v : ℤ) (r n : ℕ) → length table.counts ≡ 16
    → IsFilled 8 b.bits b.met → short_value_of 8 table (next_bits 8 b.bits) ≡ Some (v, r, n)
    → is_ok (has_buffered n b.bits b.met) ≡ true → d.bits ≡ drop n b.bits → d.met ≡ b.met
    → fast_from table (upcoming b bytes) ≡ Ok (Some (v, r), upcoming d bytes)
unfolding upcoming
fast-taken table b d bytes v r n counted f e ok eb em =
    fast-some _ b.bits b.met bytes f counted v r n e
    ∙ ap (λ (o : Result (Unit {0}) Fault). o >>r= λ (u : Unit {0}).
    Ok (Some (v, r), upcoming_by (drop n b.bits) b.met bytes)) (ok_unit _ ok)
    ∙ sym (ap (λ bs. Ok (Some (v, r), upcoming_by bs d.met bytes)) eb
    ∙ ap (λ m. Ok (Some (v, r), upcoming_by (drop n b.bits) m bytes)) em)

pub fast-refused : (table : Table) (b : Ahead) (bytes : List ℕ) (v : ℤ) (r n : ℕ) → length table.counts ≡ 16
    → IsFilled 8 b.bits b.met → short_value_of 8 table (next_bits 8 b.bits) ≡ Some (v, r, n)
    → (f : Fault) → has_buffered n b.bits b.met ≡ Err f → fast_from table (upcoming b bytes) ≡ Err f
unfolding upcoming
fast-refused table b bytes v r n counted h e f x =
    fast-some table b.bits b.met bytes h counted v r n e ∙ bind_err _ _ f x

pub fast-not : (table : Table) (b : Ahead) (bytes : List ℕ) → length table.counts ≡ 16 → IsFilled 8 b.bits b.met
    → short_value_of 8 table (next_bits 8 b.bits) ≡ None
    → fast_from table (upcoming b bytes) ≡ Ok (None, upcoming b bytes)
unfolding upcoming
fast-not table b bytes counted h e = fast-none table b.bits b.met bytes h counted e

-- ---- a table of class DC has no short values

fast-dc : (table : Table) (t : Text) → table.class ≡ DC → fast_from table t ≡ Ok (None, t)
unfolding fast_from short_code_from
fast-dc table t dc = go (code_in (code_lengths table.counts) (next_16 t.bits))
  where
    go : (o : Option (ℕ × ℕ)) → read_on short_value (short_code_by table t o) ≡ Ok (None, t)
    go None = refl
    go (Some c) = rw dc refl

pub fast_unread : (table : Table) (a : Ahead) (source : Stream) → table.class ≡ DC
    → Takes (λ (v : Option (ℤ × ℕ)). v) (fast_from table) a source (Ok None) a source
fast_unread table a source dc = (refl, λ known. (known, fast-dc table (upcoming a source.bytes) dc))

-- ---- the look-up table of values

-- the value at an index that it has
pub value_at : (table : Table) (values : List (Option (ℤ × ℕ × ℕ))) (b : ℕ) → HoldsValues table values
    → b < length values → get_or values b None ≡ short_value_of 8 table (low_bits 8 b)
value_at table values b (inl none) lt = absurd (below_none b (subst (λ (l : List (Option (ℤ × ℕ × ℕ))). b < length l) none lt))
  where
    below_none : (b : ℕ) → b < 0 → ⊥
    below_none b h = omega (arith, h)
value_at table values b (inr held) lt = held.1 b (subst (λ (n : ℕ). b < n) held.0 lt)
