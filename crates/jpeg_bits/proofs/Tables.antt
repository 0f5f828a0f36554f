-- Each code of a table that exists is read as itself, and no other begins its bits.
use Rattle.std.proofs.Common.{◌≡◌, ℕ, zero, suc, ◌+◌, ◌-◌, ◌*◌, ◌^◌, ◌<◌, ◌≤◌, Bool, true, false, cond, List, [], ◌∷◌}
use Rattle.std.proofs.Common.{◌++◌, length, take, drop, get_or, replicate, slice_index, sum_by, Option, Some, refl, sym}
use Rattle.std.proofs.Common.{ap, ◌∙◌, subst, length-append, length-take, length-drop, mul_assoc, arith, pow-suc}
use Rattle.std.proofs.Common.{pow-add, le_refl}
use Rattle.std.proofs.Math.Nat.{add-mul, one-mul, zero-mul, mul-le-mul_right}
use Rattle.std.proofs.Math.Seq.{take-add}
use Rattle.std.specs.Option.{option_map}
use Rattle.std.proofs.lemmas.Bool.{eq-eqb, eqb-true, cases_lt, lt-ltb, ltb-true}
use Rattle.std.proofs.lemmas.List.{take-append-le, take_all, drop_at, take-take, get_or-take, length-replicate}
use Rattle.std.proofs.lemmas.List.Sums.{sum_by-append, sum_by_more, sum_by-take-le}
use Rattle.jpeg_bits.specs.Codes.{Table, code_lengths, lengths_from, code_value, HasCodes, codes_exist}
use Rattle.jpeg_bits.specs.Codes.{begins, code_in, next_16, symbol_from, code_from, code_by}
use Rattle.jpeg_bits.specs.Entropy.{Text, number_of}
use Rattle.jpeg_bits.proofs.CodeLemmas.{first_from, first_from-skip, first_from-hit}
use Rattle.jpeg_bits.proofs.Ranges.{all_pass, each_passes}
use Rattle.jpeg_bits.proofs.BufferedBits.{has_enough, bit_le}
use Rattle.jpeg_bits.specs.Readers.{read_on, gives, text, ReadsJust}
use Rattle.jpeg_bits.specs.Written.{low_bits, code_size, code_bits}
use Rattle.jpeg_bits.proofs.WrittenBits.{number_of-low_bits, length_low_bits, number_onto}

-- each code of the table is read as itself
pub record IsGood (table : Table) : Type 0 where
  pub reads : (i : ℕ) → i < length (code_lengths table.counts)
      → ReadsJust (code_from table) (code_bits table i) (code_size table i, slice_index table.symbols i)

-- ---- lengths

-- no shorter than the length before, and none longer than the most
abbrev pub IsRising : ℕ → ℕ → List ℕ → Type 0
IsRising n most [] = Unit {0}
IsRising n most (l ∷ ls) = (n ≤ l) × (l ≤ most) × IsRising l most ls

rising-run : (n most count : ℕ) (more : List ℕ) → n ≤ most → ((m : ℕ) → m ≤ n → IsRising m most more) → (m : ℕ) → m ≤ n
    → IsRising m most (replicate count n ++ more)
rising-run n most zero more top h m g = h m g
rising-run n most (suc count) more top h m g = (g, top, rising-run n most count more top h n (le_refl n))

pub rising-lengths : (n most : ℕ) (counts : List ℕ) (m : ℕ) → m ≤ n → n + length counts ≤ suc most
    → IsRising m most (lengths_from n counts)
unfolding lengths_from
rising-lengths n most [] m g top = tt
rising-lengths n most (count ∷ counts) m g top =
    rising-run n most count (lengths_from (n + 1) counts) (omega arith) (λ k h. rising-lengths (n + 1) most counts k
    (omega arith) (omega arith)) m g

pub rising-at : (n most : ℕ) (ls : List ℕ) (i : ℕ) → IsRising n most ls → i < length ls → (n ≤ get_or ls i 0)
    × (get_or ls i 0 ≤ most)
rising-at n most [] i h k = absurd (omega arith)
rising-at n most (l ∷ ls) zero h k = (h.0, h.1)
rising-at n most (l ∷ ls) (suc i) h k = omega (arith, rising-at l most ls i h.2 (omega arith))

-- ---- values

scaled-sum : (n m : ℕ) (ls : List ℕ) → n ≤ m → ((k : ℕ) → k < length ls → get_or ls k 0 ≤ n)
    → sum_by (λ x. 2 ^ (m - x)) ls ≡ sum_by (λ x. 2 ^ (n - x)) ls * 2 ^ (m - n)
scaled-sum n m [] h all = sym (zero-mul (2 ^ (m - n)))
scaled-sum n m (l ∷ ls) h all =
    let low : l ≤ n = all 0 (omega arith) in
    let e : m - l ≡ (n - l) + (m - n) = omega arith in
    let one : 2 ^ (m - l) ≡ 2 ^ (n - l) * 2 ^ (m - n) = ap (λ (x : ℕ). 2 ^ x) e ∙ pow-add 2 (n - l) (m - n) in
    let a = sum_by-append (λ x. 2 ^ (m - x)) (l ∷ []) ls in
    let b = sum_by-append (λ x. 2 ^ (n - x)) (l ∷ []) ls in
    grind (arith, add-mul, scaled-sum n m ls h (λ k lt. all (suc k) (omega arith)))

pub ordered : (n most : ℕ) (ls : List ℕ) (k i : ℕ) → IsRising n most ls → k ≤ i → i < length ls
    → get_or ls k 0 ≤ get_or ls i 0
ordered n most [] k i h le lt = absurd (omega arith)
ordered n most (l ∷ ls) zero zero h le lt = le_refl l
ordered n most (l ∷ ls) zero (suc i) h le lt = (rising-at l most ls i h.2 (omega arith)).0
ordered n most (l ∷ ls) (suc k) zero h le lt = absurd (omega arith)
ordered n most (l ∷ ls) (suc k) (suc i) h le lt = ordered l most ls k i h.2 (omega arith) (omega arith)

module _ (n most : ℕ) (lens : List ℕ) (rising : IsRising n most lens) where
  -- a code's value is after all that begin with an earlier code
  pub value-after : (i j : ℕ) → i < j → j < length lens
      → (code_value lens i + 1) * 2 ^ (get_or lens j 0 - get_or lens i 0) ≤ code_value lens j
  unfolding code_value
  value-after i j lt within =
      let si = get_or lens i 0 in
      let sj = get_or lens j 0 in
      let f = λ (x : ℕ). 2 ^ (sj - x) in
      let le : si ≤ sj = ordered n most lens i j rising (omega arith) within in
      let below : (k : ℕ) → k < length (take i lens) → get_or (take i lens) k 0 ≤ si
      = λ k h. let l = length-take i lens in
      let g : k < i = omega arith in
      subst (λ (x : ℕ). x ≤ si) (sym (get_or-take i lens k 0 g)) (ordered n most lens k i rising (omega arith)
      (omega arith)) in
      let s = scaled-sum si sj (take i lens) le below in
      let more : sum_by f (take (i + 1) lens) ≡ sum_by f (take i lens) + f si = sum_by_more f lens i 0 (omega arith) in
      let part : sum_by f (take (i + 1) lens) ≤ sum_by f (take j lens)
      = subst (λ (l : List ℕ). sum_by f l ≤ sum_by f (take j lens)) (take-take (i + 1) j lens (omega arith))
      (sum_by-take-le f (take j lens) (i + 1)) in
      grind (arith, add-mul, one-mul)

number_onto-lt : (a : ℕ) (ys : List Bool) → number_onto a ys < (a + 1) * 2 ^ length ys
number_onto-lt a [] = omega arith
number_onto-lt a (y ∷ ys) =
    let r = number_onto-lt (2 * a + cond y 1 0) ys in
    let b = bit_le y in
    let p : (2 * a + cond y 1 0 + 1) * 2 ^ length ys ≤ (2 * a + 2) * 2 ^ length ys =
    mul-le-mul_right (2 ^ length ys) (omega arith) in
    let d = pow-suc 2 (length ys) in
    let e : (2 * a + 2) * 2 ^ length ys ≡ (a + 1) * 2 ^ suc (length ys)
    = ap (λ (x : ℕ). x * 2 ^ length ys) (let f : 2 * a + 2 ≡ (a + 1) * 2 = omega arith in f)
    ∙ mul_assoc (a + 1) 2 (2 ^ length ys) ∙ ap (λ (x : ℕ). (a + 1) * x) (omega arith) in
    omega (arith, r, p, e)

number_onto-append : (a : ℕ) (xs ys : List Bool) → number_onto a (xs ++ ys) ≡ number_onto (number_onto a xs) ys
number_onto-append a [] ys = refl
number_onto-append a (x ∷ xs) ys = number_onto-append (2 * a + cond x 1 0) xs ys

-- more bits are below the next number of fewer
pub front-below : (n m : ℕ) (bits : List Bool) → n ≤ m → m ≤ length bits
    → number_of (take m bits) < (number_of (take n bits) + 1) * 2 ^ (m - n)
front-below n m bits h k =
    let e : n + (m - n) ≡ m = omega arith in
    let ys = take (m - n) (drop n bits) in
    let l : length ys ≡ m - n = omega (arith, length-take (m - n) (drop n bits), length-drop n bits) in
    let parts : take m bits ≡ take n bits ++ ys = ap (λ (x : ℕ). take x bits) (sym e) ∙ take-add n (m - n) bits in
    let b = number_onto-lt (number_of (take n bits)) ys in
    let whole : number_of (take m bits) ≡ number_onto (number_of (take n bits)) ys = ap number_of parts
    ∙ number_onto-append 0 (take n bits) ys in
    subst (λ (x : ℕ). number_of (take m bits) < (number_of (take n bits) + 1) * 2 ^ x) l (omega (arith, whole, b))

module _ (n most : ℕ) (lens : List ℕ) (rising : IsRising n most lens) (bits : List Bool) (enough : most
    ≤ length bits) where
  is-value : (i : ℕ) → begins lens bits i ≡ true → number_of (take (get_or lens i 0) bits) ≡ code_value lens i
  unfolding begins
  is-value i h = eqb-true _ _ h

  not-both : (i j : ℕ) → i < j → j < length lens → begins lens bits i ≡ true → begins lens bits j ≡ true → ⊥
  not-both i j lt within p q =
      let si = get_or lens i 0 in
      let sj = get_or lens j 0 in
      let le : si ≤ sj = ordered n most lens i j rising (omega arith) within in
      let top = (rising-at n most lens j rising within).1 in
      let f = front-below si sj bits le (omega arith) in
      grind (arith, value-after, is-value)

  -- no two codes begin the same bits
  pub only-code : (i j : ℕ) → i < length lens → j < length lens → begins lens bits i ≡ true → begins lens bits j ≡ true
      → i ≡ j
  only-code i j within within' p q = grind (arith, cases_lt, not-both)

  earlier : (i k : ℕ) → i < length lens → k < i → begins lens bits i ≡ true → begins lens bits k ≡ false
  earlier i k within lt p = grind (arith, not-both)

  -- the code that begins the bits is the one that is found
  pub finds : (i : ℕ) → i < length lens → begins lens bits i ≡ true → code_in lens bits ≡ Some (i, get_or lens i 0)
  unfolding code_in
  finds i within p =
      let test = begins lens bits in
      let none : (k : ℕ) → k < i → test (0 + k) ≡ false = λ k h. let z : 0 + k ≡ k = omega arith in
      ap test z ∙ earlier i k within h p in
      let start : 0 + i ≡ i = omega arith in
      let skip = first_from-skip test 0 i (length lens) (omega arith) none
      ∙ ap (λ (x : ℕ). first_from test x (length lens - i)) start in
      let hit = first_from-hit test i (length lens - i) (omega arith) p in
      ap (λ (o : Option ℕ). option_map (λ (i : ℕ). (i, get_or lens i 0)) o) (skip ∙ hit)

-- ---- tables

pub all-rising : (counts : List ℕ) → length counts ≡ 16 → IsRising 1 16 (code_lengths counts)
all-rising counts h = rising-lengths 1 16 counts 1 (le_refl 1) (omega arith)

enough-bits : (bits : List Bool) → 16 ≤ length (next_16 bits)
enough-bits bits = grind (arith, length-take, length-append, length-replicate)

begins-own : (counts : List ℕ) (i : ℕ) (rest : List Bool) → length counts ≡ 16 → HasCodes (code_lengths counts)
    → i < length (code_lengths counts)
    → begins (code_lengths counts) (next_16 (low_bits (get_or (code_lengths counts) i 0)
    (code_value (code_lengths counts) i) ++ rest)) i ≡ true
unfolding begins
begins-own counts i rest h all within =
    let lens = code_lengths counts in
    let s = get_or lens i 0 in
    let v = code_value lens i in
    let own = low_bits s v in
    let long = length_low_bits s v in
    let zeros = replicate 16 false in
    let small : s ≤ 16 = (rising-at _ _ _ _ (all-rising counts h) within).1 in
    let first : take s (next_16 (own ++ rest)) ≡ own = take-take s 16 ((own ++ rest) ++ zeros) small
    ∙ take-append-le s (own ++ rest) zeros (omega (arith, length-append own rest))
    ∙ take-append-le s own rest (omega arith) ∙ take_all s own (omega arith) in
    eq-eqb _ _ (ap number_of first ∙ number_of-low_bits s v (all i within))

pub code-read : (table : Table) (i : ℕ) → length table.counts ≡ 16 → HasCodes (code_lengths table.counts)
    → i < length (code_lengths table.counts)
    → ReadsJust (code_from table) (code_bits table i) (code_size table i, slice_index table.symbols i)
unfolding code_from
code-read table i h all within = record {
  read = λ rest indices e.
      let lens = code_lengths table.counts in
      let s = get_or lens i 0 in
      let own = code_bits table i in
      let long : length own ≡ s = length_low_bits s (code_value lens i) in
      let t = text (own ++ rest) indices e in
      let found = finds _ _ _ (all-rising table.counts h) _ (enough-bits (own ++ rest)) _
      within (begins-own _ _ _ h all within) in
      ap (code_by table t) found ∙ rw (
        has_enough s (own ++ rest) e (omega (arith, length-append own rest)),
        drop_at own rest s long,
        long,
      ) refl;
}

pub good-table : (table : Table) → length table.counts ≡ 16 → HasCodes (code_lengths table.counts) → IsGood table
good-table table h all = record { reads = λ i within. code-read table i h all within }

-- a symbol is that of the code read
pub symbol-code : (table : Table) (t : Text) → symbol_from table t ≡ read_on (λ (c : ℕ × ℕ). gives c.1)
    (code_from table t)
unfolding symbol_from
symbol-code table t = refl

pub takes-symbol : (table : Table) (i : ℕ) → IsGood table → i < length (code_lengths table.counts)
    → ReadsJust (symbol_from table) (code_bits table i) (slice_index table.symbols i)
takes-symbol table i good within = grind (arith, symbol-code)

-- ---- whether the codes exist, as a test

pub exist-tested : (lengths : List ℕ) → HasCodes lengths → codes_exist lengths ≡ true
unfolding codes_exist
exist-tested lengths h = all_pass _ 0 (length lengths) (λ i l m. lt-ltb _ _ (h i (omega arith)))

pub tested-exist : (lengths : List ℕ) → codes_exist lengths ≡ true → HasCodes lengths
unfolding codes_exist
tested-exist lengths h i l = ltb-true _ _ (each_passes _ 0 (length lengths) i h (omega arith) (omega arith))
