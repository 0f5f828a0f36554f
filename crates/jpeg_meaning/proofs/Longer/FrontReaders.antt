-- Readers of entropy-coded bits take the same first bits whatever bits come after them; or they break a rule, whatever
-- comes after the bits, or lack bits.
use Rattle.std.proofs.Common.{rules, ◌≡◌, ◌⊎◌, inl, inr, ℕ, zero, suc, ◌+◌, ◌<◌, ◌≤◌, Bool, true, false, cond, List}
use Rattle.std.proofs.Common.{[], ◌∷◌, ◌++◌, length, take, drop, replicate, refl, sym, ap, ◌∙◌, arith, Ok, Err}
use Rattle.std.proofs.Common.{Option, Some, None, ℤ, slice_index, get_or, if◌then◌else◌, append_assoc, eqb, append-nil}
use Rattle.std.proofs.Common.{◌*◌, ◌-◌, ◌/◌, ◌^◌, map}
use Rattle.std.proofs.Common.{take-append-drop, length-take, length-append, le_refl, Result, subst}
use Rattle.std.proofs.lemmas.Bool.{cases_lt, lt-leb}
use Rattle.std.proofs.lemmas.List.{take-append-le, take-take, drop_at, length-replicate}
use Rattle.std.proofs.lemmas.List.FromFn.{get_or-map-range_with_len}
use Rattle.std.specs.List.{range_with_len}
use Rattle.std.specs.Option.{option_map}
use Rattle.jpeg_bits.specs.Reading.{Fault, End, Malformed}
use Rattle.jpeg_bits.specs.Entropy.{bits_from, has_bits, number_of, Broken, Ending, Found, Stops}
use Rattle.jpeg_bits.specs.Readers.{Reads, ReadsJust, each, read_on, gives, refused, signed_from, text, ◌>>=◌}
use Rattle.jpeg_bits.specs.Codes.{Table, begins, code_by, code_from, code_in, code_lengths, code_value, next_16}
use Rattle.jpeg_bits.specs.Codes.{symbol_from}
use Rattle.jpeg_bits.specs.Bands.{Band, after_token, difference, first_ac, first_dc, token_at, token_from}
use Rattle.jpeg_bits.specs.Refinement.{corrected, corrected_by, refined_ac, refined_piece}
use Rattle.jpeg_bits.specs.Passes.{Block, Pass, band_part, block_from, dc_part}
use Rattle.jpeg_bits.specs.declared.blocks.tokens.Token.{Token}
use Rattle.jpeg_bits.specs.declared.blocks.tokens.Token.TheVariants.{Value}
use Rattle.jpeg_bits.proofs.BufferedBits.{has_enough}
use Rattle.jpeg_bits.specs.ShortCodes.{ArePassed, HoldsRows, no_row, row_at, value_after}
use Rattle.jpeg_bits.specs.Written.{low_bits}
use Rattle.jpeg_bits.specs.declared.huffman.codes.Row.{Row}
use Rattle.jpeg_bits.proofs.CodeLemmas.{first_from, none_found, passed-none, rows_passed, still-passed}
use Rattle.jpeg_bits.proofs.Tables.{ordered, rising-lengths}
use Rattle.jpeg_bits.proofs.TakenTexts.{IsStrict}
use Rattle.jpeg_bits.proofs.WrittenBits.{number_onto, takes-bind, takes-bits, takes-gives}
use Rattle.jpeg_meaning.proofs.Longer.FrontNumbers.{front-number, none-is, some-is}

-- ---- readers

-- These bits break a rule for a reader, before any end; and so do more bits that begin with them, where `sized` says
-- that its tables have 16 counts.
abbrev pub Breaks : {A : Type 0} → Type 0 → Reads A → List Bool → Type 0
Breaks sized p bits =
    (more : List Bool) → (more ≡ []) ⊎ sized → (f : Ending) (ps : List (List ℕ))
    → p (text (bits ++ more) ps f) ≡ Err Malformed

-- the fault where bits lack before a strict end
abbrev pub lack_at : Ending → Fault
lack_at (Broken f) = f
lack_at e = Malformed

-- These bits have this fault for a reader, where nothing follows them: a rule is broken before any end; or bits lack,
-- and the fault is that of the end.
pub data FaultIn {A : Type 0} (sized : Type 0) (p : Reads A) (bits : List Bool) (g : Fault) : Type 0 where
  rule : g ≡ Malformed → Breaks sized p bits → FaultIn sized p bits g
  short : g ≡ End → ((e : Ending) → IsStrict e → (ps : List (List ℕ)) → p (text bits ps e) ≡ Err (lack_at e))
      → FaultIn sized p bits g

pub broken : {A sized : Type 0} (p : Reads A) (bits : List Bool) (f : Ending) (ps : List (List ℕ)) → Breaks sized p bits
    → p (text bits ps f) ≡ Err Malformed
broken p bits f ps is = ap (λ (b : List Bool). p (text b ps f)) (sym (append-nil bits)) ∙ is [] (inl refl) f ps

pub fault-read : {A sized : Type 0} (p : Reads A) (bits : List Bool) (g : Fault) (ps : List (List ℕ))
    → FaultIn sized p bits g → p (text bits ps (Broken End)) ≡ Err g
fault-read p bits g ps (rule m is) = broken p bits (Broken End) ps is ∙ ap Err (sym m)
fault-read p bits g ps (short m is) = is (Broken End) tt ps ∙ ap Err (sym m)

-- the fault before a strict end
pub strict-fault : {A sized : Type 0} (p : Reads A) (bits : List Bool) (g : Fault) (e : Ending) → IsStrict e
    → FaultIn sized p bits g → (k : Fault) × ((ps : List (List ℕ)) → p (text bits ps e) ≡ Err k)
strict-fault p bits g e s (rule m is) = (Malformed, λ ps. broken p bits e ps is)
strict-fault p bits g e s (short m is) = (lack_at e, λ ps. is e s ps)

-- What is read of these bits: some first ones, whatever comes after them; or a fault where nothing does.
pub data Front {A : Type 0} (sized : Type 0) (p : Reads A) (bits : List Bool) : Type 0 where
  gave : (own left : List Bool) (x : A) → bits ≡ own ++ left → ReadsJust p own x → Front sized p bits
  failed : (g : Fault) → FaultIn sized p bits g → Front sized p bits

-- what is read of bits that begin with the reader's own
pub own-read : {A : Type 0} (p : Reads A) (own left bits : List Bool) (x : A) (ps : List (List ℕ)) (e : Ending)
    → bits ≡ own ++ left → ReadsJust p own x → p (text bits ps e) ≡ Ok (x, text left (drop (length own) ps) e)
own-read p own left bits x ps e is r = ap (λ (b : List Bool). p (text b ps e)) is ∙ r.read left ps e

fault-bind : {A B sized : Type 0} (p : Reads A) (f : A → Reads B) (bits : List Bool) (g : Fault)
    → FaultIn sized p bits g → FaultIn sized (p >>= f) bits g
fault-bind p f bits g (rule m is) = rule m (λ more so e ps. ap (read_on f) (is more so e ps))
fault-bind p f bits g (short m is) = short m (λ h s ps. ap (read_on f) (is h s ps))

fault-after : {A B sized : Type 0} (p : Reads A) (f : A → Reads B) (own left bits : List Bool) (x : A) (g : Fault)
    → bits ≡ own ++ left → ReadsJust p own x → FaultIn sized (f x) left g → FaultIn sized (p >>= f) bits g
fault-after p f own left bits x g e r (rule m is) =
    rule m (λ more so d ps.
    ap (read_on f) (own-read p own (left ++ more) (bits ++ more) x ps d
    (ap (λ (b : List Bool). b ++ more) e ∙ append_assoc own left more) r)
    ∙ is more so d (drop (length own) ps))
fault-after p f own left bits x g e r (short m is) =
    short m (λ h s ps. ap (read_on f) (own-read p own left bits x ps h e r) ∙ is h s (drop (length own) ps))

unfoldable pub TakesFront : {A : Type 0} → Type 0 → Reads A → Type 0
TakesFront sized p = (bits : List Bool) → Front sized p bits

pub err-same : {A : Type 0} (f g : Fault) → ◌≡◌ {A = Result A Fault} (Err f) (Err g) → f ≡ g
err-same f g e = cc

then-front : {A B sized : Type 0} (p : Reads A) (f : A → Reads B) → ((x : A) → TakesFront sized (f x))
    → (bits : List Bool) → Front sized p bits → Front sized (p >>= f) bits
unfolding TakesFront
then-front {A} {B} {sized} p f each bits (failed g is) = failed g (fault-bind p f bits g is)
then-front {A} {B} {sized} p f each bits (gave own left x e r) = go (each x left)
  where
    go : Front sized (f x) left → Front sized (p >>= f) bits
    go (failed g is) = failed g (fault-after p f own left bits x g e r is)
    go (gave next rest y d s) = gave (own ++ next) rest y
        (e ∙ ap (λ (b : List Bool). own ++ b) d ∙ sym (append_assoc own next rest)) (takes-bind p f own next x y r s)

pub bind-front : {A B : Type 0} (sized : Type 0) (p : Reads A) (f : A → Reads B) → TakesFront sized p
    → ((x : A) → TakesFront sized (f x)) → TakesFront sized (p >>= f)
unfolding TakesFront
bind-front sized p f h each = λ bits. then-front p f each bits (h bits)

pub gives-front : {A : Type 0} (sized : Type 0) (x : A) → TakesFront sized (gives x)
unfolding TakesFront
gives-front sized x = λ bits. gave [] bits x refl (takes-gives x)

pub refused-front : (sized : Type 0) (A : Type 0) → TakesFront {A = A} sized refused
unfolding TakesFront
refused-front sized A = λ bits. failed Malformed (rule refl (λ more so f ps. refl))

pub if-front : {A : Type 0} (sized : Type 0) (b : Bool) (p q : Reads A) → TakesFront sized p → TakesFront sized q
    → TakesFront sized (if b then p else q)
if-front sized b p q x y = grind arith

pub each-front : {A B : Type 0} (sized : Type 0) (read : A → Reads B) (xs : List A)
    → ((x : A) → TakesFront sized (read x)) → TakesFront sized (each read xs)
unfolding each
each-front sized read [] h = gives-front sized []
each-front sized read (x ∷ xs) h = search (rules, bind-front, gives-front, each-front sized read xs h)

-- ---- bits

front-long : (n : ℕ) (bits : List Bool) → n ≤ length bits → length (take n bits) ≡ n
front-long n bits h = omega (arith, length-take n bits)

-- bits that aren't all there
too-few : (n : ℕ) (bits : List Bool) (e : Ending) → IsStrict e → length bits < n → has_bits n bits e ≡ Err (lack_at e)
too-few n bits (Found m rest) s few = absurd s
too-few n bits (Stops m rest) s few = rw (lt-leb n (length bits) few) refl
too-few n bits (Broken f) s few = rw (lt-leb n (length bits) few) refl

bits-by : {sized : Type 0} (n : ℕ) (bits : List Bool) → (length bits < n) ⊎ (n ≤ length bits)
    → Front sized (bits_from n) bits
unfolding bits_from
bits-by n bits (inl few) = failed End (short refl (λ e s ps. rw (too-few n bits e s few) refl))
bits-by n bits (inr le) = gave (take n bits) (drop n bits) (number_of (take n bits)) (sym (take-append-drop n bits))
    (takes-bits n (take n bits) (front-long n bits le))

pub bits-front : (sized : Type 0) (n : ℕ) → TakesFront sized (bits_from n)
unfolding TakesFront
bits-front sized n = λ bits. bits-by n bits (cases_lt (length bits) n)

-- ---- codes

found-within : (test : ℕ → Bool) (a n i : ℕ) → first_from test a n ≡ Some i → (a ≤ i) × (i < a + n)
found-within test a zero i e = absurd (none-is i e)
found-within test a (suc n) i e = go (test a) e (λ h. found-within test (a + 1) n i h)
  where
    go : (b : Bool) → cond b (Some a) (first_from test (a + 1) n) ≡ Some i
        → (first_from test (a + 1) n ≡ Some i → (a + 1 ≤ i) × (i < a + 1 + n)) → (a ≤ i) × (i < a + suc n)
    go true e more = let s = some-is a i e in (omega (arith, s), omega (arith, s))
    go false e more = let m = more e in (omega (arith, m), omega (arith, m))

-- a test that is the same up to what the first finds finds the same
same-found : (test other : ℕ → Bool) (a n i : ℕ) → first_from test a n ≡ Some i
    → ((j : ℕ) → j ≤ i → other j ≡ test j) → first_from other a n ≡ Some i
same-found test other a zero i e h = absurd (none-is i e)
same-found test other a (suc n) i e h =
    let within = found-within test a (suc n) i e in
    go (test a) (other a) (h a within.0) e (λ k. same-found test other (a + 1) n i k h)
  where
    go : (b c : Bool) → c ≡ b → cond b (Some a) (first_from test (a + 1) n) ≡ Some i
        → (first_from test (a + 1) n ≡ Some i → first_from other (a + 1) n ≡ Some i)
        → cond c (Some a) (first_from other (a + 1) n) ≡ Some i
    go b true s e more = rw (← s) at e
    go b false s e more = more (rw (← s) at e)

-- of the first 16 bits, the first of those that are there
front-of-16 : (l n : ℕ) (bits rest : List Bool) → l ≤ n → n ≤ length bits
    → take l (next_16 (take n bits ++ rest)) ≡ take l (next_16 bits)
front-of-16 l n bits rest h k = go (cases_lt 16 l)
  where
    zeros : List Bool
    zeros = replicate 16 false

    cut : (m : ℕ) → m ≤ n → take m ((take n bits ++ rest) ++ replicate 16 false) ≡ take m (bits ++ replicate 16 false)
    cut m le =
        let long = front-long n bits k in
        take-append-le m (take n bits ++ rest) (replicate 16 false)
        (omega (arith, long, length-append (take n bits) rest))
        ∙ take-append-le m (take n bits) rest (omega (arith, long)) ∙ take-take m n bits le
        ∙ sym (take-append-le m bits (replicate 16 false) (omega arith))

    go : (16 < l) ⊎ (l ≤ 16) → take l (next_16 (take n bits ++ rest)) ≡ take l (next_16 bits)
    go (inl many) = ap (take l) (cut 16 (omega arith))
    go (inr few) =
        take-take l 16 ((take n bits ++ rest) ++ replicate 16 false) few ∙ cut l h
        ∙ sym (take-take l 16 (bits ++ replicate 16 false) few)

begins-same : (lens : List ℕ) (n j : ℕ) (bits rest : List Bool) → get_or lens j 0 ≤ n → n ≤ length bits
    → begins lens (next_16 (take n bits ++ rest)) j ≡ begins lens (next_16 bits) j
unfolding begins
begins-same lens n j bits rest h k =
    ap (λ (b : List Bool). eqb (number_of b) (code_value lens j)) (front-of-16 (get_or lens j 0) n bits rest h k)

code-index : (lens : List ℕ) (o : Option ℕ) (c : ℕ × ℕ) → option_map (λ (i : ℕ). (i, slice_index lens i)) o ≡ Some c
    → (o ≡ Some c.0) × (c.1 ≡ slice_index lens c.0)
code-index lens None c e = absurd (none-is c e)
code-index lens (Some i) c e =
    let s = some-is (i, slice_index lens i) c e in
    (ap (λ (x : ℕ × ℕ). Some x.0) s, sym (ap (λ (x : ℕ × ℕ). x.1) s) ∙ ap (λ (x : ℕ × ℕ). slice_index lens x.0) s)

-- the code that begins some bits, where all its bits are among them, begins all that begin with it
code-same : (counts : List ℕ) (bits rest : List Bool) (c : ℕ × ℕ)
    → code_in (code_lengths counts) (next_16 bits) ≡ Some c → c.1 ≤ length bits
    → code_in (code_lengths counts) (next_16 (take c.1 bits ++ rest)) ≡ Some c
unfolding code_in
code-same counts bits rest c e le =
    let lens = code_lengths counts in
    let is = code-index lens (first_from (begins lens (next_16 bits)) 0 (length lens)) c e in
    let within = found-within (begins lens (next_16 bits)) 0 (length lens) c.0 is.0 in
    let same = same-found (begins lens (next_16 bits)) (begins lens (next_16 (take c.1 bits ++ rest))) 0 (length lens)
    c.0 is.0 (λ j h. begins-same lens c.1 j bits rest (omega (
      arith,
      is.1,
      ordered 1 (length counts) lens j c.0
          (rising-lengths 1 (length counts) counts 1 (le_refl 1) (omega arith)) h (omega (arith, within)),
    )) le) in
    ap (option_map (λ (i : ℕ). (i, slice_index lens i))) same
    ∙ ap (λ (n : ℕ). Some (c.0, n)) (sym is.1)

code-by : {sized : Type 0} (table : Table) (bits : List Bool) (c : ℕ × ℕ)
    → code_in (code_lengths table.counts) (next_16 bits) ≡ Some c → (length bits < c.1) ⊎ (c.1 ≤ length bits)
    → Front sized (code_from table) bits
unfolding code_from
code-by table bits c h (inl few) =
    failed End (short refl (λ e s ps. ap (code_by table (text bits ps e)) h ∙ rw (too-few c.1 bits e s few) refl))
code-by table bits c h (inr le) =
    let long = front-long c.1 bits le in
    gave (take c.1 bits) (drop c.1 bits) (c.1, slice_index table.symbols c.0)
    (sym (take-append-drop c.1 bits)) (record {
      read = λ rest ps e.
          let own = take c.1 bits in
          ap (code_by table (text (own ++ rest) ps e)) (code-same table.counts bits rest c h le)
          ∙ rw (
            has_enough c.1 (own ++ rest) e (omega (arith, long, length-append own rest)),
            drop_at own rest c.1 long,
            long,
          ) refl;
    })

-- zeros are the least of so many bits
zeros-least : (n k : ℕ) (bits more : List Bool) (a b : ℕ) → a ≤ b → n ≤ k → n ≤ length more
    → number_onto a (take n (bits ++ replicate k false)) ≤ number_onto b (take n (bits ++ more))
zeros-least zero k bits more a b le h g = le
zeros-least (suc n) k (x ∷ bits) more a b le h g =
    zeros-least n k bits more (2 * a + cond x 1 0) (2 * b + cond x 1 0) (omega arith) (omega arith) (omega arith)
zeros-least (suc n) (suc k) [] (y ∷ more) a b le h g =
    zeros-least n k [] more (2 * a + cond false 1 0) (2 * b + cond y 1 0) (omega arith) (omega arith) (omega arith)
zeros-least (suc n) zero [] more a b le h g = absurd (omega arith)
zeros-least (suc n) (suc k) [] [] a b le h g = absurd (omega arith)

next-least : (bits more : List Bool) → number_of (next_16 bits) ≤ number_of (next_16 (bits ++ more))
next-least bits more =
    let zeros : List Bool = replicate 16 false in
    subst (λ (l : List Bool). number_of (next_16 bits) ≤ number_of (take 16 l)) (sym (append_assoc bits more zeros))
    (zeros-least 16 16 bits (more ++ zeros) 0 0 (omega arith) (omega arith)
    (omega (arith, length-append more zeros, length-replicate 16 false)))

-- the next 16 bits by their number
next-number : (bits : List Bool) → (low_bits 16 (number_of (next_16 bits)) ≡ next_16 bits)
    × (number_of (next_16 bits) < 2 ^ 16)
next-number bits =
    let zeros : List Bool = replicate 16 false in
    front-number 16 (bits ++ zeros) (omega (arith, length-append bits zeros, length-replicate 16 false))

-- Where no code of a table of 16 counts begins some bits, none begins longer ones: they are after all codes.
none-longer : {sized : Type 0} (counts : List ℕ) (bits more : List Bool) → (sized → length counts ≡ 16)
    → (more ≡ []) ⊎ sized → code_in (code_lengths counts) (next_16 bits) ≡ None
    → code_in (code_lengths counts) (next_16 (bits ++ more)) ≡ None
none-longer counts bits more counted (inl n) none =
    ap (λ (b : List Bool). code_in (code_lengths counts) (next_16 (bits ++ b))) n
    ∙ ap (λ (b : List Bool). code_in (code_lengths counts) (next_16 b)) (append-nil bits) ∙ none
none-longer counts bits more counted (inr s) none =
    let a = next-number bits in
    let b = next-number (bits ++ more) in
    let n = number_of (next_16 bits) in
    let m = number_of (next_16 (bits ++ more)) in
    let rows = map (row_at counts) (range_with_len 0 16) in
    let holds : HoldsRows counts rows
    = λ i lt. get_or-map-range_with_len (row_at counts) 0 16 i i no_row lt (omega arith) in
    let passed : ArePassed rows 16 n = λ i lt.
    let after = (rows_passed counts rows n 16 (counted s) holds a.1 (omega arith)
    (λ c le e. none-is c (sym none ∙ ap (code_in (code_lengths counts)) (sym a.0) ∙ e)) (i + 1) (omega arith)).0 in
    let e : 16 - (i + 1) ≡ 15 - i = omega arith in
    subst (λ (r : Row). r.end ≤ n / 2 ^ (15 - i)) (sym (holds i lt))
    (subst (λ (k : ℕ). value_after counts (i + 1) ≤ n / 2 ^ k) e after) in
    ap (code_in (code_lengths counts)) (sym b.0)
    ∙ none_found counts m 16 (counted s) (omega arith) (omega arith)
    (passed-none counts rows m (counted s) holds b.1 16 (omega arith)
    (still-passed rows 16 n m (next-least bits more) passed)).1

code-found : {sized : Type 0} (table : Table) (bits : List Bool) (o : Option (ℕ × ℕ))
    → (sized → length table.counts ≡ 16) → code_in (code_lengths table.counts) (next_16 bits) ≡ o
    → Front sized (code_from table) bits
unfolding code_from
code-found table bits None counted h =
    failed Malformed (rule refl (λ more so e ps.
    ap (code_by table (text (bits ++ more) ps e)) (none-longer table.counts bits more counted so h)))
code-found table bits (Some c) counted h = code-by table bits c h (cases_lt (length bits) c.1)

pub code-front : (sized : Type 0) (table : Table) → (sized → length table.counts ≡ 16)
    → TakesFront sized (code_from table)
unfolding TakesFront
code-front sized table counted =
    λ bits. code-found table bits (code_in (code_lengths table.counts) (next_16 bits)) counted refl

pub symbol-front : (sized : Type 0) (table : Table) → (sized → length table.counts ≡ 16)
    → TakesFront sized (symbol_from table)
unfolding symbol_from
symbol-front sized table counted = search (rules, bind-front, code-front, gives-front)

pub signed-front : (sized : Type 0) (n : ℕ) → TakesFront sized (signed_from n)
unfolding signed_from
signed-front sized n = search (rules, bind-front, bits-front, gives-front)

-- ---- first passes

difference-front : (sized : Type 0) (table : Table) → (sized → length table.counts ≡ 16)
    → TakesFront sized (difference table)
unfolding difference
difference-front sized table counted = search (rules, bind-front, symbol-front, if-front, signed-front, refused-front)

first_dc-front : (sized : Type 0) (table : Table) (al : ℕ) (predictor : ℤ) → (sized → length table.counts ≡ 16)
    → TakesFront sized (first_dc table al predictor)
unfolding first_dc
first_dc-front sized table al predictor counted = search (rules, bind-front, difference-front, gives-front)

token_at-front : (sized : Type 0) (room size r s : ℕ) → TakesFront sized (token_at room size r s)
unfolding token_at
token_at-front sized room size r s = search (rules, if-front, bind-front, signed-front, bits-front, gives-front)

after-front : (sized : Type 0) (al : ℕ) (others : List ℤ → Reads Band) (rest : List ℤ)
    → ((rest : List ℤ) → TakesFront sized (others rest)) → (token : Token)
    → TakesFront sized (after_token al others rest token)
after-front sized al others rest h (Value r v) = search (rules, bind-front, gives-front)
after-front sized al others rest h token = search (rules, bind-front, gives-front)

first_ac-front : (sized : Type 0) (table : Table) (al n : ℕ) (rest : List ℤ) → (sized → length table.counts ≡ 16)
    → TakesFront sized (first_ac table al n rest)
unfolding first_ac token_from
first_ac-front sized table al (suc n) (x ∷ rest) counted =
    search (rules, bind-front, code-front, token_at-front, after-front, first_ac-front sized table al n)
first_ac-front sized table al n rest counted = search (rules, gives-front, refused-front)

dc-front : (sized : Type 0) (p : Pass) (dc : Table) (z predictor : ℤ) → (sized → length dc.counts ≡ 16)
    → TakesFront sized (dc_part p dc z predictor)
unfolding dc_part
dc-front sized p dc z predictor counted = search (rules, if-front, first_dc-front, bind-front, bits-front, gives-front)

-- ---- refinements

moved-front : (sized : Type 0) (al : ℕ) (z : ℤ) (b : ℕ) → TakesFront sized (corrected_by al z b)
moved-front sized al z b = search (rules, if-front, gives-front, refused-front)

corrected-front : (sized : Type 0) (al : ℕ) (band : List ℤ) → TakesFront sized (corrected al band)
unfolding corrected
corrected-front sized al band = search (rules, each-front, bind-front, if-front, gives-front, bits-front, moved-front)

piece-front : (sized : Type 0) (al : ℕ) (others : List ℤ → Reads Band) (rest : List ℤ)
    → ((rest : List ℤ) → TakesFront sized (others rest)) → (r s : ℕ)
    → TakesFront sized (refined_piece al others rest r s)
unfolding refined_piece
piece-front sized al others rest h r s =
    search (rules, if-front, bind-front, bits-front, corrected-front, gives-front, refused-front) depth 8

refined_ac-front : (sized : Type 0) (table : Table) (al n : ℕ) (rest : List ℤ) → (sized → length table.counts ≡ 16)
    → TakesFront sized (refined_ac table al n rest)
unfolding refined_ac
refined_ac-front sized table al (suc n) (x ∷ rest) counted =
    search (rules, bind-front, symbol-front, piece-front, refined_ac-front sized table al n)
refined_ac-front sized table al n rest counted = search (rules, gives-front, refused-front)

-- ---- blocks

band-front : (sized : Type 0) (p : Pass) (ac : Table) (band : List ℤ) (run : ℕ) → (sized → length ac.counts ≡ 16)
    → TakesFront sized (band_part p ac band run)
unfolding band_part
band-front sized p ac [] run counted = gives-front sized _
band-front sized p ac (x ∷ band) zero counted = search (rules, if-front, first_ac-front, refined_ac-front)
band-front sized p ac (x ∷ band) (suc run) counted = search (rules, if-front, gives-front, bind-front, corrected-front)

pub block-front : (sized : Type 0) (p : Pass) (dc ac : Table) (predictor : ℤ) (run : ℕ) (old : Block)
    → (sized → length dc.counts ≡ 16) → (sized → length ac.counts ≡ 16)
    → TakesFront sized (block_from p dc ac predictor run old)
unfolding block_from
block-front sized p dc ac predictor run old dc_counted ac_counted =
    search (rules, bind-front, dc-front, band-front, gives-front)
