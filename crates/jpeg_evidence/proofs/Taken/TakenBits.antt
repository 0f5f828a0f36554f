-- The bits that were taken are those of what was read of them.
use Rattle.std.proofs.lemmas.Grind.{common_steps}
use Rattle.std.proofs.Common.{rules, ◌≡◌, ℕ, zero, suc, ◌+◌, ◌*◌, ◌^◌, ◌<◌, ◌≤◌, Bool, true, false, cond, List, []}
use Rattle.std.proofs.Common.{◌∷◌, ◌++◌, length, take, replicate, refl, sym, ap, ◌∙◌, arith, take-append-drop}
use Rattle.std.proofs.Common.{length-take, pow-suc, mul_assoc, Ok, Err, Result, if◌then◌else◌, slice_index, Option}
use Rattle.std.proofs.Common.{Some, None, leb, append_assoc}
use lib.Arith.{digits_div}
use Rattle.std.proofs.Math.Nat.{add-mul, zero-mul, one-mul}
use Rattle.std.proofs.lemmas.Bool.{eqb-true}
use Rattle.std.proofs.lemmas.Bool.Decides.{nat_tests}
use Rattle.std.proofs.lemmas.List.{take-append-le, take-take}
use Rattle.std.proofs.Math.Seq.{drop-nil}
use Rattle.jpeg_bits.specs.Reading.{Fault, End, Malformed}
use Rattle.jpeg_bits.specs.Reading as outcomes
use Rattle.jpeg_bits.specs.Entropy.{bits_from, number_of, Text, advance}
use Rattle.jpeg_bits.specs.Readers.{Reads, gives, ◌>>=◌}
use Rattle.jpeg_bits.proofs.CodeLemmas.{first_from}
use Rattle.jpeg_bits.specs.Codes.{Table, IsTable, code_from, code_in, code_value, begins, code_lengths, next_16}
use Rattle.jpeg_bits.specs.Codes.{code_by, symbol_from}
use Rattle.jpeg_bits.specs.Written.{low_bits, IsCoded}
use Rattle.jpeg_bits.proofs.Tables.{rising-at, all-rising, symbol-code}
use Rattle.jpeg_bits.proofs.WrittenBits.{number_onto}
use Rattle.jpeg_bits.proofs.Reservoirs.{low_bits-high}
use Rattle.jpeg_meaning.proofs.Longer.FrontNumbers.{front-number, none-is, some-is}
use Rattle.jpeg_evidence.specs.Strict.{alone, IsCut, IsNumber}

-- ---- what was read

result-of : {A : Type 0} → A × Text → Result (A × Text) Fault → A × Text
result-of d (Ok x) = x
result-of d (Err e) = d

pub ok-parts : {A : Type 0} (a b : A) (t u : Text) → ◌≡◌ {A = Result (A × Text) Fault} (Ok (a, t)) (Ok (b, u))
    → (a ≡ b) × (t ≡ u)
unfolding result-of
ok-parts {A} a b t u e = (ap (λ o. (result-of (a, t) o).0) e, ap (λ o. (result-of (a, t) o).1) e)

pub no-error : {A : Type 0} (f : Fault) (x : A × Text) → ◌≡◌ {A = Result (A × Text) Fault} (Err f) (Ok x) → ⊥
no-error f x e = cc

pub bind-parts : {A B : Type 0} (p : Reads A) (f : A → Reads B) (s t : Text) (y : B)
    → (p >>= f) s ≡ Ok (y, t)
    → (a : A) × (u : Text) × (p s ≡ Ok (a, u)) × (f a u ≡ Ok (y, t))
bind-parts {A} {B} p f s t y e = grind (arith, no-error)

-- what follows what was read
pub after-read : {A B : Type 0} {s u t : Text} {y : B} {a : A} (p : Reads A) (f : A → Reads B) → p s ≡ Ok (a, u)
    → (p >>= f) s ≡ Ok (y, t) → f a u ≡ Ok (y, t)
after-read p f h e = rw h at e

pub map-parts : {A B : Type 0} {s t : Text} {y : B} (p : Reads A) (f : A → B)
    → (p >>= (λ a. gives (f a))) s ≡ Ok (y, t) → (a : A) × (p s ≡ Ok (a, t)) × (f a ≡ y)
map-parts p f e = grind (arith, bind-parts, ok-parts)

pub cut-map : {P Q : List Bool → Type 0} {bits : List Bool} {t : Text} → ((own : List Bool) → P own → Q own)
    → IsCut P bits t → IsCut Q bits t
cut-map f c = record { own = c.own; parts = c.parts; rest = c.rest; holds = f c.own c.holds }

-- what Q says of bits after those of which P holds
abbrev pub After : (List Bool → Type 0) → (List Bool → Type 0) → List Bool → Type 0
After P Q back = (own : List Bool) → P own → Q (own ++ back)

pub cut-then : {P Q : List Bool → Type 0} {bits more : List Bool} {t : Text} → IsCut P bits (alone more)
    → IsCut (After P Q) more t → IsCut Q bits t
cut-then c d = search (rules, append_assoc)

-- what was read in two steps, each of the bits that the other leaves
pub bind-cut : {A B : Type 0} {bits : List Bool} {t : Text} {y : B} {Q : List Bool → Type 0} (p : Reads A)
    (f : A → Reads B) (P : A → List Bool → Type 0)
    → ((a : A) (u : Text) → p (alone bits) ≡ Ok (a, u) → IsCut (P a) bits u)
    → ((a : A) (more : List Bool) → p (alone bits) ≡ Ok (a, alone more) → f a (alone more) ≡ Ok (y, t)
    → IsCut (After (P a) Q) more t) → (p >>= f) (alone bits) ≡ Ok (y, t) → IsCut Q bits t
bind-cut p f P first second e =
    let r = bind-parts p f _ _ _ e in
    let c = first r.0 r.1 r.2 in
    cut-then (rw c.rest at c) (second r.0 r.1.bits (rw c.rest at r.2) (rw c.rest at r.3))

-- what is told with no bits
pub gives-taken : {A : Type 0} {x y : A} {bits : List Bool} {t : Text} (P : A → List Bool → Type 0) → P x []
    → gives x (alone bits) ≡ Ok (y, t) → IsCut (P y) bits t
gives-taken P h e = grind (arith, common_steps, ok-parts)

-- by one of two readers
pub if-read : {A C : Type 0} {s : Text} {o : Result (A × Text) Fault} (b : Bool) (p q : Reads A)
    → (if b then p else q) s ≡ o → (b ≡ true → p s ≡ o → C) → (b ≡ false → q s ≡ o → C) → C
if-read true p q e f g = f refl e
if-read false p q e f g = g refl e

-- what is told of what was read
pub map-taken : {A B : Type 0} {bits : List Bool} {t : Text} {y : B} (p : Reads A) (f : A → B)
    (P : A → List Bool → Type 0) (Q : B → List Bool → Type 0)
    → ((a : A) → p (alone bits) ≡ Ok (a, t) → IsCut (P a) bits t)
    → ((a : A) (own : List Bool) → P a own → Q (f a) own)
    → (p >>= (λ a. gives (f a))) (alone bits) ≡ Ok (y, t) → IsCut (Q y) bits t
map-taken p f P Q taken told e =
    let m = map-parts p f e in
    rw m.2 at (cut-map (told m.0) (taken m.0 m.1))

-- the first n bits, of at least this many
cut-front : (P : List Bool → Type 0) (n : ℕ) (bits : List Bool) (t : Text) → advance n (alone bits) ≡ t
    → P (take n bits) → IsCut P bits t
cut-front P n bits t e h = grind (arith, drop-nil, take-append-drop)

-- ---- numbers

-- the bits are there, and what was told of them
bits-there : {A : Type 0} (n : ℕ) (x y : A) (bits : List Bool) (t : Text)
    → outcomes.◌>>=◌ {B = A × Text} (cond (leb n (length bits)) (Ok tt) (Err End)) (λ (u : Unit {0}).
    Ok (x, advance n (alone bits))) ≡ Ok (y, t) → (n ≤ length bits) × (x ≡ y) × (advance n (alone bits) ≡ t)
bits-there n x y bits t e = grind (arith, nat_tests, ok-parts, no-error)

-- The bits that were taken of a number are its bits.
pub number_taken : {n v : ℕ} {bits : List Bool} {t : Text} → bits_from n (alone bits) ≡ Ok (v, t)
    → IsCut (IsNumber n v) bits t
unfolding bits_from
number_taken {n} {v} {bits} {t} e =
    let q = bits-there n (number_of (take n (bits ++ replicate n false))) v bits t e in
    let front : take n (bits ++ replicate n false) ≡ take n bits = take-append-le n bits (replicate n false) q.0 in
    let is = front-number n bits q.0 in
    let value : number_of (take n bits) ≡ v = ap number_of (sym front) ∙ q.1 in
    cut-front (IsNumber n v) n bits t q.2 (grind arith)

-- ---- codes

test-found : (test : ℕ → Bool) (a n i : ℕ) → first_from test a n ≡ Some i → (test i ≡ true) × (i < a + n)
test-found test a zero i e = absurd (none-is i e)
test-found test a (suc n) i e = search (rules, first_from, some-is, test-found test (a + 1) n i)

code-index : (lens : List ℕ) (bits : List Bool) (c : ℕ × ℕ) → code_in lens bits ≡ Some c
    → (c.0 < length lens) × (c.1 ≡ slice_index lens c.0)
    × (number_of (take c.1 bits) ≡ code_value lens c.0)
unfolding code_in begins
code-index lens bits c e = grind (arith, none-is, some-is, test-found, eqb-true)

-- The bits that were taken of a code are those of a code for its symbol.
pub code-taken : {table : Table} {bits : List Bool} {c : ℕ × ℕ} {t : Text} → IsTable table
    → code_from table (alone bits) ≡ Ok (c, t) → IsCut (IsCoded table c.1) bits t
unfolding code_from
code-taken {table} {bits} {c} {t} is e = go (code_in (code_lengths table.counts) (next_16 bits)) refl e
  where
    go : (o : Option (ℕ × ℕ)) → code_in (code_lengths table.counts) (next_16 bits) ≡ o
        → code_by table (alone bits) o ≡ Ok (c, t) → IsCut (IsCoded table c.1) bits t
    go None h k = absurd (no-error Malformed (c, t) k)
    go (Some x) h k =
        let lens = code_lengths table.counts in
        let q = bits-there x.1 (x.1, slice_index table.symbols x.0) c bits t k in
        let index = code-index lens (next_16 bits) x h in
        let top = (rising-at 1 16 lens x.0 (all-rising table.counts is.counted) index.0).1 in
        let small : x.1 ≤ 16 = omega (arith, top, index.1) in
        let front : take x.1 (next_16 bits) ≡ take x.1 bits
        = take-take x.1 16 (bits ++ replicate 16 false) small ∙ take-append-le x.1 bits (replicate 16 false) q.0 in
        grind (arith, front-number, cut-front)

-- The same of a symbol.
pub symbol_taken : {table : Table} {bits : List Bool} {symbol : ℕ} {t : Text} → IsTable table
    → symbol_from table (alone bits) ≡ Ok (symbol, t) → IsCut (IsCoded table symbol) bits t
symbol_taken is e = grind (arith, map-parts, symbol-code, code-taken)
