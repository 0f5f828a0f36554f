-- What a writer emits for known numbers, tested as it is made: each function gives the bits or the bytes with the proof
-- that they may be written, or nothing where a test fails. On literals all of them compute.
use Rattle.std.proofs.Common.{◌≡◌, ◌≢◌, ℕ, zero, suc, ◌+◌, ◌-◌, ◌*◌, ◌^◌, ◌<◌, ◌≤◌, ◌==◌, ◌&&◌, not, nat_lt, Bool}
use Rattle.std.proofs.Common.{true, false, List, [], ◌∷◌, ◌++◌, length, Option, Some, None, ℤ, pos, ◌-ℤ◌}
use Rattle.std.proofs.Common.{unsigned_abs, refl, sym, ap, ap₂, append_assoc, subst, arith, rules}
use Rattle.std.proofs.lemmas.Bool.{and_parts, eqb-false, eqb-true, false≢true, leb-true, ltb-true, not-true, cases_lt}
use Rattle.std.specs.List.{AllByRecursion, find, list_all, position, range_with_len}
use Rattle.std.specs.Option.{IsSome}
use Rattle.std.specs.Prelude.{◌/◌, drop, get_or, nat_le, set, slice_index}
use Rattle.jpeg_bits.specs.Codes.{Table, code_lengths}
use Rattle.jpeg_bits.specs.Passes.{Block, Pass, Via, band_of}
use Rattle.jpeg_bits.specs.Refinement.{is_zero}
use Rattle.jpeg_bits.specs.Written.{IsCategory, IsCoded, WritesInterval, WritesIntervals, bits_of_bytes, stuffed}
use Rattle.jpeg_bits.specs.Written.WritesIntervals.{another, last}
use Rattle.jpeg_meaning.specs.WrittenData.{NoneNew, WritesAc, WritesBand, WritesBlocks, WritesDc, WritesRefinement}
use Rattle.jpeg_meaning.specs.WrittenData.{WritesDifference, bits_for, count_unknown, no_numbers}
use Rattle.jpeg_meaning.specs.WrittenData.WritesAc.{again, again_run, first, first_run, no_band}
use Rattle.jpeg_meaning.specs.WrittenData.WritesBand.{ended, full, sixteen, value}
use Rattle.jpeg_meaning.specs.WrittenData.WritesBlocks.{block, done}
use Rattle.jpeg_meaning.specs.WrittenData.WritesDc.{one_bit, other_band, whole}
use Rattle.jpeg_meaning.specs.WrittenData.WritesRefinement.{found, none_left, passed, refined}
use Rattle.std.proofs.Math.Nat.{pow-le-pow_right}

-- ---- tests

infixl 10 ◌>>=◌
abbrev pub ◌>>=◌ : {A B : Type 0} → Option A → (A → Option B) → Option B
None >>= f = None
(Some x) >>= f = f x

abbrev pub when : (b : Bool) → Option (b ≡ true)
when true = Some refl
when false = None

-- what a test has given
abbrev pub given : {A : Type 0} → (o : Option A) → IsSome o → A
given None is = absurd (false≢true is)
given (Some x) is = x

abbrev pub equal_for : (a b : ℕ) → Option (a ≡ b)
equal_for a b = do
  is ← when (a == b)
  Some (eqb-true a b is)

abbrev pub most_for : (a b : ℕ) → Option (a ≤ b)
most_for a b = do
  is ← when (nat_le a b)
  Some (leb-true a b is)

pub all-by : {A : Type 0} (test : A → Bool) (P : A → Type 0) → ((x : A) → test x ≡ true → P x)
    → (xs : List A) → list_all test xs ≡ true → AllByRecursion P xs
all-by test P h [] e = tt
all-by test P h (x ∷ xs) e =
    let both = and_parts (test x) (list_all test xs) e in (h x both.0, all-by test P h xs both.1)

abbrev pub all_for : {A : Type 0} {P : A → Type 0} (test : A → Bool) → ((x : A) → test x ≡ true → P x) → (xs : List A)
    → Option (AllByRecursion P xs)
all_for {A} {P} test tells xs = do
  is ← when (list_all test xs)
  Some (all-by test P tells xs is)

abbrev pub same_for : {A : Type 0} → ((x y : A) → Option (x ≡ y)) → (xs ys : List A) → Option (xs ≡ ys)
same_for same [] [] = Some refl
same_for same (x ∷ xs) (y ∷ ys) = do
  one ← same x y
  more ← same_for same xs ys
  Some (ap₂ (λ z zs. z ∷ zs) one more)
same_for same xs ys = None

-- something that was made and of which this holds; and with a state after it
abbrev pub Made : {B : Type 0} → (B → Type 0) → Type 0
Made {B} P = (b : B) × P b

abbrev pub Next : {B S : Type 0} → (B → S → Type 0) → Type 0
Next {B} {S} P = (b : B) × (s : S) × P b s

-- ---- codes and values

abbrev pub is_category : ℤ → ℕ → Bool
is_category d zero = unsigned_abs d == 0
is_category d (suc s) = nat_le (2 ^ s) (unsigned_abs d) && nat_lt (unsigned_abs d) (2 ^ suc s)

pub category-by : (d : ℤ) (s : ℕ) → is_category d s ≡ true → IsCategory d s
category-by d zero e = search (rules, eqb-true, unsigned_abs)
category-by d (suc s) e = search (rules, and_parts, unsigned_abs, ltb-true, leb-true, cases_lt, pow-le-pow_right)

abbrev pub code_for : (table : Table) (symbol : ℕ) → Option (Made (IsCoded table symbol))
code_for table symbol = do
  i ← position (λ s. s == symbol) table.symbols
  listed ← most_for (i + 1) (length (code_lengths table.counts))
  is ← equal_for (slice_index table.symbols i) symbol
  Some (_, record { index = i; listed = omega arith; is_for = is; has_bits = refl })

-- the category of a value, and a code for the symbol that has it
abbrev pub category_for : (table : Table) (symbol_for : ℕ → ℕ) (u : ℤ)
    → Option ((s : ℕ) × (code : List Bool) × IsCategory u s × IsCoded table (symbol_for s) code)
category_for table symbol_for u = do
  s ← find (is_category u) (range_with_len 0 17)
  is ← when (is_category u s)
  code ← code_for table (symbol_for s)
  Some (s, code.0, category-by u s is, code.1)

abbrev dc_by : (p : Pass) (here kind : Bool) → (p.ss == 0) ≡ here → p.is_first ≡ kind → (table : Table)
    (u predictor : ℤ) → Option (Next (WritesDc p table u predictor))
dc_by p false kind other is table u predictor = Some (_, _, other_band u predictor (eqb-false _ _ other))
dc_by p true false same is table u predictor = Some (_, _, one_bit u predictor (eqb-true _ _ same) is)
dc_by p true true same is table u predictor = do
  c ← category_for table (λ s. s) (u -ℤ predictor)
  let d : WritesDifference table (u -ℤ predictor) (c.1 ++ bits_for (u -ℤ predictor) c.0) =
      record { s = c.0; code = c.1; category = c.2; coded = c.3; has_bits = refl }
  Some (_, _, whole u predictor _ (eqb-true _ _ same) is d)

-- ---- bands

-- the end of a band, for a run of this many more blocks
abbrev end_for : (table : Table) (run : ℕ)
    → Option ((r : ℕ) × (e : ℕ) × (code : List Bool) × (r ≤ 14) × (e < 2 ^ r) × IsCoded table (16 * r + 0) code)
end_for table run = do
  r ← find (λ r. nat_lt (run + 1) (2 ^ suc r)) (range_with_len 0 15)
  small ← most_for r 14
  below ← when (nat_lt (run + 1 - 2 ^ r) (2 ^ r))
  code ← code_for table (16 * r + 0)
  Some (r, run + 1 - 2 ^ r, code.0, small, ltb-true _ _ below, code.1)

-- What ends the band of the numbers in front and others, and the code that stands for those in front and one more, with
-- what may follow it, where there is one.
abbrev Ends : (List ℤ → List Bool → ℕ → Type 0) → Type 0
Ends Writes = (front : List ℤ) (u : ℤ) (us : List ℤ) → Option (Next (Writes (front ++ u ∷ us)))

abbrev Codes : (List ℤ → List Bool → ℕ → Type 0) → Type 0
Codes Writes =
    (front : List ℤ) (u : ℤ) (us : List ℤ) →
    Option ((bits : List Bool) (run : ℕ) → Writes us bits run → Made (λ all. Writes (front ++ u ∷ us) all run))

-- The band that the numbers in front and others make, in a first scan or a refinement.
abbrev band_for : (Writes : List ℤ → List Bool → ℕ → Type 0) → Writes [] [] 0 → Ends Writes → Codes Writes
    → (front us : List ℤ) → Option (Next (Writes (front ++ us)))
band_for Writes none end code [] [] = Some (_, _, none)
band_for Writes none end code (f ∷ front) [] = None
band_for Writes none end code front (u ∷ us) = elim (end front u us) [
  | Some e ↦ Some e
  | None ↦ elim (code front u us) [
    | Some before ↦ do
      more ← band_for Writes none end code [] us
      let w = before more.0 more.1 more.2
      Some (w.0, more.1, w.1)
    | None ↦ do
      more ← band_for Writes none end code (front ++ u ∷ []) us
      Some (_, _, subst (λ us. Writes us more.0 more.1) (append_assoc front (u ∷ []) us) more.2)
  ]
]

pub zeros-are : (us : List ℤ) → list_all is_zero us ≡ true → no_numbers (length us) ≡ us
zeros-are [] e = refl
zeros-are (pos zero ∷ us) e = ap (λ (zs : List ℤ). pos 0 ∷ zs) (zeros-are us e)
zeros-are (u ∷ us) e = absurd (false≢true e)

pub no-zero : (u : ℤ) → not (is_zero u) ≡ true → u ≢ pos 0
no-zero u e z = false≢true (rw z at e)

pub zeros-in : (W : List ℤ → List Bool → ℕ → Type 0) (us : List ℤ) → list_all is_zero us ≡ true → {bits : List Bool}
    {run : ℕ} → W (no_numbers (length us)) bits run → W us bits run
zeros-in W us zeros w = rw (zeros-are us zeros) at w

pub sixteen-zeros : (table : Table) (front us : List ℤ) (bits : List Bool) (run : ℕ)
    (code : Made (IsCoded table (16 * 15 + 0))) → list_all is_zero front ≡ true → length front ≡ 15
    → WritesBand table us bits run → WritesBand table (front ++ pos 0 ∷ us) (code.0 ++ bits) run
sixteen-zeros table front us bits run code zeros many w =
    rw (sym (zeros-are front zeros), many) (sixteen code.0 us bits run code.1 w)

abbrev first_end : (table : Table) (run : ℕ) → Ends (WritesBand table)
first_end table run (f ∷ front) u us = None
first_end table run [] u us = do
  zeros ← when (list_all is_zero (u ∷ us))
  x ← end_for table run
  Some (_, _, zeros-in (WritesBand table) (u ∷ us) zeros (ended (length us) x.0 x.1 x.2 x.3 x.4 x.5))

abbrev first_code : (table : Table) → Codes (WritesBand table)
first_code table front (pos zero) us = do
  zeros ← when (list_all is_zero front)
  many ← equal_for (length front) 15
  code ← code_for table (16 * 15 + 0)
  Some (λ bits run w. (_, sixteen-zeros table front us bits run code zeros many w))
first_code table front u us = do
  zeros ← when (list_all is_zero front)
  some ← when (not (is_zero u))
  few ← most_for (length front) 15
  c ← category_for table (λ s. 16 * length front + s) u
  Some (λ bits run w. (
    _,
    zeros-in (λ zs. WritesBand table (zs ++ u ∷ us)) front zeros
        (value (length front) c.0 u c.1 us bits run few (no-zero u some) c.2 c.3 w),
  ))

-- ---- bands in refinements

abbrev is_quiet : ℤ → Bool
is_quiet u = not (unsigned_abs u == 1)

pub none-new : (us : List ℤ) → list_all is_quiet us ≡ true → NoneNew us
unfolding NoneNew
none-new us e = all-by is_quiet _ (λ u h. eqb-false _ _ (not-true _ h)) us e

abbrev none_for : (us : List ℤ) → Option (NoneNew us)
none_for us = do
  none ← when (list_all is_quiet us)
  Some (none-new us none)

abbrev refined_end : (table : Table) (run : ℕ) → Ends (WritesRefinement table)
refined_end table run (f ∷ front) u us = None
refined_end table run [] u us = do
  none ← none_for (u ∷ us)
  x ← end_for table run
  Some (_, _, none_left x.0 x.1 u us x.2 x.3 x.4 none x.5)

abbrev refined_code : (table : Table) → Codes (WritesRefinement table)
refined_code table front (pos zero) us = do
  none ← none_for front
  many ← equal_for (count_unknown front) 15
  code ← code_for table (16 * 15 + 0)
  Some (λ bits run w. (_, passed front code.0 us bits run none many code.1 w))
refined_code table front u us = do
  none ← none_for front
  new ← equal_for (unsigned_abs u) 1
  few ← most_for (count_unknown front) 15
  code ← code_for table (16 * count_unknown front + 1)
  Some (λ bits run w. (_, found (count_unknown front) front u code.0 us bits run few none refl new code.1 w))

-- ---- blocks

-- A band that a run of blocks reaches, and where it ends early, how many blocks more the next run has.
abbrev ac_by : (p : Pass) (kind : Bool) → p.is_first ≡ kind → (table : Table) (us : List ℤ) (run more : ℕ)
    → Option (Next (WritesAc p table us run))
ac_by p kind is table [] run more = Some (_, _, no_band run)
ac_by p true is table (u ∷ us) zero more = do
  b ← band_for (WritesBand table) full (first_end table more) (first_code table) [] (u ∷ us)
  Some (_, _, first u us b.0 b.1 is b.2)
ac_by p true is table (u ∷ us) (suc run) more = do
  zeros ← when (list_all is_zero (u ∷ us))
  Some (_, _, zeros-in (λ us. WritesAc p table us (suc run)) (u ∷ us) zeros (first_run (length us) run is))
ac_by p false is table (u ∷ us) zero more = do
  b ← band_for (WritesRefinement table) refined (refined_end table more) (refined_code table) [] (u ∷ us)
  Some (_, _, again u us b.0 b.1 is b.2)
ac_by p false is table (u ∷ us) (suc run) more = do
  none ← none_for (u ∷ us)
  Some (_, _, again_run u us run is none)

-- whether a run may pass a number
abbrev is_passed : Bool → ℤ → Bool
is_passed true u = is_zero u
is_passed false u = is_quiet u

-- How many of these blocks a run passes. Those of a sequential scan are in no run.
abbrev run_over : Pass → List (Via × Block) → ℕ
run_over p [] = 0
run_over p (t ∷ turns) = elim (nat_lt 0 p.ss && list_all (is_passed p.is_first) (band_of p t.1.acs)) [
  | true ↦ suc (run_over p turns)
  | false ↦ 0
]

abbrev pub blocks_for : (p : Pass) (predictors : List ℤ) (run : ℕ) (turns : List (Via × Block))
    → Option (Made (WritesBlocks p predictors run turns))
blocks_for p predictors zero [] = Some (_, done predictors)
blocks_for p predictors (suc run) [] = None
blocks_for p predictors run (t ∷ turns) = do
  d ← dc_by p (p.ss == 0) p.is_first refl refl t.0.dc t.1.dc (get_or predictors t.0.component (pos 0))
  a ← ac_by p p.is_first refl t.0.ac (band_of p t.1.acs) run (run_over p turns)
  more ← blocks_for p (set predictors t.0.component d.1) a.1 turns
  Some (_, block predictors run a.1 t.0 t.1 turns d.0 a.0 more.0 d.1 d.2 a.2 more.1)

-- ---- intervals

abbrev same_bit : (x y : Bool) → Option (x ≡ y)
same_bit true true = Some refl
same_bit false false = Some refl
same_bit x y = None

-- an interval of these bytes, before 00 follows each FF
abbrev interval_for : (writes : List Bool → Type 0) → Option (Made writes) → (data_bytes : List ℕ)
    → Option (WritesInterval writes (stuffed data_bytes))
interval_for writes o data_bytes = do
  w ← o
  let filling = drop (length w.0) (bits_of_bytes data_bytes)
  filled ← same_for same_bit (bits_of_bytes data_bytes) (w.0 ++ filling)
  short ← most_for (length filling) 7
  Some (record {
    bits = w.0;
    filling = filling;
    data_bytes = data_bytes;
    coded = w.1;
    is_short = short;
    whole = filled;
    has_bytes = refl;
  })

abbrev pub intervals_for : {A : Type 0} (writes : A → List Bool → Type 0) → ((x : A) → Option (Made (writes x)))
    → (k : ℕ) (one : A) (more : List A) (intervals : List (List ℕ)) → Option (Made (WritesIntervals writes k one more))
intervals_for writes write k one more [] = None
intervals_for writes write k one [] (bytes ∷ others) = do
  i ← interval_for (writes one) (write one) bytes
  Some (_, last k one (stuffed bytes) i)
intervals_for writes write k one (following ∷ more) (bytes ∷ others) = do
  i ← interval_for (writes one) (write one) bytes
  w ← intervals_for writes write (suc k) following more others
  Some (_, another k 0 one following more (stuffed bytes) w.0 i w.1)

-- The data that bytes begin with, cut at each RSTm and without the 00 after each FF; and the bytes from the next marker
-- on. These bytes stand in front, and perhaps an FF.
abbrev pub intervals_in : (front : List ℕ) (marked : Bool) → List ℕ → List (List ℕ) × List ℕ
intervals_in front marked [] = (front ∷ [], [])
intervals_in front false (b ∷ bytes) = elim (b == 0xFF) [
  | true ↦ intervals_in front true bytes
  | false ↦ intervals_in (front ++ b ∷ []) false bytes
]
intervals_in front true (b ∷ bytes) = elim (b == 0) [
  | true ↦ intervals_in (front ++ 0xFF ∷ []) false bytes
  | false ↦ elim (b / 8 == 26) [
    | true ↦ let r = intervals_in [] false bytes in (front ∷ r.0, r.1)
    | false ↦ (front ∷ [], 0xFF ∷ b ∷ bytes)
  ]
]
