-- The default tables have codes, and how destinations are filled.
use Rattle.std.proofs.lemmas.Result.{err_from_is_err_and}
use Rattle.std.proofs.Common.{rules, ◌≡◌, ◌≤◌, Bool, ℕ, List, [], ◌∷◌, length, get_or, set, true, Option, inl, inr}
use Rattle.std.proofs.Common.{refl, arith}
use Rattle.jpeg_bits.specs.Codes.{Table, HasCodes, RefusesCodes, code_lengths, code_value, codes_exist, lengths_from}
use Rattle.jpeg_bits.specs.DefaultTables.{AreBetween, AreCodes, filled, names, with_defaults, luminance_ac}
use Rattle.jpeg_bits.specs.DefaultTables.{luminance_dc, chrominance_ac, chrominance_dc}
use Rattle.jpeg_bits.specs.declared.error.Error.{Error}
use Rattle.jpeg_bits.specs.declared.error.Error.TheVariants as errors
use Rattle.jpeg_bits.proofs.Tables.{tested-exist}

-- where the codes exist, a table is refused for lack of memory alone
pub only_memory : (e : Error) (lengths : List ℕ) → RefusesCodes e lengths → HasCodes lengths → e ≡ errors.OutOfMemory
only_memory e lengths refused exist = grind arith

exists : (counts : List ℕ) → codes_exist (code_lengths counts) ≡ true → HasCodes (code_lengths counts)
exists counts e = tested-exist (code_lengths counts) e

pub luminance-dc-codes : AreCodes luminance_dc.counts luminance_dc.symbols
unfolding codes_exist code_value lengths_from
luminance-dc-codes = search (rules, exists)

pub chrominance-dc-codes : AreCodes chrominance_dc.counts chrominance_dc.symbols
unfolding codes_exist code_value lengths_from
chrominance-dc-codes = search (rules, exists)

pub luminance-ac-codes : AreCodes luminance_ac.counts luminance_ac.symbols
unfolding codes_exist code_value lengths_from
luminance-ac-codes = search (rules, exists)

pub chrominance-ac-codes : AreCodes chrominance_ac.counts chrominance_ac.symbols
unfolding codes_exist code_value lengths_from
chrominance-ac-codes = search (rules, exists)

-- ---- destinations

all-same : (ts : List (Option Table)) → AreBetween ts ts ts
unfolding AreBetween
all-same [] = tt
all-same (t ∷ ts) = (inl refl, all-same ts)

pub both_filled : (l r : Table) (destinations : List ℕ) (ts : List (Option Table)) (n m : Bool) (d
    e a b : Option Table)
    → 2 ≤ length ts
    → n ≡ names destinations 0 → m ≡ names destinations 1 → a ≡ filled l n (get_or ts 0 d)
    → b ≡ filled r m (get_or (set ts 0 a) 1 e)
    → set (set ts 0 a) 1 b ≡ with_defaults l r destinations ts
both_filled l r destinations ts n m d e a b two is_n is_m first second = grind arith

as-it-was : (whole : List (Option Table)) (ts : List (Option Table)) → length whole ≡ length ts → AreBetween ts whole ts
unfolding AreBetween
as-it-was [] [] same = tt
as-it-was (w ∷ whole) (t ∷ ts) same = (inl refl, as-it-was whole ts (omega arith))
as-it-was whole ts same = absurd (omega arith)

pub first_refused : (l r : Table) (destinations : List ℕ) (ts : List (Option Table)) (d a : Option
    Table) → 2 ≤ length ts
    → a ≡ get_or ts 0 d → AreBetween ts (with_defaults l r destinations ts) (set ts 0 a)
unfolding AreBetween
first_refused l r destinations ts d a two first = grind (arith, all-same)

pub second_refused : (l r : Table) (destinations : List ℕ) (ts : List (Option Table)) (n m : Bool)
    (d e a b : Option Table)
    → 2 ≤ length ts
    → n ≡ names destinations 0 → m ≡ names destinations 1 → a ≡ filled l n (get_or ts 0 d) → b ≡
    get_or (set ts 0 a) 1 e
    → AreBetween ts (with_defaults l r destinations ts) (set (set ts 0 a) 1 b)
unfolding AreBetween
second_refused l r destinations ts n m d e a b two is_n is_m first second = grind (arith, all-same)

same-length : (l r : Table) (destinations : List ℕ) (ts : List (Option Table)) → length
    (with_defaults l r destinations ts)
    ≡ length ts
same-length l r destinations ts = grind arith

-- tables that nothing was done to
pub untouched : (l r : Table) (destinations : List ℕ) (ts : List (Option Table))
    → AreBetween ts (with_defaults l r destinations ts) ts
untouched l r destinations ts = grind (arith, as-it-was, same-length)

-- tables that were filled
pub all-done : (whole : List (Option Table)) (ts : List (Option Table)) → length whole ≡ length ts
    → AreBetween ts whole whole
unfolding AreBetween
all-done [] [] same = tt
all-done (w ∷ whole) (t ∷ ts) same = (inr refl, all-done whole ts (omega arith))
all-done whole ts same = absurd (omega arith)

pub done : (l r : Table) (destinations : List ℕ) (ts : List (Option Table))
    → AreBetween ts (with_defaults l r destinations ts) (with_defaults l r destinations ts)
done l r destinations ts = all-done (with_defaults l r destinations ts) ts (same-length l r destinations ts)

pub ruleset refusals = (err_from_is_err_and, only_memory, both_filled, first_refused, second_refused)
