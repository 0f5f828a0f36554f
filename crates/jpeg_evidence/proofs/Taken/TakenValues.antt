-- The bits that were taken of a value and of a DC difference are those that are written for it.
use Rattle.std.proofs.Common.{◌≡◌, ℕ, zero, suc, ◌-◌, ◌^◌, ◌<◌, Bool, List, [], refl, ap, ◌∙◌, arith, if◌then◌else◌}
use Rattle.std.proofs.Common.{pow_pos, pow-suc, Ok, leb, nat_le, ℤ, pos, negsuc, ◌+ℤ◌, ◌-ℤ◌, ◌*ℤ◌}
use Rattle.std.proofs.lemmas.Grind.{common_steps}
use Rattle.std.proofs.lemmas.Int.{ints}
use Rattle.std.proofs.lemmas.Bool.{cases_lt, ltb-true, ltb-false}
use Rattle.std.proofs.Math.Pow.{pow_mono}
use Rattle.jpeg_bits.specs.Reading.{Malformed}
use Rattle.jpeg_bits.specs.Entropy.{Text, bits_from, extended}
use Rattle.jpeg_bits.specs.Readers.{refused, signed_from}
use Rattle.jpeg_bits.specs.Codes.{Table, IsTable, symbol_from}
use Rattle.jpeg_bits.specs.Bands.{difference, first_dc, wrapped}
use Rattle.jpeg_bits.proofs.Fast.{no-number}
use Rattle.jpeg_bits.specs.Written.{low_bits, IsCoded, IsCategory, number_for}
use Rattle.jpeg_meaning.specs.WrittenData.{WritesDifference}
use Rattle.jpeg_evidence.specs.Strict.{alone, IsCut, IsNumber, IsValue, IsDc}
use Rattle.jpeg_evidence.proofs.Taken.TakenBits.{number_taken, symbol_taken, cut-map, gives-taken}
use Rattle.jpeg_evidence.proofs.Taken.TakenBits.{map-taken, bind-cut, if-read, no-error}

-- ---- signed numbers

low-extended : (v s : ℕ) → v < 2 ^ s → pos v -ℤ pos (2 ^ suc s - 1) ≡ negsuc (2 ^ suc s - 2 - v)
low-extended v s h = let p = pow-suc 2 s in omega (arith, ints, p, h)

abbrev IsBack : ℤ → ℕ → ℕ → Type 0
IsBack u s v = IsCategory u s × (number_for u s ≡ v)

extended-back : (v s : ℕ) → v < 2 ^ suc s → IsBack (extended v (suc s)) (suc s) v
unfolding extended number_for
extended-back v s top =
    grind (arith, ltb-true, pow-suc, low-extended, ltb-false, pow_pos, cases_lt, pow_mono)

-- The bits that were taken of a value are its bits, and their number is its category.
pub value_taken : {s : ℕ} {bits : List Bool} {u : ℤ} {t : Text} → signed_from (suc s) (alone bits) ≡ Ok (u, t)
    → IsCut (IsValue (suc s) u) bits t
unfolding signed_from
value_taken {s} e =
    map-taken (bits_from (suc s)) (λ (v : ℕ). extended v (suc s)) (IsNumber (suc s)) (IsValue (suc s))
    (λ v. number_taken) (λ v own is.
    let back = extended-back v s is.below in
    record { category = back.0; are = ap (low_bits (suc s)) back.1 ∙ is.are }) e

-- ---- differences

none-of-zero : IsValue 0 (pos 0) []
unfolding low_bits
none-of-zero = record { category = record { holds = omega arith; is_least = λ t h. omega arith }; are = refl }

category-taken : (s : ℕ) (bits : List Bool) (u : ℤ) (t : Text) → signed_from s (alone bits) ≡ Ok (u, t)
    → IsCut (IsValue s u) bits t
category-taken zero bits u t e = grind (arith, common_steps, gives-taken, none-of-zero, no-number)
category-taken (suc s) bits u t e = value_taken e

-- The bits that were taken of a DC difference are those that a writer emits for it.
pub difference_taken : {table : Table} {bits : List Bool} {u : ℤ} {t : Text} → IsTable table
    → difference table (alone bits) ≡ Ok (u, t) → IsCut (WritesDifference table u) bits t
unfolding difference
difference_taken {table} {u = u} {t = t} is e =
    bind-cut (symbol_from table) (λ (s : ℕ). if nat_le s 11 then signed_from s else refused) (IsCoded table)
    (λ s left. symbol_taken is)
    (λ s more h k. cut-map {P = IsValue s u} (grind arith)
    (if-read (leb s 11) _ _ k (λ h. category-taken s more u t) (λ h k. absurd (no-error Malformed (u, t) k)))) e

-- The same of a DC coefficient in its first scan, by its difference.
pub dc_taken : (table : Table) (al : ℕ) (predictor : ℤ) (bits : List Bool) (y : ℤ × ℤ) (t : Text) → IsTable table
    → first_dc table al predictor (alone bits) ≡ Ok (y, t) → IsCut (IsDc table al predictor y) bits t
unfolding first_dc
dc_taken table al predictor bits y t is e =
    map-taken (difference table) (λ (d : ℤ). (wrapped (wrapped (predictor +ℤ d) *ℤ pos (2 ^ al)), wrapped (predictor +ℤ d)))
    (WritesDifference table) (IsDc table al predictor) (λ d. difference_taken is) (grind arith) e

pub ruleset values = (symbol_taken, difference_taken)
