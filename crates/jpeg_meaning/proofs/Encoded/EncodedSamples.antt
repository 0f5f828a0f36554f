-- Differences of samples are written by one table, and segments are bytes.
use Rattle.std.proofs.Common.{[], ap, arith, Bool, inl, inr, length, length-append, List, map, negsuc, pos, refl}
use Rattle.std.proofs.Common.{replicate, rules, suc, sym, unsigned_abs, ℕ, ℤ, ◌*◌, ◌++◌, ◌-◌, ◌<◌, ◌^◌, ◌∷◌, ◌≡◌}
use Rattle.std.proofs.Common.{◌≤ℤ◌, ◌⊎◌}
use Rattle.std.proofs.Math.Logic.{⊎_elim}
use Rattle.std.proofs.lemmas.Bool.{cases_lt, eqb-true}
use Rattle.std.proofs.lemmas.Int.{ints}
use Rattle.std.proofs.lemmas.List.{map-id}
use Rattle.std.proofs.lemmas.List.FromFn.{get_or-range_with_len}
use Rattle.std.proofs.lemmas.Simd.{map-map}
use Rattle.std.specs.List.{AllByRecursion, range_with_len}
use Rattle.std.specs.Prelude.{flat_map}
use Rattle.jpeg_bits.proofs.ReadIntervals.{all-append}
use Rattle.jpeg_bits.specs.Codes.{lengths_from, Table}
use Rattle.jpeg_bits.specs.Written.{code_bits, IsCoded, WritesEach}
use Rattle.jpeg_bits.specs.Written.WritesEach.{none, one}
use Rattle.jpeg_bits.specs.declared.scan.Predictor.{Predictor}
use Rattle.jpeg_segments.specs.Frame.{Factors}
use Rattle.jpeg_segments.specs.WrittenSegments.{AreComponents, factors_bytes}
use Rattle.jpeg_lossless.proofs.Residues.{residue_low, residue_neg, residue_small}
use Rattle.jpeg_lossless.specs.Prediction.{residue}
use Rattle.jpeg_lossless.specs.SampleDifferences.{differences_below, differences_of, first_differences}
use Rattle.jpeg_lossless.specs.SampleDifferences.{rest_differences}
use Rattle.jpeg_lossless.specs.Written.{WritesRows, WritesSampleDifference}
use Rattle.jpeg_meaning.specs.FrameSamples.{AreBytes}
use Rattle.jpeg_meaning.proofs.Encoded.EncodedParts.{category-at_most}
use Rattle.jpeg_bits.specs.declared.huffman.codes.HuffmanTableClass.TheVariants as classes

-- ---- the table

-- the categories 0 to 16, each with a code of 5 bits
abbrev pub even_counts : List ℕ
even_counts = replicate 4 0 ++ 17 ∷ replicate 11 0

abbrev pub even_table : Table
even_table = record { class = classes.DC; counts = even_counts; symbols = range_with_len 0 17 }

even-coded : (s : ℕ) → s < 17 → IsCoded even_table s (code_bits even_table s)
unfolding lengths_from
even-coded s h = grind (arith, get_or-range_with_len 0 17 s 0 h)

-- ---- differences

number-written : (d : ℤ) (r : ℕ) → residue d ≡ r → negsuc 32766 ≤ℤ d → d ≤ℤ pos 32768 → unsigned_abs d < 2 ^ 16
    → (bits : List Bool) × WritesSampleDifference even_table r bits
number-written d r e low high h =
    let c = category-at_most d 16 h in (
      _,
      record {
        d = d;
        s = c.0;
        code = _;
        is = e;
        low = low;
        high = high;
        category = c.2;
        coded = even-coded c.0 (omega arith);
        has_bits = refl;
      },
    )

difference-written : (r : ℕ) → r < 65536 → (bits : List Bool) × WritesSampleDifference even_table r
    bits
difference-written r h = ⊎_elim
    (λ less. number-written (pos r) r (sym (residue_small r h)) (omega (arith, ints)) (omega (arith, ints))
    (omega (arith, ints)))
    (λ more. number-written (negsuc (65535 - r)) r (omega (arith, residue_neg (65535 - r))) (omega (arith, ints))
    (omega (arith, ints)) (omega (arith, ints)))
    (cases_lt r 32769)

-- numbers modulo 2 ^ 16
abbrev pub AreResidues : List ℕ → Type 0
AreResidues rs = AllByRecursion (λ r. r < 65536) rs

-- each difference beside its table
abbrev pub pairs : List ℕ → List (Table × ℕ)
pairs rs = map (λ r. (even_table, r)) rs

row-written : (rs : List ℕ) → AreResidues rs
    → (bits : List Bool) × WritesEach (λ x. WritesSampleDifference x.0 x.1) (pairs rs) bits
row-written [] h = ([], none)
row-written (r ∷ rs) h =
    let d = difference-written r h.0 in
    let more = row-written rs h.1 in
    (_, one (even_table, r) (pairs rs) d.0 more.0 d.1 more.1)

-- lines of n differences
abbrev pub AreRows : ℕ → List (List ℕ) → Type 0
AreRows n rows = AllByRecursion (λ rs. (length rs ≡ n) × AreResidues rs) rows

pub rows-written : (n : ℕ) (rows : List (List ℕ)) → AreRows n rows → (bits : List Bool) × WritesRows (map pairs rows) bits
rows-written n [] h = ([], none)
rows-written n (rs ∷ rows) h =
    let first = row-written rs h.0.1 in
    let more = rows-written n rows h.1 in
    (_, one (pairs rs) (map pairs rows) first.0 more.0 first.1 more.1)

pub values-of : (rows : List (List ℕ)) → map (map (λ x. x.1)) (map pairs rows) ≡ rows
values-of [] = refl
values-of (rs ∷ rows) = search (rules, map-map, map-id, values-of rows)

-- ---- the differences of lines

first-row : (a : ℕ) (xs : List ℕ)
    → (length (first_differences a xs) ≡ length xs) × AreResidues (first_differences a xs)
unfolding first_differences
first-row a [] = (refl, tt)
first-row a (x ∷ xs) = search (rules, residue_low, first-row x xs)

rest-row : (selection : Predictor) (a c : ℕ) (above xs : List ℕ) → length above ≡ length xs
    → (length (rest_differences selection a c above xs) ≡ length xs)
    × AreResidues (rest_differences selection a c above xs)
unfolding rest_differences
rest-row selection a c (b ∷ above) (x ∷ xs) h =
    search (rules, residue_low, rest-row selection x b above xs (omega arith))
rest-row selection a c above xs h = search rules

-- the line above, or none
abbrev IsAbove : ℕ → List ℕ → Type 0
IsAbove n above = (above ≡ []) ⊎ (length above ≡ n)

below-row : (selection : Predictor) (start : ℕ) (above xs : List ℕ) → IsAbove (length xs) above
    → (length (differences_below selection start above xs) ≡ length xs)
    × AreResidues (differences_below selection start above xs)
unfolding differences_below
below-row selection start [] xs h = first-row start xs
below-row selection start above xs (inl e) = rw e (first-row start xs)
below-row selection start (b ∷ above) (x ∷ xs) (inr e) =
    let r = rest-row selection x b above xs (omega arith) in search (rules, residue_low)
below-row selection start above xs (inr e) = search rules

-- lines of n samples
abbrev pub AreWide : ℕ → List (List ℕ) → Type 0
AreWide n lines = AllByRecursion (λ l. length l ≡ n) lines

pub below-rows : (selection : Predictor) (start n : ℕ) (above : List ℕ) (lines : List (List ℕ)) → IsAbove n above
    → AreWide n lines → AreRows n (differences_of selection start above lines)
unfolding differences_of
below-rows selection start n above [] e h = tt
below-rows selection start n above (line ∷ lines) e h =
    let row = below-row selection start above line (rw h.0 e) in
    grind (arith, row, below-rows selection start n line lines (inr h.0) h.1)

pub rows-count : (selection : Predictor) (start : ℕ) (above : List ℕ) (lines : List (List ℕ))
    → length (differences_of selection start above lines) ≡ length lines
unfolding differences_of
rows-count selection start above [] = refl
rows-count selection start above (line ∷ lines) = ap suc (rows-count selection start line lines)

-- ---- bytes

pub factors-length : (cs : List Factors) → length (flat_map factors_bytes cs) ≡ 3 * length cs
factors-length [] = refl
factors-length (c ∷ cs) = search (rules, length-append, factors-length cs)

pub components-bytes : (front cs : List Factors) → AreComponents 3 front cs → AllByRecursion (λ c. c.identifier < 256) cs
    → AreBytes (flat_map factors_bytes cs)
unfolding AreComponents
components-bytes front [] are low = tt
components-bytes front (c ∷ cs) are low =
    search (rules, eqb-true, all-append, components-bytes (front ++ c ∷ []) cs are.1 low.1)
