-- Which lanes are 0, and blocks whose coefficients outside the top left 4x4 corner are 0.
use Rattle.std.proofs.Common.{◌≡◌, ℕ, ◌+◌, ◌*◌, ◌<◌, ◌≤◌, suc, List, length, get_or, ℤ, pos, ◌*ℤ◌, sym, ap, ◌∙◌, map}
use Rattle.std.proofs.Common.{FitsSigned, of_z, arith, true, ◌==◌, unsigned_abs, eqb, cond, replicate, ◌%◌, ◌-◌, ◌++◌}
use Rattle.std.proofs.Common.{◌∷◌, [], nat_eq, lit≤, lit<, rules, negsuc, refl, to_z, Bool, false, ◌&&◌}
use Rattle.std.proofs.lemmas.Int.{ints, int_wrap_fits, to_z-of_z}
use Rattle.std.proofs.lemmas.Simd.{bitmask_splat, bit_mask_l, map-map, get_or-chunk, length-chunk, zip2_of_maps}
use Rattle.std.proofs.lemmas.Bool.{and_parts, eqb-true}
use Rattle.std.proofs.lemmas.List.FromFn.{fill_by_all, length-map-range_with_len, get_or-map-range_with_len}
use Rattle.std.specs.Int.{w16, w32, int_wrap}
use Rattle.std.specs.Int.Bits.{bit_or}
use lib.Lanes.{zip2, mask_l, top, pick_l, chunk, sel_l}
use Rattle.jpeg_pixels.specs.declared.arch.Rows.{Rows}
use Rattle.jpeg_pixels.specs.LaneRows.{HasNumbers, HasZeros, IsInCorner}
use Rattle.jpeg_pixels.specs.Samples.{dequantized, column_value, is_flat_column}
use Rattle.jpeg_pixels.proofs.Sums.{flat_value, eight_cases}
use Rattle.jpeg_pixels.proofs.Fours.{all_flat}
use Rattle.jpeg_pixels.proofs.LaneSums.{lanes_same, loaded}
use Rattle.jpeg_pixels.proofs.ZeroCases.{none_of}
use Rattle.std.proofs.lemmas.Grind.{common_steps}
use Rattle.std.proofs.lemmas.Bool.Decides.{eqb_tells, leb_tells, nat_tests}
use Rattle.std.proofs.Math.Logic.{⊎_elim}
use Rattle.std.specs.List.{range_with_len}
use Rattle.std.proofs.Math.Bool.{and_assoc, and-true}
use Rattle.std.proofs.lemmas.Nat.{le_or_l}
use borrow.Rule.Slice.PartMut.{mid_of}
use Rattle.jpeg_pixels.specs.Lanes.{lane_is_zero}

pub sel_of_maps : {A : Type 0} (m : ℕ → Bool) (f g : ℕ → A) (indices : List ℕ)
    → sel_l (map m indices) (map f indices) (map g indices) ≡ map (λ j. cond (m j) (f j) (g j))
    indices
sel_of_maps m f g [] = refl
sel_of_maps m f g (x ∷ xs) = ap (λ l. cond (m x) (f x) (g x) ∷ l) (sel_of_maps m f g xs)

apart : (a : ℕ) → 0 < a → eqb a 0 ≡ false
apart a h = ⊎_elim (λ t. absurd (omega (arith, t.1))) (λ t. t.0) (eqb_tells a 0)

-- a number's bits are 0 where it is 0
pub bits_zero : (z : ℤ) → FitsSigned w32 z → eqb (of_z w32 z) 0 ≡ (unsigned_abs z == 0)
bits_zero (pos n) f = refl
bits_zero (negsuc n) f = apart (4294967296 - suc n) (omega (arith, f.sfits)) ∙ sym (apart (suc n) (omega arith))

-- ---- which lanes are 0

pub or_zero : (a b : ℕ) → eqb (bit_or a b) 0 ≡ (eqb a 0 && eqb b 0)
or_zero a b = grind (arith, nat_tests, apart, le_or_l)

-- the bits of an `i16`, and an `i16` from its bits
pub half_zero : (z : ℤ) → FitsSigned w16 z → eqb (of_z w16 z) 0 ≡ (unsigned_abs z == 0)
half_zero (pos n) f = refl
half_zero (negsuc n) f = apart (65536 - suc n) (omega (arith, f.sfits)) ∙ sym (apart (suc n) (omega arith))

half_fits : (n : ℕ) → FitsSigned w32 (to_z w16 n)
half_fits n = omega (arith, ints)

read_zero : (n : ℕ) → (unsigned_abs (to_z w32 (of_z w32 (to_z w16 n))) == 0) ≡ eqb n 0
read_zero n = search (rules, half_fits, leb_tells, to_z, to_z-of_z, unsigned_abs)

-- bits in each of the eight lanes
pub record IsBits (v : List ℕ) (f : ℕ → ℕ) : Type 0 where
  pub is : v ≡ map f (range_with_len 0 8)

pub bits_or : {v w : List ℕ} {f g : ℕ → ℕ} → IsBits v f → IsBits w g
    → IsBits (zip2 bit_or v w) (λ j. bit_or (f j) (g j))
bits_or {v} {w} {f} {g} a b = record { is = zip2_of_maps bit_or f g (range_with_len 0 8) a.is b.is }

-- the bits of a coefficient, from this index on
abbrev pub bits_at : List ℤ → ℕ → ℕ → ℕ
bits_at coefficients at j = of_z w16 (get_or coefficients (at + j) (pos 0))

pub bits_of_halves : (coefficients : List ℤ) (at : ℕ) → length coefficients ≡ 64 → at + 8 ≤ 64
    → IsBits (map (of_z w16) (chunk 0 8 (mid_of at (64 - at) coefficients)))
    (bits_at coefficients at)
bits_of_halves coefficients at e h = record {
  is = ap (map (of_z w16)) (loaded 8 coefficients at (pos 0) e h)
      ∙ map-map (of_z w16) (λ j. get_or coefficients (at + j) (pos 0)) (range_with_len 0 8);
}

-- the bits of the seven rows below the first
abbrev pub bits_below : List ℤ → ℕ → ℕ
bits_below coefficients j =
    bit_or (bit_or (bit_or (bit_or (bit_or (bit_or
    (bits_at coefficients 8 j) (bits_at coefficients 16 j)) (bits_at coefficients 24 j))
    (bits_at coefficients 32 j)) (bits_at coefficients 40 j)) (bits_at coefficients 48 j))
    (bits_at coefficients 56 j)

-- the lanes of those rows, one of which is not 0
pub below_is : (coefficients : List ℤ) → length coefficients ≡ 64
    → ((j : ℕ) → FitsSigned w16 (get_or coefficients j (pos 0))) → (v : List ℕ)
    → IsBits v (bits_below coefficients)
    → (j : ℕ) → j < 8 → lane_is_zero (map (to_z w32) (map (λ a. of_z w32 (to_z w16 a)) v)) j ≡ is_flat_column
    coefficients j
unfolding is_flat_column
below_is coefficients long fits v rows j h =
    let n = bits_below coefficients in
    let all = ap (λ (l : List ℕ). map (to_z w32) (map (λ a. of_z w32 (to_z w16 a)) l)) rows.is
    ∙ ap (map (to_z w32)) (map-map (λ a. of_z w32 (to_z w16 a)) n (range_with_len 0 8))
    ∙ map-map (to_z w32) (λ i. of_z w32 (to_z w16 (n i))) (range_with_len 0 8) in
    let bits : ℕ → ℕ = λ k. bits_at coefficients k j in
    let z : (k : ℕ) → eqb (bits k) 0 ≡ (unsigned_abs (get_or coefficients (k + j) (pos 0)) == 0) =
    search (rules, half_zero) in
    ap (λ (l : List ℤ). lane_is_zero l j) all
    ∙ ap (λ y. unsigned_abs y == 0) (get_or-map-range_with_len (λ i. to_z w32 (of_z w32 (to_z w16 (n i)))) 0 8 j j
    (pos 0) h (omega arith))
    ∙ read_zero (n j)
    ∙ simp (or_zero, z 8, z 16, z 24, z 32, z 40, z 48, z 56, and_assoc, and-true)

-- rows whose last four have only zeros
pub zero_rows : (rows : Rows) (f : ℕ → ℕ → ℤ) → HasNumbers rows f
    → ((k j : ℕ) → 4 ≤ k → k < 8 → j < 8 → f k j ≡ pos 0) → HasZeros rows
zero_rows rows f e none = grind (arith, common_steps, lanes_same, none)

nothing_times : (z : ℤ) (n : ℕ) → z ≡ pos 0 → z *ℤ pos n ≡ pos 0
nothing_times z n e = ap (λ y. y *ℤ pos n) e ∙ omega (arith, ints)

-- below the corner each product is 0
pub no_product_below : (coefficients : List ℤ) (quantization : List ℕ) → IsInCorner coefficients → (row column : ℕ)
    → 4 ≤ row → row < 8 → column < 8 → dequantized coefficients quantization row column ≡ pos 0
unfolding dequantized
no_product_below coefficients quantization corner row column below h h' = search (rules, get_or, nothing_times)

-- and to its right each column is flat, and 0
pub no_value_right : (coefficients : List ℤ) (quantization : List ℕ) → IsInCorner coefficients → (row column : ℕ)
    → 4 ≤ column → column < 8 → column_value coefficients quantization row column ≡ pos 0
unfolding dequantized
no_value_right coefficients quantization corner row column right h =
    flat_value coefficients quantization row column
    (all_flat coefficients column (λ k l. ap (λ z. unsigned_abs z == 0)
    (corner.right (suc k) column (omega arith) right h)))
    ∙ ap (λ z. int_wrap w32 (pos 4 *ℤ z))
    (nothing_times _ (get_or quantization (0 * 8 + column) 0) (corner.right 0 column (omega arith) right h))
    ∙ int_wrap_fits w32 (pos 0) (omega (arith, ints))

-- ---- the test of a block

abbrev pub upper_bits : List ℤ → ℕ → ℕ
upper_bits coefficients j =
    bit_or (bit_or (bit_or (bits_at coefficients 0 j) (bits_at coefficients 8 j))
    (bits_at coefficients 16 j)) (bits_at coefficients 24 j)

abbrev pub lower_bits : List ℤ → ℕ → ℕ
lower_bits coefficients j =
    bit_or (bit_or (bit_or (bits_at coefficients 32 j) (bits_at coefficients 40 j))
    (bits_at coefficients 48 j)) (bits_at coefficients 56 j)

pub first_bits : (coefficients : List ℤ) → length coefficients ≡ 64
    → IsBits (map (of_z w16) (chunk 0 8 coefficients)) (bits_at coefficients 0)
first_bits coefficients long = search (rules, fill_by_all, get_or, get_or-chunk, length-chunk, map-map, of_z)

-- each of eight lanes is 0 where the mask of the zero lanes is full
pub all_zero : (v : List ℕ) (f : ℕ → ℕ) → IsBits v f
    → nat_eq (mask_l (map (top 15) (zip2 (λ a b. cond (eqb a b) 65535 0) v (replicate 8 0))) % 18446744073709551616) 255
    ≡ true → (j : ℕ) → j < 8 → eqb (f j) 0 ≡ true
all_zero v f bits full j h =
    search (rules, bit_mask_l, bitmask_splat, eight_cases, eqb-true, get_or, get_or-map-range_with_len, length-map-range_with_len, map-map)

-- and that mask is full where each of the lanes is 0
pub zero_all : (v : List ℕ) (f : ℕ → ℕ) → IsBits v f → ((j : ℕ) → j < 8 → eqb (f j) 0 ≡ true)
    → nat_eq (mask_l (map (top 15) (zip2 (λ a b. cond (eqb a b) 65535 0) v (replicate 8 0))) % 18446744073709551616) 255
    ≡ true
zero_all v f bits zero = search (rules, bitmask_splat, length-map-range_with_len, nat_eq)

-- the last four lanes, twice
pub last_lanes : {v : List ℕ} {f : ℕ → ℕ} → IsBits v f
    → IsBits (pick_l 0 (v ++ v) (4 ∷ 5 ∷ 6 ∷ 7 ∷ 4 ∷ 5 ∷ 6 ∷ 7 ∷ [])) (λ j. f (4 + j % 4))
last_lanes bits = record { is = ap (λ (l : List ℕ). pick_l 0 (l ++ l) (4 ∷ 5 ∷ 6 ∷ 7 ∷ 4 ∷ 5 ∷ 6 ∷ 7 ∷ [])) bits.is }

parts : (a b : ℕ) → eqb (bit_or a b) 0 ≡ true → (eqb a 0 ≡ true) × (eqb b 0 ≡ true)
parts a b e = and_parts (eqb a 0) (eqb b 0) (sym (or_zero a b) ∙ e)

-- where four rows have only zeros in a lane
record AreZero (a b c d : ℕ) : Type 0 where
  pub first : eqb a 0 ≡ true
  pub second : eqb b 0 ≡ true
  pub third : eqb c 0 ≡ true
  pub fourth : eqb d 0 ≡ true

four : (a b c d : ℕ) → eqb (bit_or (bit_or (bit_or a b) c) d) 0 ≡ true → AreZero a b c d
four a b c d e = grind (arith, common_steps, parts)

pub corner_is : (coefficients : List ℤ) → ((j : ℕ) → FitsSigned w16 (get_or coefficients j (pos 0)))
    → ((j : ℕ) → j < 8 → eqb (bit_or (lower_bits coefficients j) (upper_bits coefficients (4 + j % 4))) 0 ≡ true)
    → IsInCorner coefficients
corner_is coefficients fits tested = record {
  below = λ row column h h' l. let rows = lower column l in
      grind (
        arith,
        nat_tests,
        none (32 + column) rows.first,
        none (40 + column) rows.second,
        none (48 + column) rows.third,
        none (56 + column) rows.fourth,
      );
  right = λ row column h h' l. let rows = lower column l in let firsts = upper column h' l in
      grind (
        arith,
        nat_tests,
        none (0 + column) firsts.first,
        none (8 + column) firsts.second,
        none (16 + column) firsts.third,
        none (24 + column) firsts.fourth,
        none (32 + column) rows.first,
        none (40 + column) rows.second,
        none (48 + column) rows.third,
        none (56 + column) rows.fourth,
      );
}
  where
    none : (index : ℕ) → eqb (of_z w16 (get_or coefficients index (pos 0))) 0 ≡ true
        → get_or coefficients index (pos 0) ≡ pos 0
    none index e = none_of _ (sym (half_zero _ (fits index)) ∙ e)

    lower : (j : ℕ) → j < 8 → AreZero (bits_at coefficients 32 j) (bits_at coefficients 40 j)
        (bits_at coefficients 48 j) (bits_at coefficients 56 j)
    lower j h = four _ _ _ _ (parts (lower_bits coefficients j) (upper_bits coefficients (4 + j % 4)) (tested j h)).0

    upper : (j : ℕ) → 4 ≤ j → j < 8 → AreZero (bits_at coefficients 0 j) (bits_at coefficients 8 j)
        (bits_at coefficients 16 j) (bits_at coefficients 24 j)
    upper j low h =
        let e : 4 + (j - 4) % 4 ≡ j = omega arith in
        four _ _ _ _ (ap (λ (n : ℕ). eqb (upper_bits coefficients n) 0) (sym e)
        ∙ (parts (lower_bits coefficients (j - 4)) (upper_bits coefficients (4 + (j - 4) % 4))
        (tested (j - 4) (omega arith))).1)

pub corner_zero : (coefficients : List ℤ) → IsInCorner coefficients → (j : ℕ) → j < 8
    → eqb (bit_or (lower_bits coefficients j) (upper_bits coefficients (4 + j % 4))) 0 ≡ true
corner_zero coefficients corner j h =
    let k : ℕ = 4 + j % 4 in
    let right : 4 ≤ k = omega arith in
    let small : k < 8 = omega arith in
    simp (
      or_zero,
      corner.below 4 j (lit≤ tt) (lit< tt) h,
      corner.below 5 j (lit≤ tt) (lit< tt) h,
      corner.below 6 j (lit≤ tt) (lit< tt) h,
      corner.below 7 j (lit≤ tt) (lit< tt) h,
      corner.right 0 k (lit< tt) right small,
      corner.right 1 k (lit< tt) right small,
      corner.right 2 k (lit< tt) right small,
      corner.right 3 k (lit< tt) right small,
    )
