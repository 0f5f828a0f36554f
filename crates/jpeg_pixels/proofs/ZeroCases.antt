-- Rows and columns of which all but the first number is 0.
use Rattle.std.proofs.Common.{◌≡◌, ℕ, zero, suc, ◌<◌, List, ℤ, pos, neg_ℤ, ◌+ℤ◌, ◌*ℤ◌, ◌≤ℤ◌, ◌<ℤ◌}
use Rattle.std.proofs.Common.{true, ◌==◌, unsigned_abs, rules, arith, get_or}
use Rattle.std.proofs.lemmas.Bool.{eqb-true}
use Rattle.std.proofs.lemmas.Int.{ints, int_wrap_fits}
use Rattle.std.specs.Int.{w32, int_shr, int_wrap}
use Rattle.jpeg_pixels.specs.Samples.{is_flat_column, dequantized, transformed, column_value, sample, clamped}
use Rattle.jpeg_bits.proofs.Ranges.{each_passes}
use Rattle.jpeg_pixels.proofs.Sums.{flat_value, transformed_one}

pub zero_row : (coefficients : List ℤ) (quantization : List ℕ) (x y : ℕ) → x < 8
    → ((k : ℕ) → 0 < k → k < 8 → column_value coefficients quantization y k ≡ pos 0)
    → sample coefficients quantization x y
    ≡ clamped (int_shr (int_wrap w32 (pos 4096 *ℤ column_value coefficients quantization y 0 +ℤ pos 16842752)) 17)
unfolding sample
zero_row coefficients quantization x y h none = simp (transformed_one)

pub none_of : (z : ℤ) → (unsigned_abs z == 0) ≡ true → z ≡ pos 0
none_of z e = let n : unsigned_abs z ≡ 0 = eqb-true (unsigned_abs z) 0 e in omega (arith, ints, n)

-- below the first row of a flat column each product is 0
no_product : (coefficients : List ℤ) (quantization : List ℕ) (column k : ℕ) → is_flat_column coefficients column
    ≡ true → 0 < k → k < 8 → dequantized coefficients quantization k column ≡ pos 0
unfolding dequantized is_flat_column
no_product coefficients quantization column zero flat some h = absurd (omega arith)
no_product coefficients quantization column (suc k) flat some h = search (rules, each_passes, get_or, none_of)

-- four times a number, by way of 4096 times
four_of : (p : ℤ) → neg_ℤ (pos 524288) ≤ℤ p → p <ℤ pos 524288 → int_wrap w32 (pos 4 *ℤ p)
    ≡ int_shr (int_wrap w32 (pos 4096 *ℤ p +ℤ pos 512)) 10
four_of p low high = search (rules, int_wrap_fits)

pub zero_column : (coefficients : List ℤ) (quantization : List ℕ) (row column : ℕ) → row < 8
    → is_flat_column coefficients column ≡ true
    → neg_ℤ (pos 524288) ≤ℤ dequantized coefficients quantization 0 column
    → dequantized coefficients quantization 0 column <ℤ pos 524288
    → column_value coefficients quantization row column
    ≡ int_shr (int_wrap w32 (transformed (λ k. dequantized coefficients quantization k column) row +ℤ pos 512)) 10
zero_column coefficients quantization row column h flat low high =
    simp (flat_value, four_of, no_product, transformed_one)
