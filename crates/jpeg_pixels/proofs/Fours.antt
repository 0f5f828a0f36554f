-- The transforms to four numbers a side and fewer, and blocks of one coefficient.
use Rattle.std.proofs.Common.{◌≡◌, ℕ, ◌<◌, List, ℤ, pos, neg_ℤ, ◌+ℤ◌, ◌-ℤ◌, ◌*ℤ◌, ap, ◌∙◌, arith, rules, ◌≢◌, zero, suc}
use Rattle.std.proofs.Common.{◌+◌, ◌*◌, ◌≤◌, length, set, get_or, slice_index, slice_index_or, [], ◌∷◌}
use Rattle.std.proofs.Common.{get_or-set_other, length-set, negsuc, unsigned_abs, refl, sym, FitsSigned, lit<, true}
use Rattle.std.proofs.lemmas.Int.{int_wrap-add_left, ints, int_wrap_fits}
use Rattle.std.specs.Int.{w32, int_wrap, int_shr}
use Rattle.jpeg_pixels.specs.Scaled.{even_part, odd_part, column_by, scaled_sample, signed}
use Rattle.jpeg_pixels.specs.Scaled.{column_of_4, sample_of_4, sample_of_2, sample_of_1}
use Rattle.jpeg_pixels.specs.HalfRows.{row_sum}
use Rattle.std.proofs.lemmas.Bool.Decides.{nat_tests}
use Rattle.std.proofs.lemmas.Grind.{get_or-set_at}
use Rattle.jpeg_pixels.specs.Samples.{clamped, dequantized, HasFirstOnly, is_flat_column, is_zero_at, sample}
use Rattle.jpeg_pixels.specs.Blocks.{WritesBlock}
use Rattle.std.proofs.lemmas.Bool.{cases_lt}
use Rattle.std.proofs.Math.Logic.{⊎_elim}
use Rattle.jpeg_bits.proofs.Ranges.{all_pass}
use Rattle.jpeg_pixels.proofs.Sums.{flat_value, transformed_one}

-- four numbers by their indices
abbrev four : ℤ → ℤ → ℤ → ℤ → ℕ → ℤ
four s0 s1 s2 s3 index = slice_index_or (s0 ∷ s1 ∷ s2 ∷ s3 ∷ []) index (pos 0)

-- by the first four numbers of a column
pub column_by_same : (s : ℕ → ℤ) (s0 s1 s2 s3 : ℤ) (row : ℕ) → s0 ≡ s 0 → s1 ≡ s 1 → s2 ≡ s 2 → s3 ≡ s 3
    → column_by (four s0 s1 s2 s3) row ≡ column_by s row
unfolding even_part odd_part
column_by_same s s0 s1 s2 s3 row e0 e1 e2 e3 = λ i. column_by (four (e0 i) (e1 i) (e2 i) (e3 i)) row

-- by the first four numbers of a row
pub row_by_same : (s : ℕ → ℤ) (s0 s1 s2 s3 : ℤ) (x : ℕ) → s0 ≡ s 0 → s1 ≡ s 1 → s2 ≡ s 2 → s3 ≡ s 3
    → row_sum (four s0 s1 s2 s3) x ≡ row_sum s x
unfolding even_part odd_part
row_by_same s s0 s1 s2 s3 x e0 e1 e2 e3 = λ i. row_sum (four (e0 i) (e1 i) (e2 i) (e3 i)) x

pub one_sample : (stride : ℕ) (f : ℕ → ℕ → ℕ) (old : List ℕ) (a : ℕ) → 1 ≤ stride → 1 ≤ length old → a ≡ f 0 0
    → WritesBlock 1 1 stride f old (set old 0 a)
one_sample stride f old a wide room is = search (rules, get_or-set_at, get_or-set_other, slice_index)

-- two lines of two samples
abbrev pub two_lines : ℕ → List ℕ → ℕ → ℕ → ℕ → ℕ → List ℕ
two_lines stride old a b d e = set (set (set (set old 0 a) 1 b) stride d) (stride + 1) e

two_kept : (stride : ℕ) (old : List ℕ) (a b d e i : ℕ) → i ≢ 0 → i ≢ 1 → i ≢ stride → i ≢ stride + 1
    → get_or (two_lines stride old a b d e) i 0 ≡ get_or old i 0
two_kept stride old a b d e i h0 h1 h2 h3 = simp (get_or-set_other)

pub four_samples : (stride : ℕ) (f : ℕ → ℕ → ℕ) (old : List ℕ) (a b d e : ℕ) → 2 ≤ stride → stride + 2 ≤ length old
    → a ≡ f 0 0 → b ≡ f 1 0 → d ≡ f 0 1 → e ≡ f 1 1 → WritesBlock 2 2 stride f old (two_lines stride old a b d e)
four_samples stride f old a b d e wide room is0 is1 is2 is3 = record { inside = inside; right = right; below = below }
  where
    inside : (x y : ℕ) → x < 2 → y < 2 → slice_index (two_lines stride old a b d e) (y * stride + x) ≡ f x y
    inside zero zero hx hy = search (rules, get_or-set_at, get_or-set_other, length-set, slice_index)
    inside (suc zero) zero hx hy = search (rules, get_or-set_at, get_or-set_other, length-set, slice_index)
    inside zero (suc zero) hx hy = search (rules, get_or-set_at, get_or-set_other, length-set, slice_index)
    inside (suc zero) (suc zero) hx hy = search (rules, get_or-set_at, get_or-set_other, length-set, slice_index)
    inside (suc (suc x)) y hx hy = absurd (omega arith)
    inside zero (suc (suc y)) hx hy = absurd (omega arith)
    inside (suc zero) (suc (suc y)) hx hy = absurd (omega arith)

    right : (x y : ℕ) → 2 ≤ x → x < stride → y < 2 → slice_index (two_lines stride old a b d e) (y * stride + x)
        ≡ slice_index old (y * stride + x)
    right x zero hx hs hy = two_kept stride old a b d e (0 * stride + x) (omega arith) (omega arith) (omega arith)
        (omega arith)
    right x (suc zero) hx hs hy = two_kept stride old a b d e (1 * stride + x) (omega arith) (omega arith)
        (omega arith) (omega arith)
    right x (suc (suc y)) hx hs hy = absurd (omega arith)

    below : (i : ℕ) → 2 * stride ≤ i → slice_index (two_lines stride old a b d e) i ≡ slice_index old i
    below i hi = two_kept stride old a b d e i (omega arith) (omega arith) (omega arith) (omega arith)

-- the sample of a sum in eighths
abbrev pub eighths : ℤ → ℕ
eighths z = clamped (int_shr (int_wrap w32 (z +ℤ pos 1028)) 3)

-- the same of a sum that was wrapped
wrapped_eighths : (z : ℤ) → eighths (int_wrap w32 z) ≡ eighths z
wrapped_eighths z = ap (λ y. clamped (int_shr y 3)) (int_wrap-add_left w32 z (pos 1028))

-- the samples of the four products of a block
pub sum_both : (s : ℕ → ℕ → ℤ) (m a d b : ℤ) → m ≡ s 0 0 → a ≡ s 0 1 → d ≡ s 1 0 → b ≡ s 1 1
    → eighths (int_wrap w32 (m +ℤ a +ℤ (d +ℤ b))) ≡ scaled_sample s 0 0
sum_both s m a d b e0 e1 e2 e3 = wrapped_eighths _ ∙ (λ i. eighths (e0 i +ℤ e1 i +ℤ (e2 i +ℤ e3 i)))

pub sum_right : (s : ℕ → ℕ → ℤ) (m a d b : ℤ) → m ≡ s 0 0 → a ≡ s 0 1 → d ≡ s 1 0 → b ≡ s 1 1
    → eighths (int_wrap w32 (m -ℤ a +ℤ (d -ℤ b))) ≡ scaled_sample s 1 0
sum_right s m a d b e0 e1 e2 e3 = wrapped_eighths _ ∙ (λ i. eighths (e0 i +ℤ neg_ℤ (e1 i) +ℤ (e2 i +ℤ neg_ℤ (e3 i))))

pub sum_down : (s : ℕ → ℕ → ℤ) (m a d b : ℤ) → m ≡ s 0 0 → a ≡ s 0 1 → d ≡ s 1 0 → b ≡ s 1 1
    → eighths (int_wrap w32 (m +ℤ a -ℤ (d +ℤ b))) ≡ scaled_sample s 0 1
sum_down s m a d b e0 e1 e2 e3 = wrapped_eighths _ ∙ (λ i. eighths (e0 i +ℤ e1 i +ℤ neg_ℤ (e2 i +ℤ e3 i)))

pub sum_across : (s : ℕ → ℕ → ℤ) (m a d b : ℤ) → m ≡ s 0 0 → a ≡ s 0 1 → d ≡ s 1 0 → b ≡ s 1 1
    → eighths (int_wrap w32 (m -ℤ a -ℤ (d -ℤ b))) ≡ scaled_sample s 1 1
sum_across s m a d b e0 e1 e2 e3 = search (rules, neg_ℤ, wrapped_eighths)

pub ruleset few = (four_samples, sum_across, sum_both, sum_down, sum_right)

pub all_flat : (coefficients : List ℤ) (column : ℕ)
    → ((k : ℕ) → k < 7 → is_zero_at coefficients column k ≡ true)
    → is_flat_column coefficients column ≡ true
unfolding is_flat_column
all_flat coefficients column h = all_pass _ 0 7 (λ k l m. h k (omega arith))

is_flat : (coefficients : List ℤ) (column : ℕ) → HasFirstOnly coefficients → column < 8
    → is_flat_column coefficients column ≡ true
is_flat coefficients column first h = search (rules, all_flat, unsigned_abs)

-- each product but the first is 0
pub no_product : (coefficients : List ℤ) (quantization : List ℕ) (row column : ℕ) → HasFirstOnly coefficients
    → 0 < row * 8 + column → row * 8 + column < 64 → dequantized coefficients quantization row column ≡ pos 0
unfolding dequantized
no_product coefficients quantization row column first some h = search (rules, get_or)

pub scaled : (p : ℤ) → clamped (int_shr (pos 4096 *ℤ (pos 4 *ℤ p) +ℤ pos 16842752) 17) ≡ clamped (int_shr (p +ℤ pos 4) 3
    +ℤ pos 128)
scaled (pos n) = omega arith
scaled (negsuc n) = ⊎_elim (λ (s : n < 4). search rules) (λ (s : 4 ≤ n).
    ⊎_elim (λ (l : n < 1028). search rules) (λ (l : 1028 ≤ n). search rules) (cases_lt n 1028)) (cases_lt n 4)

pub sample_first_only : (coefficients : List ℤ) (quantization : List ℕ) (x y : ℕ) → HasFirstOnly coefficients → x < 8
    → y < 8 → unsigned_abs (dequantized coefficients quantization 0 0) ≤ 65536
    → sample coefficients quantization x y ≡ clamped (int_shr (dequantized coefficients quantization 0 0 +ℤ pos 4) 3
    +ℤ pos 128)
unfolding sample
sample_first_only coefficients quantization x y first hx hy small =
    search (rules, flat_value, int_wrap_fits, is_flat, no_product, transformed_one)

-- a column of one number
column_one : (v : ℤ) (row : ℕ) → row < 4 → column_by (four v (pos 0) (pos 0) (pos 0)) row ≡ int_wrap w32 (pos 4 *ℤ v)
unfolding even_part odd_part int_wrap
column_one v row h1 = grind (arith, nat_tests)

-- a row of one number
row_one : (v : ℤ) (x : ℕ) → x < 4 → row_sum (four v (pos 0) (pos 0) (pos 0)) x
    ≡ int_wrap w32 (pos 4096 *ℤ v +ℤ pos 16842752)
unfolding even_part odd_part
row_one v x h1 = grind (arith, nat_tests)

-- the columns of such a block
column_first : (coefficients : List ℤ) (quantization : List ℕ) (row column : ℕ) → HasFirstOnly coefficients → row < 4
    → column < 8 → column_of_4 coefficients quantization row column
    ≡ int_wrap w32 (pos 4 *ℤ dequantized coefficients quantization 0 column)
unfolding column_of_4
column_first coefficients quantization row column first hr hc =
    sym (column_by_same (λ k. dequantized coefficients quantization k column)
    (dequantized coefficients quantization 0 column) (pos 0) (pos 0) (pos 0) row refl
    (sym (no_product coefficients quantization 1 column first (omega arith) (omega arith)))
    (sym (no_product coefficients quantization 2 column first (omega arith) (omega arith)))
    (sym (no_product coefficients quantization 3 column first (omega arith) (omega arith))))
    ∙ column_one (dequantized coefficients quantization 0 column) row hr

pub half_first_only : (coefficients : List ℤ) (quantization : List ℕ) (x y : ℕ) → HasFirstOnly coefficients → x < 4
    → y < 4 → unsigned_abs (dequantized coefficients quantization 0 0) ≤ 65536
    → sample_of_4 coefficients quantization x y
    ≡ clamped (int_shr (dequantized coefficients quantization 0 0 +ℤ pos 4) 3 +ℤ pos 128)
unfolding sample_of_4
half_first_only coefficients quantization x y first hx hy small =
    let p = dequantized coefficients quantization 0 0 in
    let four_fits : FitsSigned w32 (pos 4 *ℤ p) = omega (arith, ints) in
    let sum_fits : FitsSigned w32 (pos 4096 *ℤ (pos 4 *ℤ p) +ℤ pos 16842752) = omega (arith, ints) in
    let value : pos 4 *ℤ p ≡ column_of_4 coefficients quantization y 0 =
    sym (column_first coefficients quantization y 0 first hy (lit< tt) ∙ int_wrap_fits w32 (pos 4 *ℤ p) four_fits) in
    let nothing : (k : ℕ) → 0 < k → k < 8 → pos 0 ≡ column_of_4 coefficients quantization y k =
    search (rules, column_first, no_product, int_wrap_fits) in
    ap (λ z. clamped (int_shr z 17)) (sym (row_by_same (column_of_4 coefficients quantization y) (pos 4 *ℤ p) (pos 0)
    (pos 0) (pos 0) x value (nothing 1 (lit< tt) (lit< tt)) (nothing 2 (lit< tt) (lit< tt))
    (nothing 3 (lit< tt) (lit< tt)))
    ∙ row_one (pos 4 *ℤ p) x hx ∙ int_wrap_fits w32 (pos 4096 *ℤ (pos 4 *ℤ p) +ℤ pos 16842752) sum_fits)
    ∙ scaled p

-- 128 units in eighths
more_eighths : (z : ℤ) → int_shr (z +ℤ pos 1024) 3 ≡ int_shr z 3 +ℤ pos 128
more_eighths (pos n) = search rules
more_eighths (negsuc n) = search (rules, cases_lt)

pub eighth_first_only : (coefficients : List ℤ) (quantization : List ℕ)
    → unsigned_abs (dequantized coefficients quantization 0 0) ≤ 65536
    → sample_of_1 coefficients quantization ≡ clamped (int_shr (dequantized coefficients quantization 0 0) 3 +ℤ pos 128)
unfolding sample_of_1
eighth_first_only coefficients quantization small = search (rules, int_wrap_fits, more_eighths)

-- four products of which three are 0
abbrev alone : ℤ → ℤ → ℤ → ℤ → ℕ → ℕ → ℤ
alone a b d e x y = a +ℤ signed x b +ℤ signed y (d +ℤ signed x e) +ℤ pos 1028

quarter_sum : (p : ℤ) (x y : ℕ) → x < 2 → y < 2 → alone p (pos 0) (pos 0) (pos 0) x y ≡ p +ℤ pos 4 +ℤ pos 1024
quarter_sum p x y h1 h2 = grind (arith, nat_tests)

pub quarter_first_only : (coefficients : List ℤ) (quantization : List ℕ) (x y : ℕ) → HasFirstOnly coefficients
    → x < 2 → y < 2 → unsigned_abs (dequantized coefficients quantization 0 0) ≤ 65536
    → sample_of_2 coefficients quantization x y
    ≡ clamped (int_shr (dequantized coefficients quantization 0 0 +ℤ pos 4) 3 +ℤ pos 128)
unfolding sample_of_2
quarter_first_only coefficients quantization x y first hx hy small =
    search (rules, int_wrap_fits, more_eighths, no_product, quarter_sum)

pub ruleset flat = (sample_first_only, half_first_only, quarter_first_only, eighth_first_only)
