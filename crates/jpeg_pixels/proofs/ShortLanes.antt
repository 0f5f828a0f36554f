-- Lanes of signed numbers, as they are computed, chosen and read, rows of them, and the passes in 16 bits.
use Rattle.std.proofs.Common.{◌≡◌, ℕ, ◌+◌, ◌-◌, ◌*◌, ◌%◌, ◌/◌, ◌^◌, ◌<◌, ◌≤◌, List, map, length, get_or, ℤ, pos, negsuc}
use Rattle.std.proofs.Common.{◌+ℤ◌, ◌-ℤ◌, ◌*ℤ◌, ◌≤ℤ◌, ◌<ℤ◌, refl, ◌∙◌, replicate, FitsSigned, of_z, to_z, arith, Bool}
use Rattle.std.proofs.Common.{true, false, not, cond, unsigned_abs, nat_eq, min, max, subst, rules, sym, ap, lit<, lit≤}
use Rattle.std.proofs.Common.{zero, suc, eqb, [], ◌∷◌, ◌++◌, w8}
use Rattle.std.proofs.lemmas.Simd.{zip2_of_maps, splat_is_map, map-map, tops_compared, mask_l-lt}
use Rattle.std.proofs.lemmas.List.FromFn.{fill_by_all, length-range_with_len, get_or-map-range_with_len}
use Rattle.std.proofs.lemmas.Int.{ints, to_z-of_z, int_wrap_fits, wrapping_add_is, by_lt_z, wrapping_sub_is, of_z-to_z}
use Rattle.std.proofs.lemmas.Int.{wrapping_mul_is, SFits-int_wrap, unsigned_abs-mul, fits_signed_from_abs}
use Rattle.std.proofs.Math.Nat.{div-le_self, mul-le-mul_left, mod-eq_of_lt, pow-suc}
use Rattle.std.specs.Int.{Width, w16, w32, int_shr, int_wrap}
use Rattle.std.specs.Int.Signed.{lt_z, le_z}
use Rattle.std.specs.List.{range_with_len}
use lib.Dec.{T}
use lib.Signed.{non_neg}
use Rattle.std.proofs.lemmas.Bool.{eqb-true}
use lib.Lanes.{zip2, sel_l, top, chunk, Each1, mask_l, pick_l}
use mir.Val.{Val, Fits, bits, hbits}
use denote.Array.{each}
use denote.Shadow.{shadow}
use denote.Signed.{SInt}
use borrow.Rule.Slice.PartMut.{mid_of}
use Rattle.jpeg_pixels.specs.Lanes.{lanes, lane, lane_is_zero}
use Rattle.jpeg_pixels.specs.ShortRows.{IsLimit, HasShortProducts, line_value, paired, sixteen, halves}
use Rattle.std.proofs.lemmas.Nat.{and_mask}
use Rattle.std.specs.Int.Bits.{bit_and, bit_xor, xor_add_and, xor_zero_r}
use Rattle.jpeg_pixels.proofs.LaneSums.{read_residue, residue, residue_add, residue_bits, residue_mul, AreLanes, loaded}
use Rattle.jpeg_pixels.proofs.LaneSums.{kept_halves, kept_words, lane-lanes, own_lanes, lanes_same, shifted_fits}
use Rattle.jpeg_pixels.proofs.LaneSums.{shifted_back}
use Rattle.jpeg_pixels.proofs.Corners.{sel_of_maps, bits_zero}
use Rattle.std.proofs.lemmas.Grind.{common_steps}
use Rattle.std.proofs.lemmas.Bool.Decides.{nat_tests}
use Rattle.jpeg_pixels.specs.Samples.{transformed, basis, sum_below, dequantized, column_value, is_flat_column, clamped}
use Rattle.jpeg_pixels.proofs.Sums.{other_value, transformed_same, eight_cases}
use Rattle.jpeg_pixels.proofs.ZeroCases.{zero_column}
use Rattle.jpeg_pixels.specs.declared.arch.Rows.{Rows}
use Rattle.jpeg_pixels.specs.LaneRows.{lane_at, column_of, HasNumbers, IsTurned}

-- in each lane stand the bits of a number of this width
pub record IsSigned (w : Width) (n : ℕ) (v : List ℕ) (f : ℕ → ℤ) : Type 0 where
  pub is : v ≡ map (λ j. of_z w (f j)) (range_with_len 0 n)
  pub fits : (j : ℕ) → FitsSigned w (f j)

-- a vector that is given
pub signed_given : {w : Width} {n : ℕ} (v : List ℤ) → length v ≡ n → ((j : ℕ) → FitsSigned w (lane v j))
    → IsSigned w n (map (of_z w) v) (lane v)
signed_given {w} {n} v long fits = record {
  is = ap (map (of_z w)) (fill_by_all (lane v) v n (pos 0) long (λ k h. refl))
      ∙ map-map (of_z w) (lane v) (range_with_len 0 n);
  fits = fits;
}

-- sixteen elements of an array, from `at` on
pub signed_loaded : (xs : List ℤ) (at : ℕ) → length xs ≡ 64 → at + 16 ≤ 64
    → ((j : ℕ) → FitsSigned w16 (get_or xs j (pos 0)))
    → IsSigned w16 16 (map (of_z w16) (chunk 0 16 (mid_of at (64 - at) xs))) (λ j. get_or xs (at + j) (pos 0))
signed_loaded xs at e h fits = record {
  is = ap (map (of_z w16)) (loaded 16 xs at (pos 0) e h)
      ∙ map-map (of_z w16) (λ j. get_or xs (at + j) (pos 0)) (range_with_len 0 16);
  fits = λ j. fits (at + j);
}

-- a splat
pub signed_splat : (w : Width) {n : ℕ} (bits : ℕ) (z : ℤ) → bits ≡ of_z w z → FitsSigned w z
    → IsSigned w n (replicate n bits) (λ _. z)
signed_splat w {n} bits z e f = record {
  is = splat_is_map (range_with_len 0 n) n bits (length-range_with_len 0 n)
      ∙ ap (λ (m : ℕ). map (λ _. m) (range_with_len 0 n)) e;
  fits = λ _. f;
}

-- a vector read from its bits
pub signed_read : {w : Width} {n : ℕ} {v : List ℕ} {f : ℕ → ℤ} → IsSigned w n v f
    → map (to_z w) v ≡ map f (range_with_len 0 n)
signed_read {w} {n} {v} {f} s = ap (map (to_z w)) s.is ∙ map-map (to_z w) (λ j. of_z w (f j)) (range_with_len 0 n)
    ∙ (λ i. map (λ j. to_z-of_z w (f j) (s.fits j) i) (range_with_len 0 n))

pub signed_lanes : {w : Width} {v : List ℕ} {f : ℕ → ℤ} → IsSigned w 8 v f → map (to_z w) v ≡ lanes f
unfolding lanes
signed_lanes s = signed_read s

-- the same numbers by other words
pub signed_same : {w : Width} {n : ℕ} {v : List ℕ} {f g : ℕ → ℤ} → IsSigned w n v f → ((j : ℕ) → f j ≡ g j)
    → IsSigned w n v g
signed_same {w} {n} {v} {f} {g} s e = record {
  is = s.is ∙ (λ i. map (λ j. of_z w (e j i)) (range_with_len 0 n));
  fits = λ j. subst (FitsSigned w) (e j) (s.fits j);
}

-- a choice in each lane, by a test of the bits of two numbers
pub signed_by : {w : Width} {n : ℕ} {a b x y : List ℕ} {f g p q : ℕ → ℤ} (t : ℕ → ℕ → Bool)
    → IsSigned w n a f → IsSigned w n b g → IsSigned w n x p → IsSigned w n y q
    → IsSigned w n (sel_l (map (top (hbits w)) (zip2 (λ m n. cond (t m n) (2 ^ bits w - 1) 0) a b)) x y)
    (λ j. cond (t (of_z w (f j)) (of_z w (g j))) (p j) (q j))
signed_by {w} {n} {a} {b} {x} {y} {f} {g} {p} {q} t sa sb sx sy =
    let indices = range_with_len 0 n in
    let m : ℕ → Bool = λ j. t (of_z w (f j)) (of_z w (g j)) in
    let mask = tops_compared w t a b ∙ zip2_of_maps t (λ j. of_z w (f j)) (λ j. of_z w (g j)) indices sa.is sb.is in
    record {
      is = (λ i. sel_l (mask i) (sx.is i) (sy.is i))
          ∙ sel_of_maps m (λ j. of_z w (p j)) (λ j. of_z w (q j)) indices
          ∙ (λ i. map (λ j. either (m j) (p j) (q j) i) indices);
      fits = λ j. chosen_fits (m j) (p j) (q j) (sx.fits j) (sy.fits j);
    }
  where
    either : (t : Bool) (m n : ℤ) → cond t (of_z w m) (of_z w n) ≡ of_z w (cond t m n)
    either true m n = refl
    either false m n = refl

    chosen_fits : (t : Bool) (m n : ℤ) → FitsSigned w m → FitsSigned w n → FitsSigned w (cond t m n)
    chosen_fits true m n fm fn = fm
    chosen_fits false m n fm fn = fn

-- by which of two numbers is less
pub signed_chosen : {w : Width} {n : ℕ} {a b x y : List ℕ} {f g p q : ℕ → ℤ} → IsSigned w n a f → IsSigned w n b g
    → IsSigned w n x p → IsSigned w n y q
    → IsSigned w n (sel_l (map (top (hbits w)) (zip2 (λ m n. cond (lt_z (to_z w m) (to_z w n)) (2 ^ bits w - 1) 0) a b))
    x y) (λ j. cond (lt_z (f j) (g j)) (p j) (q j))
signed_chosen {w} {n} {a} {b} {x} {y} {f} {g} {p} {q} sa sb sx sy =
    signed_same (signed_by (λ m n. lt_z (to_z w m) (to_z w n)) sa sb sx sy) (λ j i.
    cond (lt_z (to_z-of_z w (f j) (sa.fits j) i) (to_z-of_z w (g j) (sb.fits j) i)) (p j) (q j))

-- a shift to the right
pub signed_shr : {w : Width} {n : ℕ} {v : List ℕ} {f : ℕ → ℤ} (s : ℕ) → IsSigned w n v f
    → IsSigned w n (zip2 (λ a b. of_z w (int_shr (to_z w a) b)) v (replicate n s)) (λ j. int_shr (f j) s)
signed_shr {w} {n} {v} {f} s a = record {
  is = zip2_of_maps _ (λ j. of_z w (f j)) (λ _. s) (range_with_len 0 n) a.is
      (splat_is_map (range_with_len 0 n) n s (length-range_with_len 0 n))
      ∙ (λ i. map (λ j. of_z w (int_shr (to_z-of_z w (f j) (a.fits j) i) s)) (range_with_len 0 n));
  fits = λ j. shifted_fits w (f j) s (a.fits j);
}

-- what wrapping computes of two numbers in each lane
wrapped_each : {n : ℕ} {v u : List ℕ} {f g : ℕ → ℤ} (op : ℕ → ℕ → ℕ) (z : ℤ → ℤ → ℤ)
    → ((a b : ℤ) → FitsSigned w16 a → FitsSigned w16 b
    → to_z w16 (op (of_z w16 a) (of_z w16 b) % 65536) ≡ int_wrap w16 (z a b))
    → IsSigned w16 n v f → IsSigned w16 n u g
    → IsSigned w16 n (zip2 (λ a b. op a b % 65536) v u) (λ j. int_wrap w16 (z (f j) (g j)))
wrapped_each {n} {v} {u} {f} {g} op z law a b = record {
  is = zip2_of_maps (λ a b. op a b % 65536) (λ j. of_z w16 (f j)) (λ j. of_z w16 (g j)) (range_with_len 0 n) a.is b.is
      ∙ (λ i. map (λ j. same (f j) (g j) (a.fits j) (b.fits j) i) (range_with_len 0 n));
  fits = λ j. SFits-int_wrap w16 (z (f j) (g j));
}
  where
    same : (x y : ℤ) → FitsSigned w16 x → FitsSigned w16 y
        → op (of_z w16 x) (of_z w16 y) % 65536 ≡ of_z w16 (int_wrap w16 (z x y))
    same x y fx fy =
        sym (of_z-to_z w16 (op (of_z w16 x) (of_z w16 y) % 65536) (omega arith)) ∙ ap (of_z w16) (law x y fx fy)

pub signed_add : {n : ℕ} {v u : List ℕ} {f g : ℕ → ℤ} → IsSigned w16 n v f → IsSigned w16 n u g
    → IsSigned w16 n (zip2 (λ a b. (a + b) % 65536) v u) (λ j. int_wrap w16 (f j +ℤ g j))
signed_add = wrapped_each (λ a b. a + b) (λ a b. a +ℤ b) (wrapping_add_is w16)

pub signed_sub : {n : ℕ} {v u : List ℕ} {f g : ℕ → ℤ} → IsSigned w16 n v f → IsSigned w16 n u g
    → IsSigned w16 n (zip2 (λ a b. (a + (65536 - b)) % 65536) v u) (λ j. int_wrap w16 (f j -ℤ g j))
signed_sub = wrapped_each (λ a b. a + (65536 - b)) (λ a b. a -ℤ b) (wrapping_sub_is w16)

pub signed_mul : {n : ℕ} {v u : List ℕ} {f g : ℕ → ℤ} → IsSigned w16 n v f → IsSigned w16 n u g
    → IsSigned w16 n (zip2 (λ a b. (a * b) % 65536) v u) (λ j. int_wrap w16 (f j *ℤ g j))
signed_mul = wrapped_each (λ a b. a * b) (λ a b. a *ℤ b) (wrapping_mul_is w16)

-- what is asked of each lane's bits
pub each_signed : {w : Width} {n : ℕ} {v : List ℕ} {f : ℕ → ℤ} → IsSigned w n v f → (P : ℕ → Type 0)
    → ((j : ℕ) → P (of_z w (f j))) → Each1 P v
each_signed {w} {n} {v} {f} s P h = subst (Each1 P) (sym s.is) (go (range_with_len 0 n))
  where
    go : (places : List ℕ) → Each1 P (map (λ j. of_z w (f j)) places)
    go [] = tt
    go (j ∷ places) = (h j, go places)

-- lanes of `i32`, as lanes of `i16`
pub signed_cast : {n : ℕ} {v : List ℕ} {f : ℕ → ℤ} → IsSigned w32 n v f → ((j : ℕ) → FitsSigned w16 (f j))
    → IsSigned w16 n (map (λ a. of_z w16 (to_z w32 a)) v) f
signed_cast {n} {v} {f} s narrow = record {
  is = ap (map (λ a. of_z w16 (to_z w32 a))) s.is
      ∙ map-map (λ a. of_z w16 (to_z w32 a)) (λ j. of_z w32 (f j)) (range_with_len 0 n)
      ∙ (λ i. map (λ j. of_z w16 (to_z-of_z w32 (f j) (s.fits j) i)) (range_with_len 0 n));
  fits = narrow;
}

-- what holds of a choice by which of two numbers is less
pub choice : (P : ℤ → Type 0) (a b p q : ℤ) → (a <ℤ b → P p) → (b ≤ℤ a → P q) → P (cond (lt_z a b) p q)
choice P a b p q less not_less = grind (arith, common_steps, cond, not)

-- the nearest number from `lo` to `hi`, as two choices find it
abbrev pub kept : ℤ → ℤ → ℤ → ℤ
kept lo hi z = cond (lt_z (cond (lt_z z lo) lo z) hi) (cond (lt_z z lo) lo z) hi

pub kept_fits : (z : ℤ) → FitsSigned w16 (kept (negsuc 32767) (pos 32767) z)
kept_fits z = grind (arith, common_steps, choice, cond)

pub kept_same : (z : ℤ) → FitsSigned w16 z → kept (negsuc 32767) (pos 32767) z ≡ z
kept_same z f = grind (arith, common_steps, choice, cond)

-- where the less of two numbers isn't negative, neither is
pub both_above : (x y : ℤ) → pos 0 ≤ℤ cond (lt_z x y) x y → (pos 0 ≤ℤ x) × (pos 0 ≤ℤ y)
both_above x y = search (rules, choice, ints)

-- a number whose distances from the limit and from its negative aren't negative
pub within_limit : (limit z : ℤ) → IsLimit limit → FitsSigned w16 z
    → pos 0 ≤ℤ int_wrap w16 (limit -ℤ z) → pos 0 ≤ℤ int_wrap w16 (limit +ℤ z) → pos (unsigned_abs z) ≤ℤ limit
within_limit limit z h1 h2 h3 h4 = grind (arith, nat_tests, by_lt_z, int_wrap_fits)

-- a product with a value of a table is exact
pub product_exact : (z : ℤ) (q : ℕ) → unsigned_abs z ≤ 1095 / max q 1
    → int_wrap w16 (z *ℤ pos (min q 1095)) ≡ z *ℤ pos q
product_exact z q h = grind (arith, common_steps)

-- a vector whose lanes are clamped
pub clamped_lanes : {w : Width} {n : ℕ} {v : List ℕ} {f : ℕ → ℤ} (low high : ℕ) (lo hi : ℤ) → IsSigned w n v f
    → IsSigned w n (replicate n low) (λ _. lo) → IsSigned w n (replicate n high) (λ _. hi)
    → IsSigned w n (sel_l (map (top (hbits w)) (zip2 (λ m n. cond (lt_z (to_z w m) (to_z w n)) (2 ^ bits w - 1) 0)
    (sel_l (map (top (hbits w)) (zip2 (λ m n. cond (lt_z (to_z w m) (to_z w n)) (2 ^ bits w - 1) 0)
    v (replicate n low))) (replicate n low) v) (replicate n high)))
    (sel_l (map (top (hbits w)) (zip2 (λ m n. cond (lt_z (to_z w m) (to_z w n)) (2 ^ bits w - 1) 0)
    v (replicate n low))) (replicate n low) v) (replicate n high)) (λ j. kept lo hi (f j))
clamped_lanes low high lo hi s l h = signed_chosen (signed_chosen s l l s) h (signed_chosen s l l s) h

-- a mask whose bits are all set
full_mask : (ms : List Bool) → mask_l ms + 1 ≡ 2 ^ length ms → (i : ℕ) → i < length ms → get_or ms i false ≡ true
full_mask [] e i h = absurd (omega (arith, h))
full_mask (true ∷ ms) e zero h = refl
full_mask (true ∷ ms) e (suc i) h = full_mask ms (omega (arith, e, pow-suc 2 (length ms))) i (omega (arith, h))
full_mask (false ∷ ms) e i h = absurd (omega (arith, e, pow-suc 2 (length ms)))

-- where `simd_ge(0)` holds in each lane
pub all_at_least : {v : List ℕ} {f : ℕ → ℤ} → IsSigned w16 16 v f
    → nat_eq (mask_l (map (top 15) (zip2 (λ m n. cond (le_z (to_z w16 m) (to_z w16 n)) 65535 0) (replicate 16 0) v))
    % 18446744073709551616) 65535 ≡ true → (j : ℕ) → j < 16 → pos 0 ≤ℤ f j
all_at_least {v} {f} s full j h =
    let t : ℕ → ℕ → Bool = λ m n. le_z (to_z w16 m) (to_z w16 n) in
    let b : ℕ → Bool = λ k. le_z (pos 0) (to_z w16 (of_z w16 (f k))) in
    let places = range_with_len 0 16 in
    let all : map (top 15) (zip2 (λ m n. cond (t m n) 65535 0) (replicate 16 0) v) ≡ map b places =
    tops_compared w16 t (replicate 16 0) v ∙ zip2_of_maps t (λ _. 0) (λ k. of_z w16 (f k)) places
    (splat_is_map places 16 0 (length-range_with_len 0 16)) s.is in
    let mask = ap (λ (l : List Bool). mask_l l % 18446744073709551616) (sym all) ∙ eqb-true _ 65535 full in
    let small = mask_l-lt (map b places) in
    let each = full_mask (map b places) (omega (arith, mask, small)) j h in
    let yes : le_z (pos 0) (f j) ≡ true = ap (λ z. le_z (pos 0) z) (sym (to_z-of_z w16 (f j) (s.fits j)))
    ∙ sym (get_or-map-range_with_len b 0 16 j j false h (omega arith)) ∙ each in
    record { le = subst T (sym yes) tt }

-- a row of a narrowed matrix
pub narrowed_row : (row result : List ℤ) (us ws : List Val) (f : ℕ → ℤ) → shadow (each ℤ (SInt w32).own_val row us)
    → shadow (each ℤ (SInt w16).own_val result ws) → ((j : ℕ) → j < 8 → FitsSigned w16 (f j)) → row ≡ lanes f
    → (((j : ℕ) → j < 8 → FitsSigned w16 (lane (map (to_z w32) (map (of_z w32) row)) j))
    → result ≡ map (to_z w32) (map (of_z w32) row))
    → map (to_z w16) (map (of_z w16) result) ≡ lanes f
narrowed_row row result us ws f wide narrow fits is told = search (rules, kept_words, kept_halves, lane-lanes)

-- four times sixteen make 64
pub by_sixteen : (P : ℕ → Type 0) → ((j : ℕ) → j < 16 → P (0 + j)) → ((j : ℕ) → j < 16 → P (16 + j))
    → ((j : ℕ) → j < 16 → P (32 + j)) → ((j : ℕ) → j < 16 → P (48 + j)) → (k : ℕ) → k < 64 → P k
by_sixteen P a b c d k h = go (k / 16) refl
  where
    go : (q : ℕ) → k / 16 ≡ q → P k
    go zero e = subst P (omega (arith, e)) (a (k % 16) (omega arith))
    go (suc zero) e = subst P (omega (arith, e)) (b (k % 16) (omega arith))
    go (suc (suc zero)) e = subst P (omega (arith, e)) (c (k % 16) (omega arith))
    go (suc (suc (suc zero))) e = subst P (omega (arith, e)) (d (k % 16) (omega arith))
    go (suc (suc (suc (suc n)))) e = absurd (omega (arith, e, h))

-- sixteen lanes that are the same, one by one
pub sixteen_same : (f g : ℕ → ℤ) → ((j : ℕ) → j < 16 → f j ≡ g j) → sixteen f ≡ sixteen g
sixteen_same f g same = search rules

-- the test of a coefficient, where its limit is one of a table
pub limit_told : (z limit : ℤ) (q : ℕ) → limit ≡ pos (1095 / max q 1)
    → (IsLimit limit → pos (unsigned_abs z) ≤ℤ limit) → unsigned_abs z ≤ 1095 / max q 1
limit_told z limit q e told = grind (arith, common_steps, unsigned_abs, div-le_self)

pub ruleset narrow = (common_steps, narrowed_row)

-- ---- pairs

pub paired_fits : (v : List ℤ) (f g : ℕ → ℤ) → v ≡ paired f g → ((j : ℕ) → FitsSigned w16 (get_or v j (pos 0)))
    → (j : ℕ) → j < 8 → FitsSigned w16 (f j) × FitsSigned w16 (g j)
paired_fits v f g e fits =
    let at = λ (k : ℕ). subst (λ (l : List ℤ). FitsSigned w16 (get_or l k (pos 0))) e (fits k) in
    eight_cases (λ j. FitsSigned w16 (f j) × FitsSigned w16 (g j)) (at 0, at 1) (at 2, at 3) (at 4, at 5) (at 6, at 7)
    (at 8, at 9) (at 10, at 11) (at 12, at 13) (at 14, at 15)

pub sixteen_fits : (v : List ℤ) (f : ℕ → ℤ) → v ≡ sixteen f → ((j : ℕ) → FitsSigned w16 (get_or v j (pos 0)))
    → (j : ℕ) → j < 16 → FitsSigned w16 (f j)
sixteen_fits v f e fits j h =
    subst (FitsSigned w16) (ap (λ (l : List ℤ). get_or l j (pos 0)) e
    ∙ get_or-map-range_with_len f 0 16 j j (pos 0) h (omega arith)) (fits j)

-- pairs that went to their bits and back
pub paired_kept : (f g : ℕ → ℤ) → ((j : ℕ) → j < 8 → FitsSigned w16 (f j)) → ((j : ℕ) → j < 8 → FitsSigned w16 (g j))
    → map (to_z w16) (map (of_z w16) (paired f g)) ≡ paired f g
paired_kept f g ff fg =
    let a = λ (j : ℕ) (h : j < 8). to_z-of_z w16 (f j) (ff j h) in
    let b = λ (j : ℕ) (h : j < 8). to_z-of_z w16 (g j) (fg j h) in
    λ i. a 0 (lit< tt) i ∷ b 0 (lit< tt) i ∷ a 1 (lit< tt) i ∷ b 1 (lit< tt) i ∷ a 2 (lit< tt) i ∷ b 2 (lit< tt) i
    ∷ a 3 (lit< tt) i ∷ b 3 (lit< tt) i ∷ a 4 (lit< tt) i ∷ b 4 (lit< tt) i ∷ a 5 (lit< tt) i ∷ b 5 (lit< tt) i
    ∷ a 6 (lit< tt) i ∷ b 6 (lit< tt) i ∷ a 7 (lit< tt) i ∷ b 7 (lit< tt) i ∷ []

widened : (z : ℤ) → FitsSigned w16 z → of_z w32 (to_z w16 (of_z w16 z)) ≡ residue z
widened z f = search (rules, of_z, residue_bits, to_z-of_z)

-- two products, added
pub pair_element : (a b p q : ℤ) → FitsSigned w16 a → FitsSigned w16 b → FitsSigned w32 p → FitsSigned w32 q
    → to_z w32 ((of_z w32 (to_z w16 (of_z w16 a)) * of_z w32 p % 4294967296
    + of_z w32 (to_z w16 (of_z w16 b)) * of_z w32 q % 4294967296) % 4294967296)
    ≡ int_wrap w32 (a *ℤ p +ℤ b *ℤ q)
pair_element a b p q fa fb fp fq =
    simp (widened a fa, widened b fb, residue_bits p fp, residue_bits q fq, residue_mul, residue_add, read_residue) refl

-- a number of 16 bits, and its complement
pub kept_bits : (z : ℤ) → FitsSigned w16 z → to_z w16 (bit_xor (of_z w16 z) 0) ≡ z
kept_bits z f = ap (to_z w16) (xor_zero_r (of_z w16 z)) ∙ to_z-of_z w16 z f

ones_less : (n : ℕ) → n < 65536 → bit_xor n 65535 ≡ 65535 - n
ones_less n h =
    let sum = xor_add_and n 65535 in
    let same : bit_and n 65535 ≡ n = and_mask n 16 ∙ mod-eq_of_lt h in
    omega (arith, sum, same)

complement_of : (z : ℤ) → FitsSigned w16 z → 65535 - of_z w16 z ≡ of_z w16 (negsuc 0 -ℤ z)
complement_of (pos n) f = omega (arith, ints, f.sfits)
complement_of (negsuc n) f = omega (arith, ints, f.sfits)

pub turned_bits : (z : ℤ) → FitsSigned w16 z → to_z w16 (bit_xor (of_z w16 z) 65535) ≡ negsuc 0 -ℤ z
turned_bits z f =
    ap (to_z w16) (ones_less (of_z w16 z) (of_z-lt z f) ∙ complement_of z f)
    ∙ to_z-of_z w16 (negsuc 0 -ℤ z) (complement_fits z f)
  where
    of_z-lt : (y : ℤ) → FitsSigned w16 y → of_z w16 y < 65536
    of_z-lt (pos n) h = omega (arith, ints, h.sfits)
    of_z-lt (negsuc n) h = omega (arith, ints, h.sfits)

    complement_fits : (y : ℤ) → FitsSigned w16 y → FitsSigned w16 (negsuc 0 -ℤ y)
    complement_fits (pos n) h =
        let e : negsuc 0 -ℤ pos n ≡ negsuc n = omega (arith, ints) in
        let f : FitsSigned w16 (negsuc n) = record { sfits = omega (arith, h.sfits) } in
        subst (FitsSigned w16) (sym e) f
    complement_fits (negsuc n) h =
        let e : negsuc 0 -ℤ negsuc n ≡ pos n = omega (arith, ints) in
        let f : FitsSigned w16 (pos n) = record { sfits = omega (arith, h.sfits) } in
        subst (FitsSigned w16) (sym e) f

-- ---- bytes

all_fit : (xs : List ℤ) → Each1 (FitsSigned w16) xs → (j : ℕ) → FitsSigned w16 (get_or xs j (pos 0))
all_fit [] each j = record { sfits = lit< tt }
all_fit (x ∷ xs) each zero = each.0
all_fit (x ∷ xs) each (suc j) = all_fit xs each.1 j

-- the halves of two vectors, by turns
pub halves_signed : {a b : List ℤ} → AreLanes w16 a → AreLanes w16 b
    → IsSigned w16 16 (pick_l 0 (map (of_z w16) a ++ map (of_z w16) b)
    (0 ∷ 1 ∷ 2 ∷ 3 ∷ 8 ∷ 9 ∷ 10 ∷ 11 ∷ 4 ∷ 5 ∷ 6 ∷ 7 ∷ 12 ∷ 13 ∷ 14 ∷ 15 ∷ []))
    (λ j. get_or (halves (lane a) (lane b)) j (pos 0))
unfolding lanes
halves_signed {a} {b} la lb = record {
  is = λ i. pick_l 0 (map (of_z w16) (own_lanes a la.long i) ++ map (of_z w16) (own_lanes b lb.long i))
      (0 ∷ 1 ∷ 2 ∷ 3 ∷ 8 ∷ 9 ∷ 10 ∷ 11 ∷ 4 ∷ 5 ∷ 6 ∷ 7 ∷ 12 ∷ 13 ∷ 14 ∷ 15 ∷ []);
  fits = all_fit (halves (lane a) (lane b)) (la.fits 0, (la.fits 1, (la.fits 2, (la.fits 3, (lb.fits 0, (lb.fits 1, (lb.fits 2, (lb.fits 3, (la.fits 4, (la.fits 5, (la.fits 6, (la.fits 7, (lb.fits 4, (lb.fits 5, (lb.fits 6, (lb.fits 7, tt))))))))))))))));
}

-- a number clamped to a byte
kept_byte : (z : ℤ) → kept (pos 0) (pos 255) z ≡ pos (clamped z)
kept_byte z = grind (arith, common_steps, choice, cond)

pub signed_bytes : {n : ℕ} {v : List ℕ} (f : ℕ → ℤ) → IsSigned w16 n v (λ j. kept (pos 0) (pos 255) (f j))
    → map (λ a. unsigned_abs (to_z w16 a)) v ≡ map (λ j. clamped (f j)) (range_with_len 0 n)
signed_bytes {n} {v} f s =
    ap (map (λ a. unsigned_abs (to_z w16 a))) s.is
    ∙ map-map (λ a. unsigned_abs (to_z w16 a)) (λ j. of_z w16 (kept (pos 0) (pos 255) (f j))) (range_with_len 0 n)
    ∙ (λ i. map (λ j. unsigned_abs (to_z-of_z w16 (kept (pos 0) (pos 255) (f j)) (s.fits j) i)) (range_with_len 0 n))
    ∙ (λ i. map (λ j. unsigned_abs (kept_byte (f j) i)) (range_with_len 0 n))

pub clamped_small : (z : ℤ) → clamped z < 256
clamped_small (pos n) = omega arith
clamped_small (negsuc n) = lit< tt

pub bytes_fit : {n : ℕ} {v : List ℕ} (f : ℕ → ℤ) → IsSigned w16 n v (λ j. kept (pos 0) (pos 255) (f j))
    → Each1 (λ a. T (non_neg (to_z w16 a)) × Fits w8 (unsigned_abs (to_z w16 a))) v
bytes_fit f s = each_signed s _ (λ j.
    subst (λ y. T (non_neg y) × Fits w8 (unsigned_abs y))
    (sym (to_z-of_z w16 (kept (pos 0) (pos 255) (f j)) (s.fits j) ∙ kept_byte (f j)))
    (tt, record { fits = clamped_small (f j) }))

-- the lanes of eight lines, by columns, in the order of two vectors
abbrev pub low_lanes : List ℕ → List ℕ → List ℕ
low_lanes l r =
    pick_l 0 (l ++ r)
    (0 ∷ 1 ∷ 2 ∷ 3 ∷ 32 ∷ 33 ∷ 34 ∷ 35 ∷ 4 ∷ 5 ∷ 6 ∷ 7 ∷ 36 ∷ 37 ∷ 38 ∷ 39 ∷ 16 ∷ 17 ∷ 18 ∷ 19 ∷ 48 ∷ 49 ∷ 50 ∷ 51
    ∷ 20 ∷ 21 ∷ 22 ∷ 23 ∷ 52 ∷ 53 ∷ 54 ∷ 55 ∷ [])

abbrev pub high_lanes : List ℕ → List ℕ → List ℕ
high_lanes l r =
    pick_l 0 (l ++ r)
    (8 ∷ 9 ∷ 10 ∷ 11 ∷ 40 ∷ 41 ∷ 42 ∷ 43 ∷ 12 ∷ 13 ∷ 14 ∷ 15 ∷ 44 ∷ 45 ∷ 46 ∷ 47 ∷ 24 ∷ 25 ∷ 26 ∷ 27 ∷ 56 ∷ 57 ∷ 58
    ∷ 59 ∷ 28 ∷ 29 ∷ 30 ∷ 31 ∷ 60 ∷ 61 ∷ 62 ∷ 63 ∷ [])

abbrev pub eight_from : ℕ → List ℕ → List ℕ
eight_from k v = pick_l 0 (v ++ v) (range_with_len k 8)

-- what stands in a line of eight
abbrev pub eight : (ℕ → ℕ → ℕ) → ℕ → List ℕ
eight f y = f 0 y ∷ f 1 y ∷ f 2 y ∷ f 3 y ∷ f 4 y ∷ f 5 y ∷ f 6 y ∷ f 7 y ∷ []

pub at_eight : (f : ℕ → ℕ → ℕ) (y x : ℕ) → x < 8 → get_or (eight f y) x 0 ≡ f x y
at_eight f y x h = eight_cases (λ i. get_or (eight f y) i 0 ≡ f i y) refl refl refl refl refl refl refl refl x h

-- ---- sums that are shifted

-- the lanes of a vector of wrapped numbers, shifted to the right
pub shifted_lanes : (v : List ℤ) (s : ℕ) (g : ℕ → ℤ) → v ≡ lanes (λ j. int_wrap w32 (g j))
    → map (to_z w32) (zip2 (λ a b. of_z w32 (int_shr (to_z w32 a) b)) (map (of_z w32) v) (replicate 8 s))
    ≡ lanes (λ j. int_shr (int_wrap w32 (g j)) s)
unfolding lanes
shifted_lanes v s g e =
    grind (arith, common_steps, map-map, zip2_of_maps, splat_is_map, shifted_back, to_z-of_z, SFits-int_wrap)

-- ---- the columns

small_product : (z : ℤ) (q : ℕ) → unsigned_abs z ≤ 1095 / max q 1 → unsigned_abs (z *ℤ pos q) ≤ 1095
small_product z q h = grind (arith, common_steps)

pub small_input : (coefficients : List ℤ) (quantization : List ℕ) → HasShortProducts coefficients
    quantization
    → (row column : ℕ) → row < 8 → column < 8 → unsigned_abs (dequantized coefficients quantization row column) ≤ 1095
unfolding dequantized
small_input coefficients quantization within row column h h' = search (rules, small_product)

abbrev sizes_below : (ℕ → ℕ) → ℕ → ℕ
sizes_below e zero = 0
sizes_below e (suc n) = sizes_below e n + e n

sum_size : (f : ℕ → ℤ) (e : ℕ → ℕ) (n : ℕ) → ((k : ℕ) → k < n → unsigned_abs (f k) ≤ e k)
    → unsigned_abs (sum_below f n) ≤ sizes_below e n
sum_size f e zero h = omega arith
sum_size f e (suc n) h =
    let before = sum_size f e n (λ k l. h k (omega arith)) in
    let last = h n (omega arith) in
    omega (arith, ints, before, last)

-- the magnitudes of a row of the matrix add up to at most 30610
row_size : (row : ℕ) → row < 8 → sizes_below (λ k. unsigned_abs (basis row k) * 1095) 8 ≤ 33517950
unfolding basis
row_size = search (rules, eight_cases, lit≤)

small_sum : (s : ℕ → ℤ) → ((k : ℕ) → k < 8 → unsigned_abs (s k) ≤ 1095) → (row : ℕ) → row < 8
    → unsigned_abs (transformed s row) ≤ 33517950
unfolding transformed
small_sum s h row l =
    let sum = sum_size (λ k. basis row k *ℤ s k) (λ k. unsigned_abs (basis row k) * 1095) 8 (λ k l'.
    let product = mul-le-mul_left (unsigned_abs (basis row k)) (h k l') in
    omega (arith, unsigned_abs-mul (basis row k) (s k), product)) in
    let size = row_size row l in
    omega (arith, sum, size)

shifted_short : (z : ℤ) → unsigned_abs z ≤ 33518462 → FitsSigned w16 (int_shr z 10)
shifted_short (pos n) h = record { sfits = omega (arith, h) }
shifted_short (negsuc n) h = record { sfits = omega (arith, h) }

-- the general case of a column's value holds of a flat column too
pub value_is : (coefficients : List ℤ) (quantization : List ℕ) → HasShortProducts coefficients
    quantization
    → (row column : ℕ) → row < 8 → column < 8
    → int_shr (int_wrap w32 (transformed (λ k. dequantized coefficients quantization k column) row +ℤ pos 512)) 10
    ≡ column_value coefficients quantization row column
value_is coefficients quantization within row column h h' = by_flat (is_flat_column coefficients column) refl
  where
    first : unsigned_abs (dequantized coefficients quantization 0 column) ≤ 1095
    first = small_input coefficients quantization within 0 column (lit< tt) h'

    by_flat : (t : Bool) → is_flat_column coefficients column ≡ t
        → int_shr (int_wrap w32 (transformed (λ k. dequantized coefficients quantization k column) row +ℤ pos 512)) 10
        ≡ column_value coefficients quantization row column
    by_flat true e = sym (zero_column coefficients quantization row column h e (omega (arith, ints, first))
        (omega (arith, ints, first)))
    by_flat false e = sym (other_value coefficients quantization row column e)

pub value_fits : (coefficients : List ℤ) (quantization : List ℕ) → HasShortProducts coefficients
    quantization
    → (row column : ℕ) → row < 8 → column < 8 → FitsSigned w16 (column_value coefficients quantization row column)
value_fits coefficients quantization within row column h h' =
    let z = transformed (λ k. dequantized coefficients quantization k column) row +ℤ pos 512 in
    let small = small_sum (λ k. dequantized coefficients quantization k column)
    (λ k l. small_input coefficients quantization within k column l h') row h in
    let most : unsigned_abs z ≤ 33518462 = omega (arith, ints, small) in
    subst (FitsSigned w16) (ap (λ y. int_shr y 10) (sym (int_wrap_fits w32 z
    (fits_signed_from_abs w32 z (omega (arith, most))))) ∙ value_is coefficients quantization within row column h h')
    (shifted_short z most)

-- a row of the columns' values
pub value_row : (coefficients : List ℤ) (quantization : List ℕ) → HasShortProducts coefficients
    quantization → (row : ℕ) → row < 8 → (v : List ℤ)
    → v ≡ lanes (λ j. int_wrap w32 (transformed (λ k. dequantized coefficients quantization k j) row +ℤ pos 512))
    → map (to_z w32) (zip2 (λ a b. of_z w32 (int_shr (to_z w32 a) b)) (map (of_z w32) v) (replicate 8 10))
    ≡ lanes (column_value coefficients quantization row)
value_row coefficients quantization within row h v e =
    shifted_lanes v 10 (λ j. transformed (λ k. dequantized coefficients quantization k j) row +ℤ pos 512) e
    ∙ lanes_same _ _ (λ j h'. value_is coefficients quantization within row j h h')

-- ---- the lines

shifted_line : (z : ℤ) → FitsSigned w32 z → FitsSigned w16 (int_shr z 17)
shifted_line (pos n) f = record { sfits = omega (arith, f.sfits) }
shifted_line (negsuc n) f = record { sfits = omega (arith, f.sfits) }

pub line_fits : (f : ℕ → ℕ → ℤ) (y x : ℕ) → FitsSigned w16 (line_value f y x)
unfolding line_value
line_fits f y x = shifted_line _ (SFits-int_wrap w32 (transformed (f y) x +ℤ pos 16842752))

-- a column of the lines
pub line_row : (f : ℕ → ℕ → ℤ) (x : ℕ) (v : List ℤ)
    → v ≡ lanes (λ y. int_wrap w32 (transformed (λ k. f y k) x +ℤ pos 16842752))
    → map (to_z w32) (zip2 (λ a b. of_z w32 (int_shr (to_z w32 a) b)) (map (of_z w32) v) (replicate 8 17))
    ≡ lanes (λ y. line_value f y x)
unfolding line_value
line_row f x v e = shifted_lanes v 17 (λ y. transformed (f y) x +ℤ pos 16842752) e

pub lane_at_is : (rows : Rows) (f : ℕ → ℕ → ℤ) → HasNumbers rows f → (k j : ℕ) → k < 8 → j < 8
    → lane_at rows k j ≡ f k j
lane_at_is rows f e k j hk hj = search (rules, eight_cases, lane-lanes)

module _ (coefficients : List ℤ) (quantization : List ℕ) (rows : Rows) (flat below : List ℤ)
    (is_flat : AreLanes w32 flat) (is_below : AreLanes w32 below)
    (zero_where : (j : ℕ) → j < 8 → lane_is_zero below j ≡ is_flat_column coefficients j)
    (flat_is : flat
    ≡ lanes (λ j. int_wrap w32 (pos 4 *ℤ dequantized coefficients quantization 0 j)))
    (products : HasNumbers rows (dequantized coefficients quantization)) where
  -- a row of the columns' values, as the kernel chooses it
  pub column_row : (row : ℕ) (sums : List ℤ) → AreLanes w32 sums
      → sums ≡ lanes (λ j. int_wrap w32 (transformed (λ k. lane_at rows k j) row +ℤ pos 512))
      → map (to_z w32) (sel_l (map (top 31) (zip2 (λ a b. cond (eqb a b) 4294967295 0)
      (map (of_z w32) below)
      (replicate 8 0))) (map (of_z w32) flat)
      (zip2 (λ a b. of_z w32 (int_shr (to_z w32 a) b)) (map (of_z w32) sums) (replicate 8 10)))
      ≡ lanes (λ j. column_value coefficients quantization row j)
  unfolding column_value
  column_row row sums is_sums sums_are =
      let zeros : IsSigned w32 8 (replicate 8 0) (λ _. pos 0) = signed_splat w32 0 (pos 0) refl (omega (arith, ints)) in
      let given = λ (v : List ℤ) (is : AreLanes w32 v). signed_given v is.long is.fits in
      signed_lanes (signed_by eqb (given below is_below) zeros (given flat is_flat)
      (signed_shr 10 (given sums is_sums)))
      ∙ lanes_same _ _ (λ j h.
      let zero = bits_zero (lane below j) (is_below.fits j) ∙ zero_where j h in
      let sum = lane-lanes sums _ sums_are j h ∙ ap (λ z. int_wrap w32 (z +ℤ pos 512))
      (transformed_same _ _ row (λ k hk. lane_at_is rows _ products k j hk h)) in
      λ i. cond (zero i) (lane-lanes flat _ flat_is j h i) (int_shr (sum i) 10))

rows_column : (rows : Rows) (f : ℕ → ℕ → ℤ) → HasNumbers rows f → (k : ℕ) → k < 8
    → column_of rows k ≡ lanes (λ j. f j k)
unfolding lanes
rows_column rows f e k h = search (rules, lane-lanes)

pub turned_numbers : (rows turned : Rows) (f : ℕ → ℕ → ℤ) → HasNumbers rows f → IsTurned rows turned
    → HasNumbers turned (λ k j. f j k)
turned_numbers rows turned f e t = grind (arith, common_steps, rows_column, lit<)

-- the sums of rows that stand turned, where their numbers are known
pub sums_numbers : (turned rows : Rows) (f : ℕ → ℕ → ℤ) → HasNumbers turned (λ k j. f j k)
    → HasNumbers rows (λ y x. int_wrap w32 (transformed (λ k. lane_at turned k y) x +ℤ pos 16842752))
    → HasNumbers rows (λ y x. int_wrap w32 (transformed (f y) x +ℤ pos 16842752))
sums_numbers turned rows f numbers sums =
    let row = λ (y : ℕ) (h : y < 8). lanes_same
    (λ x. int_wrap w32 (transformed (λ k. lane_at turned k y) x +ℤ pos 16842752))
    (λ x. int_wrap w32 (transformed (f y) x +ℤ pos 16842752)) (λ x _. ap (λ z. int_wrap w32 (z +ℤ pos 16842752))
    (transformed_same (λ k. lane_at turned k y) (f y) x
    (λ k hk. lane_at_is turned (λ k j. f j k) numbers k y hk h))) in
    grind (arith, row, lit<)

-- rows, read
pub ruleset rows = (kept_words, kept_halves, eight_cases, lane-lanes)
