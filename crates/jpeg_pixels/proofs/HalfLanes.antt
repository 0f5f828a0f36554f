-- Lanes in two halves, and the two passes of the transform to 4x4 samples.
use Rattle.std.proofs.Common.{◌≡◌, ℕ, ◌+◌, ◌%◌, ◌<◌, List, [], ◌∷◌, ℤ, pos, neg_ℤ, ◌+ℤ◌, ◌-ℤ◌, ◌*ℤ◌}
use Rattle.std.proofs.Common.{arith, ap, ◌∙◌, refl, get_or, ◌++◌, cond, replicate, to_z, map}
use Rattle.std.proofs.Common.{negsuc, sym, subst, min, unsigned_abs, of_z, FitsSigned}
use Rattle.std.proofs.lemmas.Int.{to_z-of_z, ints, int_wrap-add_left, int_wrap-add_right, int_wrap-sub_right}
use Rattle.std.specs.Int.{Width, w8, w32, int_wrap, int_shr}
use mir.Val.{Fits}
use lib.Dec.{T}
use lib.Signed.{non_neg}
use Rattle.jpeg_pixels.proofs.ShortLanes.{choice, clamped_small, IsSigned, signed_chosen, signed_splat}
use Rattle.std.specs.Int.Signed.{lt_z}
use lib.Lanes.{sel_l, top, zip2}
use Rattle.jpeg_pixels.specs.Lanes.{lanes, lane}
use Rattle.jpeg_pixels.specs.Blocks.{WritesBlock}
use Rattle.jpeg_pixels.specs.Samples.{clamped}
use Rattle.jpeg_pixels.specs.Scaled.{even_part, odd_part, column_by}
use Rattle.jpeg_pixels.specs.HalfRows.{by_half, upper, lower, row_sum}
use Rattle.jpeg_pixels.proofs.LaneSums.{lane-lanes, lanes_same}
use Rattle.jpeg_pixels.proofs.Sums.{eight_cases}
use Rattle.std.proofs.lemmas.Bool.Decides.{nat_tests}

-- what two products bring to a lane
abbrev pub weighed : (f g : ℕ → ℤ) (l r m n : ℤ) (bias : ℤ) → ℕ → ℤ
weighed f g l r m n bias j = f j *ℤ by_half l r j +ℤ g j *ℤ by_half m n j +ℤ bias

pub weighed_lanes : (v a p b q : List ℤ) (f g : ℕ → ℤ) (l r m n bias : ℤ)
    → v ≡ lanes (λ j. int_wrap w32 (lane a j *ℤ lane p j +ℤ lane b j *ℤ lane q j +ℤ bias))
    → a ≡ lanes f → p ≡ lanes (by_half l r) → b ≡ lanes g → q ≡ lanes (by_half m n)
    → v ≡ lanes (λ j. int_wrap w32 (weighed f g l r m n bias j))
weighed_lanes v a p b q f g l r m n bias is ea ep eb eq =
    is ∙ lanes_same _ _ (λ j h. λ i. int_wrap w32 (lane-lanes a f ea j h i *ℤ lane-lanes p (by_half l r) ep j h i
    +ℤ lane-lanes b g eb j h i *ℤ lane-lanes q (by_half m n) eq j h i +ℤ bias))

-- two vectors added, and subtracted
pub added_lanes : (v a b : List ℤ) (f g h : ℕ → ℤ) → v ≡ lanes (λ j. int_wrap w32 (lane a j +ℤ lane b j)) → a ≡ lanes f
    → b ≡ lanes g → ((j : ℕ) → j < 8 → int_wrap w32 (f j +ℤ g j) ≡ h j) → v ≡ lanes h
added_lanes v a b f g h is ea eb same =
    is ∙ lanes_same _ _ (λ j l. (λ i. int_wrap w32 (lane-lanes a f ea j l i +ℤ lane-lanes b g eb j l i)) ∙ same j l)

pub taken_lanes : (v a b : List ℤ) (f g h : ℕ → ℤ) → v ≡ lanes (λ j. int_wrap w32 (lane a j -ℤ lane b j)) → a ≡ lanes f
    → b ≡ lanes g → ((j : ℕ) → j < 8 → int_wrap w32 (f j -ℤ g j) ≡ h j) → v ≡ lanes h
taken_lanes v a b f g h is ea eb same =
    is ∙ lanes_same _ _ (λ j l. (λ i. int_wrap w32 (lane-lanes a f ea j l i -ℤ lane-lanes b g eb j l i)) ∙ same j l)

-- ---- the columns

-- what the even and the odd rows of a column bring, at a lane
abbrev pub even_lane : (ℕ → ℕ → ℤ) → ℕ → ℤ
even_lane s j = int_wrap w32
    (weighed (λ j. s 0 (j % 4)) (λ j. s 2 (j % 4)) (pos 4) (pos 4) (pos 4) (neg_ℤ (pos 4)) (pos 0) j)

abbrev pub odd_lane : (ℕ → ℕ → ℤ) → ℕ → ℤ
odd_lane s j = int_shr (int_wrap w32 (weighed (λ j. s 1 (j % 4)) (λ j. s 3 (j % 4)) (pos 5352) (pos 2217) (pos 2217)
    (neg_ℤ (pos 5350)) (pos 512) j)) 10

module _ (a b d e : ℤ) where
  four_times : a *ℤ pos 4 +ℤ d *ℤ pos 4 +ℤ pos 0 ≡ pos 4 *ℤ (a +ℤ d)
  four_times = omega (arith, ints)

  four_apart : a *ℤ pos 4 +ℤ d *ℤ neg_ℤ (pos 4) +ℤ pos 0 ≡ pos 4 *ℤ (a -ℤ d)
  four_apart = omega (arith, ints)

  outer_odd : (n : ℤ) → b *ℤ pos 5352 +ℤ e *ℤ pos 2217 +ℤ n ≡ pos 5352 *ℤ b +ℤ pos 2217 *ℤ e +ℤ n
  outer_odd n = omega (arith, ints)

  inner_odd : (n : ℤ) → b *ℤ pos 2217 +ℤ e *ℤ neg_ℤ (pos 5350) +ℤ n ≡ pos 2217 *ℤ b -ℤ pos 5350 *ℤ e +ℤ n
  inner_odd n = omega (arith, ints)

  outer_even : (n : ℤ) → a *ℤ pos 4096 +ℤ d *ℤ pos 4096 +ℤ n ≡ pos 4096 *ℤ (a +ℤ d) +ℤ n
  outer_even n = omega (arith, ints)

  inner_even : (n : ℤ) → a *ℤ pos 4096 +ℤ d *ℤ neg_ℤ (pos 4096) +ℤ n ≡ pos 4096 *ℤ (a -ℤ d) +ℤ n
  inner_even n = omega (arith, ints)

-- an even part that was wrapped, with an odd part
plus : (x y a b : ℤ) → x ≡ y → a ≡ b → int_wrap w32 (int_wrap w32 x +ℤ a) ≡ int_wrap w32 (y +ℤ b)
plus x y a b e f = int_wrap-add_left w32 x a ∙ (λ i. int_wrap w32 (e i +ℤ f i))

minus : (x y a b : ℤ) → x ≡ y → a ≡ b → int_wrap w32 (int_wrap w32 x -ℤ a) ≡ int_wrap w32 (y -ℤ b)
minus x y a b e f = int_wrap-add_left w32 x (neg_ℤ a) ∙ (λ i. int_wrap w32 (e i -ℤ f i))

tenth : (x y : ℤ) → x ≡ y → int_shr (int_wrap w32 x) 10 ≡ int_shr (int_wrap w32 y) 10
tenth x y e = ap (λ z. int_shr (int_wrap w32 z) 10) e

module _ (s : ℕ → ℕ → ℤ) where
  abbrev Upper : ℕ → Type 0
  Upper j = int_wrap w32 (even_lane s j +ℤ odd_lane s j) ≡ upper (λ row column. column_by (λ k. s k column) row) j

  abbrev Lower : ℕ → Type 0
  Lower j = int_wrap w32 (even_lane s j -ℤ odd_lane s j) ≡ lower (λ row column. column_by (λ k. s k column) row) j

  upper_outer : (c : ℕ) → int_wrap w32 (int_wrap w32 (s 0 c *ℤ pos 4 +ℤ s 2 c *ℤ pos 4 +ℤ pos 0)
      +ℤ int_shr (int_wrap w32 (s 1 c *ℤ pos 5352 +ℤ s 3 c *ℤ pos 2217 +ℤ pos 512)) 10)
      ≡ column_by (λ k. s k c) 0
  unfolding even_part odd_part
  upper_outer c = plus _ _ _ _ (four_times (s 0 c) (s 1 c) (s 2 c) (s 3 c))
      (tenth _ _ (outer_odd (s 0 c) (s 1 c) (s 2 c) (s 3 c) (pos 512)))

  upper_inner : (c : ℕ) → int_wrap w32 (int_wrap w32 (s 0 c *ℤ pos 4 +ℤ s 2 c *ℤ neg_ℤ (pos 4) +ℤ pos 0)
      +ℤ int_shr (int_wrap w32 (s 1 c *ℤ pos 2217 +ℤ s 3 c *ℤ neg_ℤ (pos 5350) +ℤ pos 512)) 10)
      ≡ column_by (λ k. s k c) 1
  unfolding even_part odd_part
  upper_inner c = plus _ _ _ _ (four_apart (s 0 c) (s 1 c) (s 2 c) (s 3 c))
      (tenth _ _ (inner_odd (s 0 c) (s 1 c) (s 2 c) (s 3 c) (pos 512)))

  lower_outer : (c : ℕ) → int_wrap w32 (int_wrap w32 (s 0 c *ℤ pos 4 +ℤ s 2 c *ℤ pos 4 +ℤ pos 0)
      -ℤ int_shr (int_wrap w32 (s 1 c *ℤ pos 5352 +ℤ s 3 c *ℤ pos 2217 +ℤ pos 512)) 10)
      ≡ column_by (λ k. s k c) 3
  unfolding even_part odd_part
  lower_outer c = minus _ _ _ _ (four_times (s 0 c) (s 1 c) (s 2 c) (s 3 c))
      (tenth _ _ (outer_odd (s 0 c) (s 1 c) (s 2 c) (s 3 c) (pos 512)))

  lower_inner : (c : ℕ) → int_wrap w32 (int_wrap w32 (s 0 c *ℤ pos 4 +ℤ s 2 c *ℤ neg_ℤ (pos 4) +ℤ pos 0)
      -ℤ int_shr (int_wrap w32 (s 1 c *ℤ pos 2217 +ℤ s 3 c *ℤ neg_ℤ (pos 5350) +ℤ pos 512)) 10)
      ≡ column_by (λ k. s k c) 2
  unfolding even_part odd_part
  lower_inner c = minus _ _ _ _ (four_apart (s 0 c) (s 1 c) (s 2 c) (s 3 c))
      (tenth _ _ (inner_odd (s 0 c) (s 1 c) (s 2 c) (s 3 c) (pos 512)))

  pub upper_columns : (j : ℕ) → j < 8 → Upper j
  upper_columns = eight_cases Upper (upper_outer 0) (upper_outer 1) (upper_outer 2) (upper_outer 3)
      (upper_inner 0) (upper_inner 1) (upper_inner 2) (upper_inner 3)

  pub lower_columns : (j : ℕ) → j < 8 → Lower j
  lower_columns = eight_cases Lower (lower_outer 0) (lower_outer 1) (lower_outer 2) (lower_outer 3)
      (lower_inner 0) (lower_inner 1) (lower_inner 2) (lower_inner 3)

-- ---- the rows

both_plus : (x y a b : ℤ) → x ≡ y → a ≡ b → int_wrap w32 (int_wrap w32 x +ℤ int_wrap w32 a) ≡ int_wrap w32 (y +ℤ b)
both_plus x y a b e f = int_wrap-add_left w32 x (int_wrap w32 a) ∙ int_wrap-add_right w32 x a
    ∙ (λ i. int_wrap w32 (e i +ℤ f i))

both_minus : (x y a b : ℤ) → x ≡ y → a ≡ b → int_wrap w32 (int_wrap w32 x -ℤ int_wrap w32 a) ≡ int_wrap w32 (y -ℤ b)
both_minus x y a b e f = int_wrap-add_left w32 x (neg_ℤ (int_wrap w32 a)) ∙ int_wrap-sub_right w32 x a
    ∙ (λ i. int_wrap w32 (e i -ℤ f i))

outer_flat : (b e : ℤ) → b *ℤ pos 5352 +ℤ e *ℤ pos 2217 +ℤ pos 0 ≡ pos 5352 *ℤ b +ℤ pos 2217 *ℤ e
outer_flat b e = omega (arith, ints)

inner_flat : (b e : ℤ) → b *ℤ pos 2217 +ℤ e *ℤ neg_ℤ (pos 5350) +ℤ pos 0 ≡ pos 2217 *ℤ b -ℤ pos 5350 *ℤ e
inner_flat b e = omega (arith, ints)

abbrev pub even_sum : (ℕ → ℕ → ℤ) → ℕ → ℤ
even_sum f j = int_wrap w32 (weighed (λ j. f (j % 4) 0) (λ j. f (j % 4) 2) (pos 4096) (pos 4096) (pos 4096)
    (neg_ℤ (pos 4096)) (pos 16842752) j)

abbrev pub odd_sum : (ℕ → ℕ → ℤ) → ℕ → ℤ
odd_sum f j = int_wrap w32 (weighed (λ j. f (j % 4) 1) (λ j. f (j % 4) 3) (pos 5352) (pos 2217) (pos 2217)
    (neg_ℤ (pos 5350)) (pos 0) j)

module _ (f : ℕ → ℕ → ℤ) where
  abbrev Left : ℕ → Type 0
  Left j = int_wrap w32 (even_sum f j +ℤ odd_sum f j) ≡ upper (λ x y. row_sum (f y) x) j

  abbrev Right : ℕ → Type 0
  Right j = int_wrap w32 (even_sum f j -ℤ odd_sum f j) ≡ lower (λ x y. row_sum (f y) x) j

  left_outer : (y : ℕ) → int_wrap w32 (int_wrap w32 (f y 0 *ℤ pos 4096 +ℤ f y 2 *ℤ pos 4096 +ℤ pos 16842752)
      +ℤ int_wrap w32 (f y 1 *ℤ pos 5352 +ℤ f y 3 *ℤ pos 2217 +ℤ pos 0)) ≡ row_sum (f y) 0
  unfolding even_part odd_part
  left_outer y = both_plus _ _ _ _ (outer_even (f y 0) (f y 1) (f y 2) (f y 3) (pos 16842752))
      (outer_flat (f y 1) (f y 3))

  left_inner : (y : ℕ) → int_wrap w32 (int_wrap w32 (f y 0 *ℤ pos 4096 +ℤ f y 2 *ℤ neg_ℤ (pos 4096) +ℤ pos 16842752)
      +ℤ int_wrap w32 (f y 1 *ℤ pos 2217 +ℤ f y 3 *ℤ neg_ℤ (pos 5350) +ℤ pos 0)) ≡ row_sum (f y) 1
  unfolding even_part odd_part
  left_inner y = both_plus _ _ _ _ (inner_even (f y 0) (f y 1) (f y 2) (f y 3) (pos 16842752))
      (inner_flat (f y 1) (f y 3))

  right_outer : (y : ℕ) → int_wrap w32 (int_wrap w32 (f y 0 *ℤ pos 4096 +ℤ f y 2 *ℤ pos 4096 +ℤ pos 16842752)
      -ℤ int_wrap w32 (f y 1 *ℤ pos 5352 +ℤ f y 3 *ℤ pos 2217 +ℤ pos 0)) ≡ row_sum (f y) 3
  unfolding even_part odd_part
  right_outer y = both_minus _ _ _ _ (outer_even (f y 0) (f y 1) (f y 2) (f y 3) (pos 16842752))
      (outer_flat (f y 1) (f y 3))

  right_inner : (y : ℕ) → int_wrap w32 (int_wrap w32 (f y 0 *ℤ pos 4096 +ℤ f y 2 *ℤ neg_ℤ (pos 4096) +ℤ pos 16842752)
      -ℤ int_wrap w32 (f y 1 *ℤ pos 2217 +ℤ f y 3 *ℤ neg_ℤ (pos 5350) +ℤ pos 0)) ≡ row_sum (f y) 2
  unfolding even_part odd_part
  right_inner y = both_minus _ _ _ _ (inner_even (f y 0) (f y 1) (f y 2) (f y 3) (pos 16842752))
      (inner_flat (f y 1) (f y 3))

  pub left_sums : (j : ℕ) → j < 8 → Left j
  left_sums = eight_cases Left (left_outer 0) (left_outer 1) (left_outer 2) (left_outer 3)
      (left_inner 0) (left_inner 1) (left_inner 2) (left_inner 3)

  pub right_sums : (j : ℕ) → j < 8 → Right j
  right_sums = eight_cases Right (right_outer 0) (right_outer 1) (right_outer 2) (right_outer 3)
      (right_inner 0) (right_inner 1) (right_inner 2) (right_inner 3)

  -- ---- columns, as rows of lanes

  pub first_columns : (a b low s0 s1 : List ℤ) → a ≡ lanes (upper f) → b ≡ lanes (lower f)
      → low ≡ lane a 0 ∷ lane b 0 ∷ lane a 1 ∷ lane b 1 ∷ lane a 4 ∷ lane b 4 ∷ lane a 5 ∷ lane b 5 ∷ []
      → s0 ≡ lane low 0 ∷ lane low 4 ∷ lane low 5 ∷ lane low 1 ∷ lane low 0 ∷ lane low 4 ∷ lane low 5 ∷ lane low 1 ∷ []
      → s1 ≡ lane low 2 ∷ lane low 6 ∷ lane low 7 ∷ lane low 3 ∷ lane low 2 ∷ lane low 6 ∷ lane low 7 ∷ lane low 3 ∷ []
      → (s0 ≡ lanes (λ j. f (j % 4) 0)) × (s1 ≡ lanes (λ j. f (j % 4) 1))
  unfolding lanes
  first_columns a b low s0 s1 ea eb is i0 i1 =
      let known : low ≡ f 0 0 ∷ f 3 0 ∷ f 0 1 ∷ f 3 1 ∷ f 1 0 ∷ f 2 0 ∷ f 1 1 ∷ f 2 1 ∷ [] =
      is ∙ (λ i. lane (ea i) 0 ∷ lane (eb i) 0 ∷ lane (ea i) 1 ∷ lane (eb i) 1 ∷ lane (ea i) 4 ∷ lane (eb i) 4
      ∷ lane (ea i) 5 ∷ lane (eb i) 5 ∷ []) in (
        i0 ∙ (λ i. lane (known i) 0 ∷ lane (known i) 4 ∷ lane (known i) 5 ∷ lane (known i) 1 ∷ lane (known i) 0
            ∷ lane (known i) 4 ∷ lane (known i) 5 ∷ lane (known i) 1 ∷ []),
        i1 ∙ (λ i. lane (known i) 2 ∷ lane (known i) 6 ∷ lane (known i) 7 ∷ lane (known i) 3 ∷ lane (known i) 2
            ∷ lane (known i) 6 ∷ lane (known i) 7 ∷ lane (known i) 3 ∷ []),
      )

  pub last_columns : (a b high s2 s3 : List ℤ) → a ≡ lanes (upper f) → b ≡ lanes (lower f)
      → high ≡ lane a 2 ∷ lane b 2 ∷ lane a 3 ∷ lane b 3 ∷ lane a 6 ∷ lane b 6 ∷ lane a 7 ∷ lane b 7 ∷ []
      → s2 ≡ lane high 0 ∷ lane high 4 ∷ lane high 5 ∷ lane high 1 ∷ lane high 0 ∷ lane high 4 ∷ lane high 5
      ∷ lane high 1 ∷ []
      → s3 ≡ lane high 2 ∷ lane high 6 ∷ lane high 7 ∷ lane high 3 ∷ lane high 2 ∷ lane high 6 ∷ lane high 7
      ∷ lane high 3 ∷ []
      → (s2 ≡ lanes (λ j. f (j % 4) 2)) × (s3 ≡ lanes (λ j. f (j % 4) 3))
  unfolding lanes
  last_columns a b high s2 s3 ea eb is i2 i3 =
      let known : high ≡ f 0 2 ∷ f 3 2 ∷ f 0 3 ∷ f 3 3 ∷ f 1 2 ∷ f 2 2 ∷ f 1 3 ∷ f 2 3 ∷ [] =
      is ∙ (λ i. lane (ea i) 2 ∷ lane (eb i) 2 ∷ lane (ea i) 3 ∷ lane (eb i) 3 ∷ lane (ea i) 6 ∷ lane (eb i) 6
      ∷ lane (ea i) 7 ∷ lane (eb i) 7 ∷ []) in (
        i2 ∙ (λ i. lane (known i) 0 ∷ lane (known i) 4 ∷ lane (known i) 5 ∷ lane (known i) 1 ∷ lane (known i) 0
            ∷ lane (known i) 4 ∷ lane (known i) 5 ∷ lane (known i) 1 ∷ []),
        i3 ∙ (λ i. lane (known i) 2 ∷ lane (known i) 6 ∷ lane (known i) 7 ∷ lane (known i) 3 ∷ lane (known i) 2
            ∷ lane (known i) 6 ∷ lane (known i) 7 ∷ lane (known i) 3 ∷ []),
      )

-- the first four of eight, twice
pub twice_lanes : (v w : List ℤ) (f : ℕ → ℤ) → w ≡ lanes f
    → v ≡ lane w 0 ∷ lane w 1 ∷ lane w 2 ∷ lane w 3 ∷ lane w 0 ∷ lane w 1 ∷ lane w 2 ∷ lane w 3 ∷ []
    → v ≡ lanes (λ j. f (j % 4))
unfolding lanes
twice_lanes v w f e is = is ∙ (λ i. lane (e i) 0 ∷ lane (e i) 1 ∷ lane (e i) 2 ∷ lane (e i) 3 ∷ lane (e i) 0
    ∷ lane (e i) 1 ∷ lane (e i) 2 ∷ lane (e i) 3 ∷ [])

-- ---- the samples

pub clamped_by : (v : List ℕ) (sums : List ℤ) (g : ℕ → ℤ) → v ≡ lanes (λ j. clamped (int_shr (lane sums j) 17))
    → sums ≡ lanes g → v ≡ lanes (λ j. clamped (int_shr (g j) 17))
unfolding lanes
clamped_by v sums g is e = is ∙ (λ i. lanes (λ j. clamped (int_shr (lane (e i) j) 17)))

four_cases : (P : ℕ → Type 0) → P 0 → P 1 → P 2 → P 3 → (k : ℕ) → k < 4 → P k
four_cases P h0 h1 h2 h3 k h = grind (arith, nat_tests)

-- a line of two rows of lanes, across
abbrev pub across : List ℕ → List ℕ → ℕ → List ℕ
across left right y = get_or (left ++ right) y 0 ∷ get_or (left ++ right) (4 + y) 0 ∷ get_or (left ++ right) (12 + y) 0
    ∷ get_or (left ++ right) (8 + y) 0 ∷ []

pub across_at : (f : ℕ → ℕ → ℕ) (left right : List ℕ) → left ≡ lanes (upper f) → right ≡ lanes (lower f)
    → (y : ℕ) → y < 4 → (x : ℕ) → x < 4 → get_or (across left right y) x 0 ≡ f x y
unfolding lanes
across_at f left right el er y hy x hx =
    (λ i. get_or (across (el i) (er i) y) x 0) ∙ four_cases (λ y. (x : ℕ) → x < 4 → At x y)
    (four_cases (λ x. At x 0) refl refl refl refl) (four_cases (λ x. At x 1) refl refl refl refl)
    (four_cases (λ x. At x 2) refl refl refl refl) (four_cases (λ x. At x 3) refl refl refl refl) y hy x hx
  where
    At : ℕ → ℕ → Type 0
    At x y = get_or (across (lanes (upper f)) (lanes (lower f)) y) x 0 ≡ f x y

-- a block of which no line is written yet
pub no_line : (stride : ℕ) (f : ℕ → ℕ → ℕ) (old : List ℕ) → WritesBlock 4 0 stride f old old
no_line stride f old = record {
  inside = λ x y hx hy. absurd (omega (arith, hy));
  right = λ x y hx hs hy. absurd (omega (arith, hy));
  below = λ i h. refl;
}

pub scaled_down : (v sums : List ℤ) (g : ℕ → ℤ) → v ≡ lanes (λ j. int_shr (lane sums j) 10) → sums ≡ lanes g
    → v ≡ lanes (λ j. int_shr (g j) 10)
unfolding lanes
scaled_down v sums g is e = is ∙ (λ i. lanes (λ j. int_shr (lane (e i) j) 10))

-- the number of a byte that is nearest, as two choices find it
abbrev pub byte_kept : ℤ → ℤ
byte_kept z = cond (lt_z (cond (lt_z z (pos 0)) (pos 0) z) (pos 255)) (cond (lt_z z (pos 0)) (pos 0) z) (pos 255)

pub byte_lanes : {row : List ℕ} {f : ℕ → ℤ} → IsSigned w32 8 row f
    → IsSigned w32 8 (sel_l (map (top 31) (zip2 (λ m n. cond (lt_z (to_z w32 m) (to_z w32 n)) 4294967295 0)
    (sel_l (map (top 31) (zip2 (λ m n. cond (lt_z (to_z w32 m) (to_z w32 n)) 4294967295 0) row (replicate 8 0)))
    (replicate 8 0) row) (replicate 8 255)))
    (sel_l (map (top 31) (zip2 (λ m n. cond (lt_z (to_z w32 m) (to_z w32 n)) 4294967295 0) row (replicate 8 0)))
    (replicate 8 0) row) (replicate 8 255)) (λ j. byte_kept (f j))
byte_lanes {row} {f} s =
    let zero : IsSigned w32 8 (replicate 8 0) (λ _. pos 0) = signed_splat w32 0 (pos 0) refl (omega (arith, ints)) in
    let full : IsSigned w32 8 (replicate 8 255) (λ _. pos 255) = signed_splat w32 255 (pos 255) refl
    (omega (arith, ints)) in
    let least = signed_chosen s zero zero s in
    signed_chosen least full least full

byte_pos : (n : ℕ) → byte_kept (pos n) ≡ pos (min n 255)
byte_pos n =
    let least : cond (lt_z (pos n) (pos 0)) (pos 0) (pos n) ≡ pos n =
    choice (λ v. v ≡ pos n) (pos n) (pos 0) (pos 0) (pos n) (λ less. absurd (omega (arith, ints, less))) (λ _. refl) in
    (λ i. cond (lt_z (least i) (pos 255)) (least i) (pos 255))
    ∙ choice (λ v. v ≡ pos (min n 255)) (pos n) (pos 255) (pos n) (pos 255)
    (λ less. ap pos (omega (arith, ints, less))) (λ more. ap pos (omega (arith, ints, more)))

pub byte_is : (z : ℤ) → byte_kept z ≡ pos (clamped z)
byte_is (pos n) = byte_pos n
byte_is (negsuc n) = refl

pub byte_fits : {w : Width} (z : ℤ) → FitsSigned w (byte_kept z)
    → T (non_neg (to_z w (of_z w (byte_kept z)))) × Fits w8 (unsigned_abs (to_z w (of_z w (byte_kept z))))
byte_fits {w} z f = subst (λ v. T (non_neg v) × Fits w8 (unsigned_abs v))
    (sym (to_z-of_z w (byte_kept z) f ∙ byte_is z)) (tt, record { fits = clamped_small z })

pub byte_read : {w : Width} (z : ℤ) → FitsSigned w (byte_kept z)
    → unsigned_abs (to_z w (of_z w (byte_kept z))) ≡ clamped z
byte_read {w} z f = ap unsigned_abs (to_z-of_z w (byte_kept z) f ∙ byte_is z)
