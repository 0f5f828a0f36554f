-- How many outputs a sample stands for by the rule of its component, and that samples reach the last output.
use Rattle.std.proofs.lemmas.Bool.Decides.{nat_tests}
use Rattle.std.proofs.Common.{◌≡◌, ◌≤◌, ◌<◌, ℕ, zero, suc, ◌+◌, ◌-◌, ◌*◌, ◌/◌, true, Some, rules}
use Rattle.std.proofs.Common.{◌⊎◌, inl, inr, ap, sym, subst, arith}
use Rattle.std.specs.Prelude.{◌==◌, ◌||◌}
use Rattle.std.proofs.Math.Nat.{add-mul, div-add-mod, mul_assoc, mul_comm, le_of_mul-le-mul_left}
use Rattle.std.proofs.Math.Nat.{mul-le-mul, mul-le-mul_right}
use Rattle.std.proofs.lemmas.Bool.{eqb-true}
use Rattle.jpeg_segments.specs.Frame.{ceiling}
use Rattle.jpeg_segments.proofs.Ceilings.{ceiling-eights, ceiling-low, ceiling-le}
use Rattle.jpeg_pixels.specs.declared.upsample_rows.UpsampleRule.{UpsampleRule}
use Rattle.jpeg_pixels.specs.Upsampling.{across, divides, down, rule_of}

-- ---- samples at a scale

pub some-ceiling : (a b : ℕ) → 0 < a → 0 < b → 0 < ceiling a b
some-ceiling a b some h = search (rules, ceiling-low)

-- the samples of a line stand in its blocks
pub in-blocks : (s size factor most : ℕ) → 0 < most
    → ceiling (size * factor * s) (most * 8) ≤ (ceiling size (8 * most) * factor) * s
in-blocks s size factor most some =
    let b = ceiling size (8 * most) in
    let low : size ≤ (8 * most) * b = ceiling-low size (8 * most) (omega arith) in
    let wide : size * factor * s ≤ ((8 * most) * b) * factor * s = mul-le-mul_right s (mul-le-mul_right factor low) in
    let e : ((8 * most) * b) * factor * s ≡ (most * 8) * ((b * factor) * s)
    = search (rules, mul_assoc, mul_comm) in
    ceiling-le (size * factor * s) (most * 8) ((b * factor) * s) (omega arith) (omega (arith, wide, e))

pub room-of : (columns lines stride most : ℕ) → 0 < lines → columns ≤ stride → lines ≤ most
    → (lines - 1) * stride + columns ≤ most * stride
room-of columns zero stride most some inside within = absurd (omega arith)
room-of columns (suc k) stride most some inside within = search (rules, add-mul, mul-le-mul_right)

-- ---- ratios

-- k outputs a sample: the greatest factor is k times this one, or there is one output
pub record Ratio (factor most outputs k : ℕ) : Type 0 where
  pub some : 0 < k
  pub is : (most ≡ factor * k) ⊎ ((outputs ≡ 1) × (k ≡ 1))

-- the samples reach the last output
pub reach-end : (size factor most s k : ℕ) → 0 < size → 0 < factor → 0 < most → 0 < s
    → Ratio factor most (ceiling (size * s) 8) k
    → ceiling (size * s) 8 ≤ k * ceiling (size * factor * s) (most * 8)
reach-end size factor most s k hs hf hm ss r = go r.is
  where
    c : ℕ
    c = ceiling (size * factor * s) (most * 8)

    product : 0 < size * factor * s
    product =
        let a : 1 * 1 ≤ size * factor = mul-le-mul hs hf in
        let one : 1 ≤ size * factor = omega arith in
        let b : 1 * 1 ≤ size * factor * s = mul-le-mul one ss in
        omega arith

    go : (most ≡ factor * k) ⊎ ((ceiling (size * s) 8 ≡ 1) × (k ≡ 1))
        → ceiling (size * s) 8 ≤ k * ceiling (size * factor * s) (most * 8)
    go (inr e) =
        let p = some-ceiling (size * factor * s) (most * 8) product (omega arith) in
        let k1 = e.1 in
        let q : k * ceiling (size * factor * s) (most * 8) ≡ 1 * ceiling (size * factor * s) (most * 8) =
        ap (λ (x : ℕ). x * ceiling (size * factor * s) (most * 8)) k1 in
        let e0 = e.0 in omega arith
    go (inl e) =
        let low : size * factor * s ≤ (most * 8) * c = ceiling-low (size * factor * s) (most * 8) (omega arith) in
        let p : (most * 8) * c ≡ factor * (8 * (k * c)) = omega (arith, ap (λ n. n * 8 * c) e) in
        let q : size * factor * s ≡ factor * (size * s) = omega arith in
        ceiling-le (size * s) 8 (k * c) (omega arith) (le_of_mul-le-mul_left (omega (arith, low, p, q)) hf)

-- and at full size, which is scale 8
pub reach-full : (size factor most k : ℕ) → 0 < size → 0 < factor → 0 < most → Ratio factor most size k
    → size ≤ k * ceiling (size * factor) most
reach-full size factor most k hs hf hm r =
    let one : ceiling (size * 8) 8 ≡ size = omega arith in
    let reach = reach-end size factor most 8 k hs hf hm (omega arith)
    (subst (λ (n : ℕ). Ratio factor most n k) (sym one) r) in
    subst (λ (n : ℕ). n ≤ k * ceiling (size * factor) most) one
    (subst (λ (n : ℕ). ceiling (size * 8) 8 ≤ k * n) (ceiling-eights (size * factor) most hm) reach)

-- ---- rules

ratio-1 : (h m n : ℕ) → (h == m || n == 1) ≡ true → Ratio h m n 1
ratio-1 h m n = search (rules, eqb-true)

ratio-2 : (h m n : ℕ) → (2 * h == m) ≡ true → Ratio h m n 2
ratio-2 h m n e = let p : 2 * h ≡ m = eqb-true (2 * h) m e in record { some = omega arith; is = inl (omega arith) }

ratio-any : (h m n : ℕ) → 0 < m → divides h m ≡ true → Ratio h m n (m / h)
ratio-any h m n some e = search (rules, div-add-mod, eqb-true)

pub record Ratios (h v mh mv width height : ℕ) (rule : UpsampleRule) : Type 0 where
  pub columns : Ratio h mh width (across rule)
  pub lines : Ratio v mv height (down rule)

pub rule-ratios : (h v mh mv width height : ℕ) (rule : UpsampleRule) → 0 < mh → 0 < mv
    → rule_of h v mh mv width height ≡ Some rule → Ratios h v mh mv width height rule
unfolding rule_of
rule-ratios h v mh mv width height rule sh sv is = grind (arith, nat_tests, ratio-1, ratio-2, ratio-any)
