-- The numbers of coefficients at a level.
use Rattle.std.proofs.Common.{◌≡◌, ℕ, suc, ◌/◌, ◌^◌, List, [], ◌∷◌, map, ap, ap₂, refl, arith, ℤ, pos, negsuc, neg_ℤ}
use Rattle.jpeg_bits.specs.Passes.{Block}
use Rattle.jpeg_meaning.specs.Levels.{floor_at, numbers_at, toward_zero}

-- ---- numbers at level 0

over-one : (n : ℕ) → n / 2 ^ 0 ≡ n
over-one n = omega arith

floor-same : (u : ℤ) → floor_at 0 u ≡ u
floor-same (pos n) = ap pos (over-one n)
floor-same (negsuc n) = ap negsuc (over-one n)

toward-same : (u : ℤ) → toward_zero 0 u ≡ u
toward-same (pos n) = ap pos (over-one n)
toward-same (negsuc n) = ap (λ (k : ℕ). neg_ℤ (pos k)) (over-one (suc n))

acs-same : (us : List ℤ) → map (toward_zero 0) us ≡ us
acs-same [] = refl
acs-same (u ∷ us) = ap₂ (λ (x : ℤ) (l : List ℤ). x ∷ l) (toward-same u) (acs-same us)

pub numbers-same : (b : Block) → numbers_at 0 b ≡ b
numbers-same b = λ i. record { dc = floor-same b.dc i; acs = acs-same b.acs i }
