-- One more sample of two bytes is turned.
use Rattle.std.proofs.Common.{◌≡◌, ◌∙◌, ℕ, zero, suc, ◌+◌, ◌*◌, ◌<◌, length, List, [], ◌∷◌, refl, ap, arith, get_or}
use Rattle.std.proofs.Common.{set}
use Rattle.std.specs.List.{swap}
use Rattle.std.proofs.lemmas.Grind.{get_or_default_zero}
use Rattle.zaxbriar_samples.specs.Netpbm.{first_turned}

-- two elements in each other's place
abbrev swapped : List ℕ → ℕ → ℕ → List ℕ
swapped xs i j = set (set xs i (get_or xs j 0)) j (get_or xs i 0)

swap-swapped : (xs : List ℕ) (i j : ℕ) → i < length xs → j < length xs → swap xs i j ≡ swapped xs i j
swap-swapped [] i j hi hj = refl
swap-swapped (d ∷ xs) i j hi hj = rw (get_or_default_zero (d ∷ xs) i d hi, get_or_default_zero (d ∷ xs) j d hj) refl

deeper : (low high : ℕ) (xs : List ℕ) (i j k l : ℕ) → k ≡ suc (suc i) → l ≡ suc (suc j)
    → swapped (low ∷ high ∷ xs) k l ≡ low ∷ high ∷ swapped xs i j
deeper low high xs i j k l hk hl =
    ap (λ (n : ℕ). swapped (low ∷ high ∷ xs) n l) hk ∙ ap (λ (n : ℕ). swapped (low ∷ high ∷ xs) (suc (suc i)) n) hl

turned-length : (count : ℕ) (xs : List ℕ) → length (first_turned count xs) ≡ length xs
unfolding first_turned
turned-length zero xs = refl
turned-length (suc count) [] = refl
turned-length (suc count) (low ∷ []) = refl
turned-length (suc count) (low ∷ high ∷ more) = ap (λ n. suc (suc n)) (turned-length count more)

one-swapped : (index : ℕ) (xs : List ℕ) → 2 * index + 1 < length xs
    → swapped (first_turned index xs) (2 * index) (2 * index + 1) ≡ first_turned (suc index) xs
unfolding first_turned
one-swapped index [] h = absurd (let n : ⊥ = omega arith in n)
one-swapped index (low ∷ []) h = absurd (let n : ⊥ = omega arith in n)
one-swapped zero (low ∷ high ∷ more) h = refl
one-swapped (suc index) (low ∷ high ∷ more) h =
    let first : 2 * suc index ≡ suc (suc (2 * index)) = omega arith in
    let second : 2 * suc index + 1 ≡ suc (suc (2 * index + 1)) = omega arith in
    let room : 2 * index + 1 < length more = omega arith in
    deeper high low (first_turned index more) (2 * index) (2 * index + 1) (2 * suc index) (2 * suc
    index + 1) first
    second
    ∙ ap (λ (ys : List ℕ). high ∷ low ∷ ys) (one-swapped index more room)

pub one-more : (index : ℕ) (xs : List ℕ) → 2 * index + 1 < length xs
    → swap (first_turned index xs) (2 * index) (2 * index + 1) ≡ first_turned (index + 1) xs
one-more index xs h =
    let same = turned-length index xs in
    let next : index + 1 ≡ suc index = omega arith in
    rw (
      swap-swapped (first_turned index xs) (2 * index) (2 * index + 1) (rw same (omega arith)) (rw
          same h),
      next,
    ) (one-swapped index xs h)
