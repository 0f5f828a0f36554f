-- The first elements of a list.
use Rattle.std.proofs.Common.{◌≡◌, ◌⊎◌, ℕ, ◌-◌, ◌<◌, List, length, take, ap, inl, inr, arith, slice_range}
use Rattle.std.proofs.lemmas.List.{take_all}

pub range-front : {A : Type 0} (xs : List A) (n : ℕ) → slice_range xs 0 n ≡ take n xs
range-front xs n = (let e : n - 0 ≡ n = omega arith in ap (λ (k : ℕ). take k xs) e)

-- where that many are not there, all are taken
pub all-front : {A : Type 0} (xs : List A) (n : ℕ) → (n < 0) ⊎ (length xs < n) → take n xs ≡ xs
all-front xs n (inl h) = absurd (omega (arith, h))
all-front xs n (inr h) = take_all n xs (omega (arith, h))
