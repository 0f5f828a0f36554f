-- A test of each of some numbers that follow one another.
use Rattle.std.proofs.Common.{◌≡◌, ℕ, zero, suc, ◌+◌, ◌<◌, ◌≤◌, Bool, true, refl, arith}
use Rattle.std.proofs.lemmas.Bool.{cases_lt, false≢true}
use Rattle.std.specs.List.{list_all, range_with_len}

pub all_pass : (p : ℕ → Bool) (a n : ℕ) → ((k : ℕ) → a ≤ k → k < a + n → p k ≡ true)
    → list_all p (range_with_len a n) ≡ true
all_pass p a zero h = refl
all_pass p a (suc n) h =
    rw (h a (omega arith) (omega arith), all_pass p (a + 1) n (λ k l m. h k (omega arith) (omega arith))) refl

pub each_passes : (p : ℕ → Bool) (a n k : ℕ) → list_all p (range_with_len a n) ≡ true → a ≤ k → k < a + n
    → p k ≡ true
each_passes p a zero k e l m = absurd (omega arith)
each_passes p a (suc n) k e l m = grind (arith, cases_lt, false≢true, each_passes p (a + 1) n k)
