-- Lists whose elements are replaced one after the other, and lists that grow element by element.
use Rattle.std.proofs.Common.{rules, ◌≡◌, ℕ, zero, suc, ◌+◌, ◌<◌, ◌≤◌, List, [], ◌∷◌, ◌++◌, take}
use Rattle.std.proofs.Common.{drop, length, get_or, set, refl, ap, arith, ◌*◌}
use Rattle.std.proofs.Math.Nat.{mul-le-mul_left, mul-le-mul_right}

-- the first elements of one list, and the others of another
abbrev pub patched : {A : Type 0} → ℕ → List A → List A → List A
patched i new old = take i new ++ drop i old

pub patched-next : {A : Type 0} (new old : List A) (i : ℕ) (x d : A) → length new ≡ length old → i < length old → x
    ≡ get_or new i d → set (patched i new old) i x ≡ patched (i + 1) new old
patched-next (a ∷ new) (b ∷ old) (suc i) x d e h f = search (rules, patched-next new old i)
patched-next new old i x d e h f = search rules

pub patched-all : {A : Type 0} (new old : List A) (i : ℕ) → length new ≡ length old → length old ≤ i
    → patched i new old ≡ new
patched-all [] [] zero e h = refl
patched-all [] [] (suc i) e h = refl
patched-all (a ∷ new) (b ∷ old) (suc i) e h = ap (λ l. a ∷ l) (patched-all new old i (omega arith) (omega arith))
patched-all new old i e h = absurd (omega arith)

-- after those that are replaced stands what stood there
pub patched-at : {A : Type 0} (new old : List A) (i : ℕ) (d : A) → length new ≡ length old
    → get_or (patched i new old) i d ≡ get_or old i d
patched-at [] [] zero d e = refl
patched-at [] [] (suc i) d e = refl
patched-at (a ∷ new) (b ∷ old) zero d e = refl
patched-at (a ∷ new) (b ∷ old) (suc i) d e = patched-at new old i d (omega arith)
patched-at new old i d e = absurd (omega arith)

-- ---- a list of what some elements give

pub patched-length : {A : Type 0} (new old : List A) (i : ℕ) → length new ≡ length old → length (patched i new old)
    ≡ length old
patched-length [] [] zero e = refl
patched-length [] [] (suc i) e = refl
patched-length (a ∷ new) (b ∷ old) zero e = refl
patched-length (a ∷ new) (b ∷ old) (suc i) e = ap (λ (n : ℕ). suc n) (patched-length new old i (omega arith))
patched-length new old i e = absurd (omega arith)

pub small-side : (n s : ℕ) → n ≤ 65535 → s ≤ 8 → n * s ≤ 524280
small-side n s h i = search (rules, mul-le-mul_left, mul-le-mul_right)
