-- Rows that an iterator gives.
use Rattle.std.proofs.Common.{◌≡◌, ℕ, ◌<◌, ℤ, List, [], ◌∷◌, ◌++◌, get_or, Option, Some, None, refl}
use Rattle.std.proofs.Common.{sym, subst, ap, rules}
use Rattle.std.specs.declared.vec.Vec.{Vec}
use Rattle.std.specs.declared.alloc.Global.{Global}
use Rattle.std.specs.Iterator.{Yields, HoldsAlong}
use Rattle.jpeg_pixels.specs.Workers.{Work, AreRows, IsRowAt, with_row, with_rows}

-- one more item
pub yields_more : {S A : Type 0} (steps : S → Option A → S → Type 0) (s t u : S) (xs : List A) (x : A)
    → Yields steps s xs t → steps t (Some x) u → Yields steps s (xs ++ x ∷ []) u
yields_more steps s t u [] x e h = (u, subst (λ v. steps v (Some x) u) (sym e) h, refl)
yields_more steps s t u (y ∷ xs) x r h = (r.0, r.1, yields_more steps r.0 t u xs x r.2 h)

pub with_rows_more : (indices : List (Option Work)) (rows : List (ℕ × Vec ℤ Global)) (row : ℕ × Vec
    ℤ Global)
    → with_rows indices (rows ++ row ∷ []) ≡ with_row (with_rows indices rows) row.0 row.1.items
with_rows_more indices [] row = refl
with_rows_more indices (r ∷ rows) row = with_rows_more (with_row indices r.0 r.1.items) rows row

pub last_is_row : (indices : List (Option Work)) (rows : List (ℕ × Vec ℤ Global)) (row : ℕ × Vec ℤ
    Global)
    → AreRows indices (rows ++ row ∷ []) → (row.0 < 4) × IsRowAt (get_or (with_rows indices rows)
    row.0 None) row.1.items
last_is_row indices [] row are = (are.0, are.1)
last_is_row indices (r ∷ rows) row are = last_is_row (with_row indices r.0 r.1.items) rows row are.2

-- the first of some rows
are_first : (indices : List (Option Work)) (rows more : List (ℕ × Vec ℤ Global)) → AreRows indices
    (rows ++ more)
    → AreRows indices rows
are_first indices [] more are = tt
are_first indices (r ∷ rows) more are = (
  are.0,
  are.1,
  are_first (with_row indices r.0 r.1.items)
      rows more are.2,
)

-- what an iterator has given is the first of what was left
given_first : {S A : Type 0} (steps : S → Option A → S → Type 0) (left : S → List A)
    → ((s : S) (x : A) (t : S) → steps s (Some x) t → left s ≡ x ∷ left t)
    → (s t : S) (xs : List A) → Yields steps s xs t → left s ≡ xs ++ left t
given_first steps left go s t [] e = ap left e
given_first steps left go s t (x ∷ xs) r = search (rules, given_first steps left go r.0 t xs r.2)

-- an iterator over some rows
pub rows_along : {S : Type 0} (steps : S → Option (ℕ × Vec ℤ Global) → S → Type 0) (left : S → List (ℕ × Vec ℤ Global))
    → ((s : S) (x : ℕ × Vec ℤ Global) (t : S) → steps s (Some x) t → left s ≡ x ∷ left t)
    → (s : S) (indices : List (Option Work)) → AreRows indices (left s) → HoldsAlong steps s
    (AreRows indices)
rows_along steps left go s indices are = λ xs t r. are_first indices xs (left t)
    (subst (AreRows indices) (given_first steps left go s t xs r) are)
