-- Fill bytes before a marker (T.81, B.1.1.2).
use Rattle.std.proofs.Common.{◌≡◌, ℕ, zero, suc, List, ◌∷◌, ◌++◌, replicate, refl, ap, ◌∙◌}

-- fill bytes went
pub record IsFilled (old new : List ℕ) : Type 0 where
  pub fill : ℕ
  pub parts : old ≡ replicate fill 255 ++ new

fill-first : (n : ℕ) (rest : List ℕ) → replicate n 255 ++ 255 ∷ rest ≡ 255 ∷ (replicate n 255 ++ rest)
fill-first zero rest = refl
fill-first (suc n) rest = ap (λ (l : List ℕ). 255 ∷ l) (fill-first n rest)

pub one-filled : {old new rest : List ℕ} (b : ℕ) → IsFilled old new → new ≡ b ∷ rest → b ≡ 255 → IsFilled old rest
one-filled {old} {new} {rest} b f e h = record {
  fill = suc f.fill;
  parts = f.parts
      ∙ ap (λ (l : List ℕ). replicate f.fill 255 ++ l) (e ∙ ap (λ (x : ℕ). x ∷ rest) h) ∙ fill-first f.fill rest;
}
