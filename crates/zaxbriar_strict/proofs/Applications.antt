-- The data of application segments: those that a writer emits, and Adobe's with another transform.
use Rattle.std.proofs.Common.{◌≡◌, ℕ, zero, suc, ◌≤◌, ◌<◌, ◌⊎◌, inl, inr, ⊎_elim, true, List, [], ◌++◌}
use Rattle.std.proofs.Common.{drop, get_or, eqb, slice_index, is_some, refl, sym, ap, ◌∙◌, subst, arith, append-nil}
use Rattle.std.proofs.lemmas.Bool.{and_parts, eqb-true, false≢true}
use Rattle.jpeg_bits.proofs.PieceWalks.{by_bool}
use Rattle.jpeg_segments.specs.Application.{transform_by}
use Rattle.jpeg_segments.specs.WrittenSegments.{application_parts, is_known, with_length}
use Rattle.jpeg_segments.proofs.ApplicationParts.{IsOf, app-only}
use Rattle.jpeg_segments.proofs.Codecs.{AreBytes}
use Rattle.jpeg_segments.proofs.OtherSegments.{Names, app, is_adobe, said_by}

-- an Adobe segment (APP14) whose colour transform is none of the three
pub record IsOtherAdobe (number : ℕ) (payload : List ℕ) : Type 0 where
  pub numbered : number ≡ 14
  pub adobe : is_known 14 payload ≡ true
  pub other : 2 < slice_index payload 11

same-payload : (a b : List ℕ) → with_length a ++ [] ≡ with_length b ++ [] → b ≡ a
same-payload a b e =
    let rest : a ++ [] ≡ b ++ [] = ap (λ (l : List ℕ). drop 2 l) e in
    sym (append-nil b) ∙ sym rest ∙ append-nil a

-- data that are read are those that a writer has
of-number : (number : ℕ) (payload : List ℕ) → number ≤ 15 → AreBytes (with_length payload) → Names number payload
    → IsOf number payload
of-number number payload few all named =
    let whole : with_length payload ++ [] ≡ with_length payload = append-nil (with_length payload) in
    let d = app-only number (with_length payload ++ []) [] (said_by number payload) few
    (subst (λ (l : List ℕ). AreBytes l) (sym whole) all) ((app number).reads payload [] named) in
    record {
      value = d.0;
      valid = d.1;
      numbered = d.2;
      written = same-payload payload (application_parts d.0).1 d.4;
    }

transform-or-other : (n : ℕ) → (is_some (transform_by n) ≡ true) ⊎ (2 < n)
transform-or-other zero = inl refl
transform-or-other (suc zero) = inl refl
transform-or-other (suc (suc zero)) = inl refl
transform-or-other (suc (suc (suc n))) = inr (omega arith)

pub application : (number : ℕ) (payload : List ℕ) → number ≤ 15 → AreBytes (with_length payload)
    → IsOf number payload ⊎ IsOtherAdobe number payload
application number payload few all =
    by_bool (is_adobe number payload)
    (λ t. ⊎_elim
    (λ (s : is_some (transform_by (get_or payload 11 0)) ≡ true).
    inl (of-number number payload few all (λ _. s)))
    (λ (o : 2 < get_or payload 11 0). inr (other-adobe t o))
    (transform-or-other (get_or payload 11 0)))
    (λ f. inl (of-number number payload few all (λ t. absurd (false≢true (sym f ∙ t)))))
  where
    other-adobe : is_adobe number payload ≡ true → 2 < get_or payload 11 0 → IsOtherAdobe number payload
    other-adobe t o =
        let p = and_parts (eqb number 14) _ t in
        record { numbered = eqb-true number 14 p.0; adobe = p.1; other = o }
