-- Elements of lists, and lines in one list.
use Rattle.std.proofs.lemmas.Grind.{common_steps}
use Rattle.std.proofs.Common.{arith, ◌≡◌, ◌+◌, ◌*◌, ◌<◌, ◌∙◌, ℕ, zero, suc, List, [], ◌∷◌, sym}
use Rattle.std.proofs.Common.{drop, get_or, length, length-append, slice_index, add-mul, one-mul}
use Rattle.std.specs.List.{concat}
use Rattle.std.proofs.lemmas.List.{drop_more, get_or-append_right, get_or_append_left}
use Rattle.jpeg_lossless.specs.Positions.{AreEven, at_position}

-- an element of a list, and what stands after it
pub dropped : {A : Type 0} (xs : List A) (i : ℕ) (x : A) → i < length xs → x ≡ get_or xs i x
    → drop i xs ≡ x ∷ drop (i + 1) xs
dropped xs i x h e = drop_more xs i x h ∙ (λ j. sym e j ∷ drop (i + 1) xs)

-- ---- lines of the same length, and all of them in one list

pub even-at : (w : ℕ) (lines : List (List ℕ)) (y : ℕ) → AreEven w lines → y < length lines
    → length (get_or lines y []) ≡ w
unfolding AreEven
even-at w (l ∷ lines) zero even h = even.0
even-at w (l ∷ lines) (suc y) even h = even-at w lines y even.1 (omega arith)
even-at w _ y even h = absurd (omega arith)

pub flat-length : (w : ℕ) (lines : List (List ℕ)) → AreEven w lines
    → length (concat lines) ≡ length lines * w
unfolding AreEven
flat-length w [] even = let e : 0 ≡ 0 * w = omega arith in e
flat-length w (l ∷ lines) even =
    grind (arith, common_steps, add-mul, one-mul, length-append, flat-length w lines even.1)

pub at-flat : (w x : ℕ) (lines : List (List ℕ)) (y : ℕ) → AreEven w lines → y < length lines → x < w
    → slice_index (concat lines) (y * w + x) ≡ at_position lines x y
unfolding AreEven
at-flat w x [] y even h k = absurd (omega arith)
at-flat w x (l ∷ lines) zero even h k = grind (arith, common_steps, get_or_append_left)
at-flat w x (l ∷ lines) (suc y) even h k =
    let rest = at-flat w x lines y even.1 (omega arith) k in
    grind (arith, common_steps, one-mul, add-mul, get_or-append_right)
