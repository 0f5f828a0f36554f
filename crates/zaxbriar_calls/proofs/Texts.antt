-- The text of a refusal.
use Rattle.std.proofs.Common.{arith, ◌≡◌, ◌∙◌, ℕ, ◌+◌, ◌-◌, ◌≤◌, ◌++◌, List, ap, drop, take, length, length-take}
use Rattle.std.proofs.Common.{slice_index}
use Rattle.std.specs.Prelude.{get_or, min, replicate}
use Rattle.std.proofs.lemmas.List.{get_or-append_right, get_or-drop, get_or-replicate}
use Rattle.zaxbriar_calls.specs.Faults.{padded}

-- a text ends by a zero
at-end : (n : ℕ) (text : List ℕ) → n ≤ length text → n ≤ 111
    → slice_index (take n text ++ drop n (replicate 112 0)) 111 ≡ 0
at-end n text few fits =
    let front : length (take n text) ≡ n = omega (arith, length-take {A = ℕ}) in
    let at : n + (111 - n) ≡ 111 = omega arith in
    get_or-append_right (take n text) (drop n (replicate 112 0)) n 111 0 front fits
    ∙ get_or-drop n (replicate 112 0) (111 - n) 0
    ∙ ap (λ k. get_or (replicate 112 0) k 0) at
    ∙ get_or-replicate 112 111 0 0 (omega arith)

pub padded-ends : (text : List ℕ) → slice_index (padded text) 111 ≡ 0
padded-ends text = at-end (min (length text) 111) text (omega arith) (omega arith)
