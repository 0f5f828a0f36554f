use Rattle.std.proofs.Common.{◌≡◌, ◌≤◌, ℕ, zero, suc, refl, replicate, [], fold, sum, sym, ap, ◌∙◌, ◌+◌, ◌*◌, arith}
use Rattle.std.proofs.lemmas.List.{get_or-replicate, take-replicate}
use Rattle.jpeg_bits.specs.Codes.{code_in, lengths_from}
use Rattle.jpeg_bits.specs.ShortCodes.{HoldsRows, HoldsCodes, value_after, no_row}
use Rattle.jpeg_bits.proofs.CodeLemmas.{same_row}
use Rattle.jpeg_bits.proofs.ShortLemmas.{unpacked_none}
use Rattle.jpeg_bits.proofs.huffman.codes.CodeTables.empty.Goals as goal

no-codes : HoldsCodes (replicate 16 0) [] (replicate 256 0)
unfolding code_in lengths_from
no-codes b lt = unpacked_none _ (get_or-replicate 256 b 0 0 lt)

no-value : (n : ℕ) → fold (λ v c. 2 * v + c) 0 (replicate n 0) ≡ 0
no-value zero = refl
no-value (suc n) = no-value n

no-index : (n : ℕ) → sum (replicate n 0) ≡ 0
no-index zero = refl
no-index (suc n) = no-index n

none-after : (n : ℕ) → n ≤ 16 → value_after (replicate 16 0) n ≡ 0
none-after n le = ap (fold (λ v c. 2 * v + c) 0) (take-replicate n 16 0 le) ∙ no-value n

no-rows : HoldsRows (replicate 16 0) (replicate 16 no_row)
no-rows i lt =
    let end = none-after (i + 1) (omega (arith, lt)) in
    let first = none-after i (omega (arith, lt)) in
    let index = ap sum (take-replicate i 16 0 (omega (arith, lt))) ∙ no-index i in
    get_or-replicate 16 i no_row no_row lt
    ∙ same_row _ _ _ _ _ _ (sym end) (omega (arith, first)) (sym index)

pub invariant_of-result : goal.invariant_of-result
unfolding lengths_from
invariant_of-result c = (refl, refl, no-rows, no-codes, refl, refl, omega arith)
