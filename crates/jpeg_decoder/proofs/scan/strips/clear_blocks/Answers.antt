use Rattle.std.proofs.Common.{◌∙◌, ap, set, length, replicate, [], sym, List, ℤ, pos, arith}
use Rattle.std.proofs.lemmas.List.{length-replicate, get_or-replicate}
use Rattle.jpeg_meaning.proofs.InPlace.{patched-next, patched-all}
use Rattle.jpeg_decoder.proofs.scan.strips.clear_blocks.Goals as goal
use Rattle.std.proofs.lemmas.Grind.{common_steps}

pub loop-block-preserved : goal.loop-block-preserved
loop-block-preserved c =
    let old = c.args.blocks.now in
    let i = c.loop-block.block-index in
    let zero = replicate 64 (pos 0) in
    let new = replicate (length old) zero in
    ap (λ (l : List (List ℤ)). set l i zero) c.loop-block.invariant
    ∙ patched-next new old i zero [] (length-replicate (length old) zero) c.loop-block-test.true (sym
    (get_or-replicate (length old) i zero [] c.loop-block-test.true))

pub returns : goal.returns
returns c = grind (arith, common_steps, pos, patched-all, length-replicate)
