use Rattle.std.proofs.Common.{◌∙◌, ap, List, ℕ, set, arith}
use Rattle.std.proofs.lemmas.Grind.{common_steps}
use Rattle.jpeg_bits.proofs.ShortLemmas.{run-next}
use Rattle.jpeg_bits.proofs.huffman.codes.set_run.Goals as goal

pub loop-entry-preserved : goal.loop-entry-preserved
loop-entry-preserved c =
    let i = c.loop-entry.entry-index in
    ap (λ (l : List ℕ). set l i c.args.code) c.loop-entry.invariant
    ∙ run-next c.args.run.now i c.args.code c.loop-entry-test.true

pub returns : goal.returns
returns c = grind (arith, common_steps)
