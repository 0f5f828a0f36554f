use Rattle.jpeg_bits.proofs.blocks.refinement.mask_of.Goals as goal
use Rattle.std.proofs.Common.{ℕ, ◌==◌, List, get_or, map, ◌∙◌, ap}
use Rattle.jpeg_bits.specs.Zigzag.{zigzag}
use Rattle.jpeg_bits.proofs.PieceWalks.{marks, one_or}

pub returns : goal.returns
returns c =
    marks c.bits_of.result c.args.block (λ k.
    c.bits_of.ensures k
    ∙ ap (λ (xs : List ℕ). one_or (get_or xs k 0 == 0)) (c.in_zigzag.ensures
    ∙ ap (λ (xs : List ℕ). map (λ (index : ℕ). get_or xs index 0) zigzag)
    (c.narrowed.ensures ∙ c.marked.ensures)))
