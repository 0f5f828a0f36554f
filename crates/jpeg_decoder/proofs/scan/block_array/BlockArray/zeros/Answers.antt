use Rattle.std.proofs.Common.{◌∙◌, ap, length, List}
use Rattle.std.proofs.lemmas.List.{length-replicate}
use Rattle.jpeg_bits.specs.Passes.{Block, zero_block}
use Rattle.jpeg_decoder.proofs.Kept.BlockArrays.{none-stored}
use Rattle.jpeg_decoder.proofs.scan.block_array.BlockArray.zeros.Goals as goal

pub returns-clause-blocks : goal.returns-clause-blocks
returns-clause-blocks c =
    none-stored (record { blocks = c.in_ok-blocks.blocks; count = c.args.count }) c.in_ok-blocks.ensures.items

pub returns-clause-size : goal.returns-clause-size
returns-clause-size c =
    ap (λ (b : List Block). length b) (returns-clause-blocks c) ∙ length-replicate c.args.count zero_block
