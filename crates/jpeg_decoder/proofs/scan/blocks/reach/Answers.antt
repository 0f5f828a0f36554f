use Rattle.std.proofs.Common.{ap, length, List}
use Rattle.jpeg_bits.specs.Passes.{Block}
use Rattle.jpeg_decoder.proofs.Kept.BlockArrays.{arrays-same, sizes-put}
use Rattle.jpeg_decoder.proofs.scan.blocks.reach.Goals as goal

pub returns-clause-arrays : goal.returns-clause-arrays
returns-clause-arrays c =
    arrays-same c.args.arrays.now.items c.args.spot.slot c.index_mut.result.now c.reach.new.self
    c.index_mut.ensures.value c.reach.ensures.blocks

pub returns-clause-sizes : goal.returns-clause-sizes
returns-clause-sizes c =
    sizes-put c.args.arrays.now.items c.args.spot.slot c.index_mut.result.now c.reach.new.self
    (ap (λ (b : List Block). length b) c.reach.ensures.blocks) c.index_mut.ensures.value
