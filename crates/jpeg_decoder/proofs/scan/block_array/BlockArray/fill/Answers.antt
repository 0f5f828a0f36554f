use Rattle.std.proofs.Common.{arith}
use Rattle.jpeg_decoder.proofs.Kept.BlockArrays.{all-stored}
use Rattle.jpeg_decoder.proofs.scan.block_array.BlockArray.fill.Goals as goal

pub returns-in_ok-store-clause-full : goal.returns-in_ok-store-clause-full
returns-in_ok-store-clause-full c =
    all-stored c.store.new.self (omega (arith, c.in_ok-store.ensures.stored, c.in_ok-store.ensures.count))

pub returns-else-len-self-clause-full : goal.returns-else-len-self-clause-full
returns-else-len-self-clause-full c =
    all-stored c.args.self.now
    (omega (arith, c.if-len-self.false, c.len.ensures, c.args.self.now.blocks.ok.0))
