use Rattle.std.proofs.Common.{arith}
use Rattle.jpeg_decoder.proofs.Kept.BlockArrays.{seen-count}
use Rattle.jpeg_decoder.proofs.scan.block_array.BlockArray.reach.Goals as goal

pub end_after-requires : goal.end_after-requires
end_after-requires c =
    let within = c.requires in
    omega (arith, within, seen-count c.args.self.now, c.if-index-len.false, c.len.ensures, c.args.self.now.blocks.ok.0)
