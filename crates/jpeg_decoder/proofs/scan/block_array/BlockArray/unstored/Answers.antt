use Rattle.jpeg_decoder.proofs.Kept.BlockArrays.{none-stored}
use Rattle.jpeg_decoder.proofs.scan.block_array.BlockArray.unstored.Goals as goal

pub returns : goal.returns
returns c = none-stored (record { blocks = c.new.result; count = c.args.count }) c.new.ensures.items
