use Rattle.jpeg_decoder.proofs.Kept.BlockArrays.{none-stored}
use Rattle.jpeg_decoder.proofs.scan.block_array.BlockArray.none.Goals as goal

pub returns : goal.returns
returns c = none-stored (record { blocks = c.new.result; count = 0 }) c.new.ensures.items
