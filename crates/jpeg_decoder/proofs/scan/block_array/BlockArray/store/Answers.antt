use Rattle.std.proofs.Common.{rules}
use Rattle.jpeg_decoder.proofs.Kept.BlockArrays.{stored-more}
use Rattle.jpeg_decoder.proofs.scan.block_array.BlockArray.store.Goals as goal

pub returns-clause-blocks : goal.returns-clause-blocks
returns-clause-blocks c = search (rules, stored-more)
