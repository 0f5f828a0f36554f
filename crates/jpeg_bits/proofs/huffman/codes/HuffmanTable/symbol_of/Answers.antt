use Rattle.std.proofs.Common.{ap}
use Rattle.jpeg_bits.specs.Codes.{Table, code_in, lengths_from}
use Rattle.jpeg_bits.specs.Written.{low_bits}
use Rattle.jpeg_bits.specs.ShortCodes.{symbol_in}
use Rattle.jpeg_bits.proofs.huffman.codes.HuffmanTable.symbol_of.Goals as goal

pub returns-in-None-clause-symbol : goal.returns-in-None-clause-symbol
unfolding code_in lengths_from
returns-in-None-clause-symbol c =
    ap (λ (t : Table). symbol_in t (low_bits 16 c.args.bits)) (rw c.in-None.is at c.self.view_is)
