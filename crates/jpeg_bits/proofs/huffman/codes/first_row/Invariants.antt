use Rattle.jpeg_bits.specs.ShortCodes.{ArePassed}
use Rattle.jpeg_bits.proofs.huffman.codes.first_row.Given as goal

abbrev pub invariant-loop-i : goal.invariant-loop-i
invariant-loop-i l = ArePassed l.rows l.from l.bits → ArePassed l.rows l.i l.bits
