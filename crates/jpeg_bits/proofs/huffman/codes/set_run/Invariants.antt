use Rattle.std.proofs.Common.{◌≡◌, ◌++◌, drop, replicate}
use Rattle.jpeg_bits.proofs.huffman.codes.set_run.Given as goal

abbrev pub invariant-loop-entry : goal.invariant-loop-entry
invariant-loop-entry l = l.run ≡ replicate l.entry-index l.code ++ drop l.entry-index l.fn.run
