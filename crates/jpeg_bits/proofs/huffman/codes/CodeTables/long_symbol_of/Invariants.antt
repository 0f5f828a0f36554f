use Rattle.jpeg_bits.proofs.huffman.codes.CodeTables.long_symbol_of.Given as goal
use Rattle.std.proofs.Common.{◌≤◌, ◌/◌, ◌^◌, ◌-◌}
use Rattle.jpeg_bits.specs.ShortCodes.{value_after}
use Rattle.jpeg_bits.proofs.CodeLemmas.{NoneYet}

abbrev pub invariant-loop-i : goal.invariant-loop-i
invariant-loop-i l = record {
  above : value_after l.self-inside.counts l.i ≤ l.bits / 2 ^ (16 - l.i);
  none : NoneYet l.self-inside.counts l.bits l.i;
}
