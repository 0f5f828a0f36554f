use Rattle.std.proofs.Common.{◌≡◌}
use Rattle.jpeg_segments.proofs.huffman_tables.fill_values.Given as goal

abbrev pub invariant-loop-destination : goal.invariant-loop-destination
invariant-loop-destination l = l.tables ≡ l.initial.tables
