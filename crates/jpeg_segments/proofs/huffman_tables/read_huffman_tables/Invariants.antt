use Rattle.std.proofs.Common.{◌≡◌, ◌≤◌, ℕ, List, true, length}
use Rattle.jpeg_segments.specs.HuffmanTables.{tables_from, all_ac}
use Rattle.jpeg_segments.specs.Parts.{dht_onto}
use Rattle.jpeg_bits.proofs.Loops.{Continues}
use Rattle.jpeg_segments.proofs.huffman_tables.read_huffman_tables.Given as goal

abbrev pub invariant-loop-left : goal.invariant-loop-left
invariant-loop-left g l = record {
  dc : length l.dc ≡ 4;
  ac : length l.ac ≡ 4;
  classes : all_ac l.fn.ac ≡ true → all_ac l.ac ≡ true;
  rest : (turns : ℕ) × (l.left ≤ turns)
      × Continues (dht_onto l.fn.is_baseline (record { dc = l.fn.dc; ac = l.fn.ac })) l.fn.reader
      (λ (bs : List ℕ). tables_from turns l.greatest l.left (record { dc = l.dc; ac = l.ac }) bs)
      l.reader;
}

abbrev pub decreases-loop-left : goal.decreases-loop-left
decreases-loop-left g l = l.left
