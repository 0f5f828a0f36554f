use Rattle.std.proofs.Common.{◌≡◌, ◌≤◌, ℕ, List, length}
use Rattle.jpeg_segments.specs.Quantization.{dqt_at, quantization_from}
use Rattle.jpeg_bits.proofs.Loops.{Continues}
use Rattle.jpeg_segments.proofs.quantization.parse_dqt.Given as goal

abbrev pub invariant-loop-left : goal.invariant-loop-left
invariant-loop-left g l = record {
  len : length l.tables ≡ 4;
  rest : (turns : ℕ) × (l.left ≤ turns)
      × Continues dqt_at l.fn.reader (λ (bs : List ℕ). quantization_from turns l.left l.tables bs)
      l.reader;
}

abbrev pub decreases-loop-left : goal.decreases-loop-left
decreases-loop-left g l = l.left
