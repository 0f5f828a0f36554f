use Rattle.std.proofs.Common.{◌≡◌, ℕ, List, ◌∷◌, ◌++◌, drop}
use Rattle.jpeg_bits.specs.Marker.{next_marker}
use Rattle.jpeg_bits.proofs.source.buffer.unmarked.Given as goal

abbrev pub invariant-loop-i : goal.invariant-loop-i
invariant-loop-i l = record {
  same : (rest : List ℕ) → next_marker (l.first ∷ (l.bytes ++ rest)) ≡ next_marker (l.previous ∷ (drop l.i l.bytes ++ rest));
}
