use Rattle.std.proofs.Common.{ℕ, List, [], map, All}
use Rattle.jpeg_segments.specs.Frame.{IsInRange, components_from}
use Rattle.jpeg_segments.specs.FrameView.{factors_of}
use Rattle.jpeg_bits.proofs.Loops.{Continues}
use Rattle.jpeg_segments.proofs.frame_header.read_components.Given as goal

abbrev pub invariant-loop-left : goal.invariant-loop-left
invariant-loop-left g l = record {
  rest : Continues (components_from l.lossless l.fn.count []) l.fn.source (λ (bs : List ℕ). components_from l.lossless
      l.left (map factors_of l.components.items) bs) l.source;
  factors : All IsInRange (map factors_of l.components.items);
}

abbrev pub decreases-loop-left : goal.decreases-loop-left
decreases-loop-left g l = l.left
