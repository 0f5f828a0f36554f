use Rattle.jpeg_segments.specs.FrameView.{frame_in}
use Rattle.jpeg_decoder.specs.Steps.{with_decoded}
use Rattle.jpeg_decoder.proofs.Partial.ShownParts.{Given}
use Rattle.jpeg_decoder.proofs.picture.partial.missing_fault.Given as goal

abbrev pub invariant-loop-index : goal.invariant-loop-index
invariant-loop-index l = record {
  given : Given (with_decoded l.fn.state l.fn.decoded) (frame_in l.fn.frame) l.index;
}
