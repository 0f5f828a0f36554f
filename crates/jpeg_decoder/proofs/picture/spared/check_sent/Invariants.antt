use Rattle.jpeg_segments.specs.FrameView.{frame_in}
use Rattle.jpeg_decoder.specs.Steps.{with_decoded}
use Rattle.jpeg_decoder.proofs.Pictures.SentComponents.{AreSentTo}
use Rattle.jpeg_decoder.proofs.picture.spared.check_sent.Given as goal

abbrev pub invariant-loop-index : goal.invariant-loop-index
invariant-loop-index l = AreSentTo l.index (with_decoded l.fn.state l.fn.decoded) (frame_in l.fn.frame)
