use Rattle.std.proofs.Common.{◌≡◌, drop}
use Rattle.std.specs.List.{enumerate_from, fold}
use Rattle.jpeg_segments.specs.FrameView.{frame_in}
use Rattle.jpeg_meaning.specs.Shown.{completed, shown_by}
use Rattle.jpeg_meaning.specs.Sound.{IsSound}
use Rattle.jpeg_decoder.specs.Steps.{with_decoded}
use Rattle.jpeg_decoder.proofs.picture.partial.complete.Given as goal

abbrev pub invariant-loop-index : goal.invariant-loop-index
invariant-loop-index l = record {
  sound : IsSound (with_decoded l.fn.state l.decoded);
  made : fold (shown_by (frame_in l.fn.frame).process (frame_in l.fn.frame))
      (with_decoded l.fn.state l.decoded) (drop l.index (enumerate_from 0 (frame_in l.fn.frame).components))
      ≡ completed (with_decoded l.fn.state l.fn.decoded) (frame_in l.fn.frame);
}
