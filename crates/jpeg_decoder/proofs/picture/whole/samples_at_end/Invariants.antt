use Rattle.std.proofs.Common.{◌≡◌, drop, length, map}
use Rattle.std.specs.List.{enumerate_from}
use Rattle.jpeg_segments.proofs.Gathered.{Gathers}
use Rattle.jpeg_segments.specs.FrameView.{frame_in}
use Rattle.jpeg_decoder.specs.PlanesView.{planes_in}
use Rattle.jpeg_decoder.proofs.LosslessFrames.LosslessReads.{sample_plane}
use Rattle.jpeg_decoder.proofs.picture.whole.samples_at_end.Given as goal

abbrev pub invariant-loop-index : goal.invariant-loop-index
invariant-loop-index l = record {
  left : drop l.index (planes_in l.decoded.samples) ≡ drop l.index (planes_in l.fn.decoded.samples);
  given : Gathers (sample_plane (planes_in l.fn.decoded.samples)) (enumerate_from 0 (frame_in l.fn.frame).components)
      l.index (map (λ v. v.items) l.planes.items);
  count : length l.planes.items ≡ l.index;
}
