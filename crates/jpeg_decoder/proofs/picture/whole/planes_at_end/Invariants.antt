use Rattle.std.proofs.Common.{◌≡◌, drop, length, map}
use Rattle.std.specs.List.{enumerate_from}
use Rattle.jpeg_segments.proofs.Gathered.{Gathers}
use Rattle.jpeg_segments.specs.FrameView.{frame_in}
use Rattle.jpeg_decoder.specs.Scanning.{arrays_in}
use Rattle.jpeg_decoder.specs.Steps.{with_decoded}
use Rattle.jpeg_meaning.specs.FoundPictures.{plane_at_end}
use Rattle.jpeg_decoder.proofs.Pictures.EndedPlanes.{AreWholeWith}
use Rattle.jpeg_decoder.proofs.picture.whole.planes_at_end.Given as goal

abbrev pub invariant-loop-index : goal.invariant-loop-index
invariant-loop-index l = record {
  decided : drop l.index l.decoded.planes ≡ drop l.index l.fn.decoded.planes;
  kept : drop l.index (arrays_in l.decoded.kept.items) ≡ drop l.index (arrays_in l.fn.decoded.kept.items);
  given : Gathers (plane_at_end (with_decoded l.fn.state l.fn.decoded) (frame_in l.fn.frame))
      (enumerate_from 0 (frame_in l.fn.frame).components) l.index (map (λ v. v.items) l.planes.items);
  whole : AreWholeWith (frame_in l.fn.frame).components l.index (map (λ v. v.items) l.planes.items);
  count : length l.planes.items ≡ l.index;
}
