use Rattle.std.proofs.Common.{◌≡◌, length, map}
use Rattle.jpeg_segments.specs.FrameView.{frame_in}
use Rattle.jpeg_decoder.proofs.Pictures.OwnPlanes.{owned_to}
use Rattle.jpeg_decoder.proofs.picture.planes.own_planes.Given as goal

abbrev pub invariant-loop-index : goal.invariant-loop-index
invariant-loop-index l = record {
  count : length l.planes.items ≡ length l.fn.planes.items;
  owned : map (λ v. v.items) l.planes.items
      ≡ owned_to l.index (frame_in l.fn.frame).components (map (λ v. v.items) l.fn.planes.items);
}
