use Rattle.std.proofs.Common.{◌≡◌, ◌++◌, drop, length, map, take}
use Rattle.jpeg_segments.specs.FrameView.{frame_in}
use Rattle.jpeg_decoder.specs.PlanesView.{planes_in}
use Rattle.jpeg_decoder.specs.Reaching.{planes_over}
use Rattle.jpeg_decoder.proofs.scan.samples.complete_all.Given as goal

abbrev pub invariant-loop-slot : goal.invariant-loop-slot
invariant-loop-slot l = record {
  count : length l.planes.items ≡ length l.indices;
  planes : take l.slot (map (λ v. v.items) l.planes.items)
      ++ planes_over (frame_in l.frame) (planes_in l.earlier) (drop l.slot l.indices)
      (drop l.slot (map (λ v. v.items) l.planes.items))
      ≡ planes_over (frame_in l.frame) (planes_in l.earlier) l.indices (map (λ v. v.items) l.fn.planes.items);
}
