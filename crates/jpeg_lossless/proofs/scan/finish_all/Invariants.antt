use Rattle.std.proofs.Common.{◌≡◌, ◌++◌, map, take, drop, length}
use Rattle.jpeg_lossless.specs.Codings.{part_in}
use Rattle.jpeg_lossless.specs.PlanesRead.{cut_planes}
use Rattle.jpeg_lossless.proofs.scan.finish_all.Given as goal

abbrev pub invariant-loop-i : goal.invariant-loop-i
invariant-loop-i l = record {
  count : length l.planes ≡ length l.fn.planes;
  planes : take l.i (map (λ v. v.items) l.planes) ++ cut_planes l.point_transform (drop l.i (map part_in l.parts))
      (drop l.i (map (λ v. v.items) l.planes))
      ≡ cut_planes l.point_transform (map part_in l.parts) (map (λ v. v.items) l.fn.planes);
}
