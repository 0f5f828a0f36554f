use Rattle.std.proofs.Common.{◌≡◌, ◌≤◌, ◌+◌, ◌-◌, ℕ, map, length, true}
use Rattle.jpeg_lossless.specs.Codings.{part_in, way_by}
use Rattle.jpeg_lossless.specs.Rows.{planes_after_rows}
use Rattle.jpeg_lossless.specs.PlanesRead.{AreGrown}
use Rattle.jpeg_bits.specs.Entropy.{upcoming}
use Rattle.jpeg_lossless.proofs.Leaves.{Leaves}
use Rattle.jpeg_lossless.proofs.PlaneLoops.{reached_onto}
use Rattle.jpeg_lossless.proofs.scan.LosslessScan.read_rows.Given as goal

abbrev pub invariant-loop-left : goal.invariant-loop-left
invariant-loop-left g l = record {
  count : length l.self.planes.items ≡ length l.fn.self.planes.items;
  left : l.left ≤ l.count;
  long : (k : ℕ) → AreGrown k (map part_in l.coding.parts.now) (map (λ v. v.items) l.fn.self.planes.items)
      → AreGrown (k + (l.count - l.left)) (map part_in l.coding.parts.now) (map (λ v. v.items) l.self.planes.items);
  reads : Leaves (planes_after_rows (way_by l.coding.scan (map part_in l.coding.parts.now)) true l.count
      (map (λ v. v.items) l.fn.self.planes.items)) l.fn.decoder l.fn.source
      (planes_after_rows (way_by l.coding.scan (map part_in l.coding.parts.now)) l.is_first l.left
      (map (λ v. v.items) l.self.planes.items)) l.decoder l.source;
  reached : l.fn.source.known ≡ true → reached_onto (way_by l.coding.scan (map part_in l.coding.parts.now)) true l.count
      (map (λ v. v.items) l.fn.self.planes.items) (upcoming l.fn.decoder l.fn.source.bytes)
      ≡ reached_onto (way_by l.coding.scan (map part_in l.coding.parts.now)) l.is_first l.left
      (map (λ v. v.items) l.self.planes.items) (upcoming l.decoder l.source.bytes);
}

abbrev pub decreases-loop-left : goal.decreases-loop-left
decreases-loop-left g l = l.left
