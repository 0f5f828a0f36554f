use Rattle.std.proofs.Common.{◌≡◌, ◌≤◌, ◌+◌, ◌-◌, ℕ, map, length}
use Rattle.jpeg_lossless.specs.Codings.{part_in, way_by}
use Rattle.jpeg_bits.proofs.Loops.{Continues}
use Rattle.jpeg_bits.specs.declared.beyond.Beyond.TheVariants.{Nothing, Zeros}
use Rattle.jpeg_lossless.specs.PlanesRead.{AreGrown, intervals_through, planes_intervals}
use Rattle.jpeg_lossless.proofs.ThroughRows.{Goes}
use Rattle.jpeg_lossless.proofs.scan.LosslessScan.read_intervals.Given as goal

abbrev pub invariant-loop-left : goal.invariant-loop-left
invariant-loop-left g l = record {
  count : length l.self.planes.items ≡ length l.fn.self.planes.items;
  turns : l.number + l.left ≤ l.coding.scan.high;
  long : (k : ℕ) → AreGrown k (map part_in l.coding.parts.now) (map (λ v. v.items) l.fn.self.planes.items)
      → AreGrown (k + (l.coding.scan.high - l.left)) (map part_in l.coding.parts.now)
      (map (λ v. v.items) l.self.planes.items);
  reads : l.beyond ≡ Zeros → Continues
      (planes_intervals (l.coding.scan.high + 1) (way_by l.coding.scan (map part_in l.coding.parts.now)) l.rows 0
      l.coding.scan.high (map (λ v. v.items) l.fn.self.planes.items)) l.fn.source
      (planes_intervals (l.coding.scan.high + 1 - l.number) (way_by l.coding.scan (map part_in l.coding.parts.now))
      l.rows l.number l.left (map (λ v. v.items) l.self.planes.items)) l.source;
  goes : l.beyond ≡ Nothing → Goes
      (intervals_through (l.coding.scan.high + 1) (way_by l.coding.scan (map part_in l.coding.parts.now)) l.rows 0
      l.coding.scan.high (map (λ v. v.items) l.fn.self.planes.items)) l.fn.source (l.coding.scan.high + 1 - l.number)
      (way_by l.coding.scan (map part_in l.coding.parts.now)) l.rows l.number l.left
      (map (λ v. v.items) l.self.planes.items) l.source;
}

abbrev pub decreases-loop-left : goal.decreases-loop-left
decreases-loop-left g l = l.left
