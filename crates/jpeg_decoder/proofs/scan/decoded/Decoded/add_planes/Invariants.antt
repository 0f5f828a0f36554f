use Rattle.std.proofs.Common.{◌≡◌, ◌≤◌, ◌-◌, drop, length, map}
use Rattle.jpeg_decoder.specs.Steps.{coding_in, with_decoded, with_planes}
use Rattle.jpeg_meaning.specs.Found.{Found}
use Rattle.jpeg_decoder.proofs.scan.decoded.Decoded.add_planes.Given as goal

abbrev pub invariant-loop-slot : goal.invariant-loop-slot
invariant-loop-slot l = record {
  within : l.slot ≤ length l.planes.items;
  planes : length l.planes.items ≤ length l.codings;
  kept : l.self.kept ≡ l.fn.self.kept;
  samples : l.self.samples ≡ l.fn.self.samples;
  added : (base : Found) →
      with_planes l.scan.pass (drop l.slot (map coding_in l.codings))
      (drop l.slot (map (λ v. v.items) l.planes.items)) (with_decoded base l.self)
      ≡ with_planes l.scan.pass l.scan.codings (map (λ v. v.items) l.fn.planes.items)
      (with_decoded base l.fn.self);
}

abbrev pub decreases-loop-slot : goal.decreases-loop-slot
decreases-loop-slot l = length l.planes.items - l.slot
