use Rattle.std.proofs.Common.{◌≡◌, ◌≤◌, ◌-◌, drop, length, map}
use Rattle.jpeg_meaning.specs.LosslessScans.{with_samples}
use Rattle.jpeg_decoder.specs.PlanesView.{planes_in}
use Rattle.jpeg_decoder.proofs.scan.decoded.Decoded.put_samples.Given as goal

abbrev pub invariant-loop-slot : goal.invariant-loop-slot
invariant-loop-slot l = record {
  within : l.slot ≤ length l.indices;
  count : length l.planes.items ≡ length l.indices;
  kept : l.self.kept ≡ l.fn.self.kept;
  finished : l.self.finished ≡ l.fn.self.finished;
  planes : l.self.planes ≡ l.fn.self.planes;
  samples : with_samples (drop l.slot l.indices) (drop l.slot (map (λ v. v.items) l.planes.items))
      (planes_in l.self.samples)
      ≡ with_samples l.indices (map (λ v. v.items) l.fn.planes.items) (planes_in l.fn.self.samples);
}

abbrev pub decreases-loop-slot : goal.decreases-loop-slot
decreases-loop-slot l = length l.indices - l.slot
