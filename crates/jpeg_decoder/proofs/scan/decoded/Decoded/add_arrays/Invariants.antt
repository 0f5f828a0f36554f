use Rattle.std.proofs.Common.{◌≡◌, ◌≤◌, ◌-◌, drop, length, map}
use Rattle.jpeg_decoder.specs.Steps.{coding_in, with_decoded}
use Rattle.jpeg_decoder.specs.Scanning.{arrays_in}
use Rattle.jpeg_meaning.specs.ScanSegments.{with_arrays}
use Rattle.jpeg_meaning.specs.Found.{Found}
use Rattle.jpeg_decoder.proofs.scan.decoded.Decoded.add_arrays.Given as goal

abbrev pub invariant-loop-slot : goal.invariant-loop-slot
invariant-loop-slot l = record {
  within : l.slot ≤ length l.codings;
  kept : l.self.kept ≡ l.fn.self.kept;
  samples : l.self.samples ≡ l.fn.self.samples;
  added : (base : Found) →
      with_arrays l.scan.pass (drop l.slot (map coding_in l.codings))
      (drop l.slot (arrays_in l.arrays.items)) (with_decoded base l.self)
      ≡ with_arrays l.scan.pass l.scan.codings (arrays_in l.arrays.items)
      (with_decoded base l.fn.self);
}

abbrev pub decreases-loop-slot : goal.decreases-loop-slot
decreases-loop-slot l = length l.codings - l.slot
