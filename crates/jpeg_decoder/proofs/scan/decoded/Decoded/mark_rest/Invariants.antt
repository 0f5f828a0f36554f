use Rattle.std.proofs.Common.{◌≡◌, drop, map}
use Rattle.jpeg_meaning.specs.Found.{Found}
use Rattle.jpeg_decoder.specs.Steps.{coding_in, with_decoded, with_planes}
use Rattle.jpeg_decoder.specs.Strips.{no_samples}
use Rattle.jpeg_decoder.proofs.scan.decoded.Decoded.mark_rest.Given as goal

abbrev pub invariant-loop-coded : goal.invariant-loop-coded
invariant-loop-coded l =
    let p = l.scan.pass in
    let codings = map coding_in l.rest in
    let none = no_samples codings in
    record {
      kept : l.self.kept ≡ l.fn.self.kept;
      samples : l.self.samples ≡ l.fn.self.samples;
      planes : l.self.planes ≡ l.fn.self.planes;
      added : (base : Found) →
          with_planes p (drop l.coded-index codings) (drop l.coded-index none) (with_decoded base l.self)
          ≡ with_planes p codings none (with_decoded base l.fn.self);
    }
