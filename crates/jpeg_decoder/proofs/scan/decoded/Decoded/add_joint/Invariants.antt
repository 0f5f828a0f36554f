use Rattle.std.proofs.Common.{◌≡◌, drop, map, None, replicate, take}
use Rattle.jpeg_pixels.specs.JointPlanes.{joint_planes}
use Rattle.jpeg_meaning.specs.Found.{Found}
use Rattle.jpeg_decoder.specs.PlanesView.{or_joint}
use Rattle.jpeg_decoder.specs.Steps.{coding_in, with_decoded, with_planes}
use Rattle.jpeg_decoder.proofs.scan.decoded.Decoded.add_joint.Given as goal

abbrev pub invariant-loop-coded : goal.invariant-loop-coded
invariant-loop-coded l =
    let p = l.scan.pass in
    let codings = map coding_in l.codings in
    let all = joint_planes l.joint.shape l.joint.samples.items in
    record {
      kept : l.self.kept ≡ l.fn.self.kept;
      samples : l.self.samples ≡ l.fn.self.samples;
      planes : l.self.planes ≡ l.fn.self.planes;
      added : (base : Found) →
          with_planes p (drop l.coded-index codings) (drop l.coded-index all)
          (record (with_decoded base l.self) {
            planes = or_joint (replicate 4 None) (take l.coded-index all);
          })
          ≡ with_planes p l.scan.codings all (with_decoded base l.fn.self);
    }
