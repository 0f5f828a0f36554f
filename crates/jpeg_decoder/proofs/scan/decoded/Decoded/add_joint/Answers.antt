use Rattle.std.proofs.lemmas.Grind.{common_steps}
use Rattle.std.proofs.Common.{rules, ◌≡◌, ◌<◌, ◌∙◌, ap, arith, ℕ, List, get_or, length, length-set}
use Rattle.std.proofs.Common.{Option}
use Rattle.std.proofs.lemmas.List.{get_or_default}
use Rattle.jpeg_pixels.specs.JointPlanes.{joint_planes}
use Rattle.jpeg_decoder.specs.Steps.{marks_after, with_decoded}
use Rattle.jpeg_decoder.proofs.Strips.JointAdded.{joint-done, joint-step}
use Rattle.jpeg_decoder.proofs.Strips.JointDecided.{or-nothing}
use Rattle.jpeg_decoder.proofs.Strips.JointStrips.{planes-long}
use Rattle.jpeg_decoder.proofs.Scans.PlacedCodings.{first-index, seen-long}
use Rattle.jpeg_decoder.proofs.scan.decoded.Decoded.add_joint.Goals as goal

pub loop-coded-init : goal.loop-coded-init
loop-coded-init c = grind (arith, common_steps, or-nothing)

pub loop-coded-preserved : goal.loop-coded-preserved
loop-coded-preserved c =
    let l = c.loop-coded in
    let p = c.args.scan.now.pass in
    let cs = c.components-codings.result.now in
    let same = c.components-codings.ensures.codings in
    let count = c.requires.count ∙ seen-long cs c.args.scan.now.codings same in
    let coded = c.coded-item.result in
    let shape = c.args.joint.shape in
    let samples = c.args.joint.samples.items in
    let small = c.requires.full.small.count in
    let within : l.coded-index < length cs = search rules in
    let is : coded ≡ get_or cs l.coded-index coded = grind (arith, common_steps) in
    let index = first-index cs c.args.scan.now.codings l.coded-index coded same c.requires.first.in_order within is in
    let long = length-set l.self.finished coded.index c.finish.new.marks in
    let four : length l.self.finished ≡ 4 = search rules in
    let marked : c.finish.new.marks ≡ marks_after p l.self.finished coded.index =
    grind (arith, common_steps, get_or_default) in
    record {
      kept = search rules;
      samples = search rules;
      planes = search rules;
      added = λ base.
          joint-step p cs (joint_planes shape samples)
          (planes-long shape samples ∙ count) l.coded-index coded
          (with_decoded base l.self) c.finish.new.marks (omega (arith, small, count))
          within is index marked (c.finish.ensures.all (c.pass.ensures.pass ∙ c.requires.first.whole))
          ∙ l.invariant.added base;
    }

pub returns-clause-planes : goal.returns-clause-planes
returns-clause-planes c base =
    let shape = c.args.joint.shape in
    let samples = c.args.joint.samples.items in
    ap (λ (ps : List (Option (List ℕ))). record (with_decoded base c.loop-coded.self) { planes = ps }) c.put_joint.ensures
    ∙ joint-done c.args.scan.now.pass c.components-codings.result.now (joint_planes shape samples)
    (planes-long shape samples ∙ c.requires.count
    ∙ seen-long _ _ c.components-codings.ensures.codings) c.loop-coded.coded-index (with_decoded base c.loop-coded.self)
    (search rules) ∙ c.loop-coded.invariant.added base
