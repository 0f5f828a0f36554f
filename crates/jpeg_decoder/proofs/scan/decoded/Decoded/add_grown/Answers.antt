use Rattle.std.proofs.Common.{rules, ◌≡◌, ◌∙◌, ap, length, List, Option, subst, sym, ℕ}
use Rattle.std.proofs.lemmas.List.{length-map}
use Rattle.jpeg_pixels.specs.JointPlanes.{joint_planes}
use Rattle.jpeg_meaning.specs.Found.{Found, nothing_found}
use Rattle.jpeg_decoder.specs.GrowingView.{growing_in, GrowsFor, IsJointOf}
use Rattle.jpeg_decoder.specs.Steps.{with_decoded, with_first_planes, AreDecidedFrom}
use Rattle.jpeg_decoder.specs.Strips.{plane_lists}
use Rattle.jpeg_decoder.specs.declared.scan.strips.GrowingPlanes.{GrowingPlanes}
use Rattle.jpeg_decoder.proofs.Scans.DecidedScans.{all-first, stay-decided}
use Rattle.jpeg_decoder.proofs.Strips.JointStrips.{planes-long}
use Rattle.jpeg_decoder.proofs.Strips.RowBuffers.{Plane}
use Rattle.jpeg_decoder.proofs.scan.decoded.Decoded.add_grown.Goals as goal

pub mark_rest-requires-clause-decided : goal.mark_rest-requires-clause-decided
mark_rest-requires-clause-decided c =
    let codings = c.args.scan.now.codings in
    let planes = c.in-Own.planes.items in
    let base = nothing_found in
    let long : length planes ≡ c.len-count.result = search rules in
    let count : length (growing_in c.args.planes) ≡ c.len-count.result =
    ap (λ (p : GrowingPlanes). length (growing_in p)) c.in-Own.is ∙ length-map planes (λ (v : Plane). v.items) ∙ long in
    subst (λ (l : List (Option (List ℕ))). AreDecidedFrom c.len-count.result l codings)
    (sym (ap (λ (f : Found). f.planes) (c.add_planes.ensures.planes base)))
    (stay-decided c.args.scan.now.pass c.len-count.result codings (plane_lists planes)
    (with_decoded base c.args.self.now)
    (subst (λ (n : ℕ). AreDecidedFrom n c.args.self.now.planes codings) count c.requires.decided))

pub returns-in-Joint-clause-planes : goal.returns-in-Joint-clause-planes
returns-in-Joint-clause-planes c base =
    let codings = c.args.scan.now.codings in
    let p = c.args.scan.now.pass in
    let joint = c.in-Joint.joint in
    let old = with_decoded base c.args.self.now in
    let made = joint_planes joint.shape joint.samples.items in
    let grown : IsJointOf codings joint = subst (GrowsFor codings) c.in-Joint.is c.requires.grown in
    c.add_joint.ensures.planes base
    ∙ sym (all-first p codings made old (planes-long joint.shape joint.samples.items ∙ grown.count))
    ∙ ap (λ (g : GrowingPlanes). with_first_planes p codings (growing_in g) old) (sym c.in-Joint.is)
