use Rattle.std.proofs.Common.{◌≡◌, ◌∙◌, ◌≤◌, [], ap, arith, drop, get_or, length, map, rules, sym, ℕ, List}
use Rattle.std.proofs.lemmas.List.{drop_all, length-map}
use Rattle.jpeg_decoder.specs.declared.scan.coded.Coded.{Coded}
use Rattle.jpeg_decoder.specs.Steps.{coding_in, with_decoded, with_its_plane, with_planes}
use Rattle.jpeg_decoder.specs.Strips.{plane_lists}
use Rattle.jpeg_decoder.proofs.PutLoops.{planes-step}
use Rattle.jpeg_decoder.proofs.Scans.DecidedScans.{none-added}
use Rattle.jpeg_decoder.proofs.Strips.RowBuffers.{Plane}
use Rattle.jpeg_decoder.proofs.scan.decoded.Decoded.add_planes.Goals as goal

pub loop-slot-preserved : goal.loop-slot-preserved
loop-slot-preserved c =
    let l = c.loop-slot in
    let cs = c.components-codings.result.now in
    let coded = c.index-codings-slot.result in
    let is : coded ≡ get_or cs l.slot coded = search rules in
    record {
      within = search rules;
      planes = search rules;
      kept = search rules;
      samples = search rules;
      added = λ base.
          planes-step c.args.scan.now.pass cs l.slot coded
          l.planes.items c.replace-plane.new.dest c.replace-plane.result
          (with_decoded base l.self) (with_decoded base c.add_plane.new.self) (search rules) l.invariant.planes
          (search rules)
          (rw c.pass.ensures.pass at (c.add_plane.ensures.plane base)
          ∙ ap (λ (x : Coded). with_its_plane c.args.scan.now.pass x.index
          c.replace-plane.result.items (with_decoded base l.self)) is)
          ∙ l.invariant.added base;
    }

pub returns-clause-planes : goal.returns-clause-planes
returns-clause-planes c base =
    let l = c.loop-slot in
    let p = c.args.scan.now.pass in
    let codings = drop l.slot (map coding_in c.components-codings.result.now) in
    let planes = plane_lists l.planes.items in
    let short : length l.planes.items ≤ l.slot = search rules in
    let done : drop l.slot planes ≡ [] =
    drop_all l.slot planes (omega (arith, short, length-map l.planes.items (λ (v : Plane). v.items))) in
    sym (ap (λ (left : List (List ℕ)). with_planes p codings left (with_decoded base l.self)) done
    ∙ none-added p codings (with_decoded base l.self))
    ∙ l.invariant.added base
