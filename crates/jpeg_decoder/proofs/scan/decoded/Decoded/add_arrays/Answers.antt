use Rattle.std.proofs.Common.{◌≡◌, ◌∙◌, arith, rules, length, get_or, ◌<◌}
use Rattle.jpeg_decoder.specs.Steps.{with_decoded}
use Rattle.jpeg_decoder.proofs.PutLoops.{arrays-step, none-left, sized-at, long-at}
use Rattle.jpeg_meaning.specs.ScanSegments.{with_arrays}
use Rattle.jpeg_decoder.proofs.scan.decoded.Decoded.add_arrays.Goals as goal
use Rattle.std.proofs.lemmas.Grind.{common_steps}

pub index-requires : goal.index-requires
index-requires c = grind (arith, common_steps, long-at)

pub add_blocks-requires-clause-blocks : goal.add_blocks-requires-clause-blocks
add_blocks-requires-clause-blocks c = grind (arith, common_steps, sized-at)

pub loop-slot-preserved : goal.loop-slot-preserved
loop-slot-preserved c =
    let l = c.loop-slot in
    let cs = c.components-codings.result.now in
    let coded = c.index-codings-slot.result in
    let is : coded ≡ get_or cs l.slot coded = search rules in
    let h : l.slot < length cs = search rules in
    let p = c.args.scan.now.pass in
    record {
      within = search rules;
      kept = search rules;
      samples = search rules;
      added = λ base.
          arrays-step p cs l.slot coded c.args.arrays.now.items c.index.result.now (with_decoded base l.self)
          (with_decoded base c.add_blocks.new.self) h
          (long-at cs c.args.arrays.now.items l.slot (grind (arith, common_steps)) h) (search rules)
          (grind (arith, common_steps, c.in_ok-add_blocks.ensures.plane base))
          ∙ l.invariant.added base;
    }

pub returns-clause-planes : goal.returns-clause-planes
unfolding with_arrays
returns-clause-planes c = grind (arith, common_steps, none-left)
