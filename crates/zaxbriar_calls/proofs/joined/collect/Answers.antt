use Rattle.std.proofs.Common.{arith, ◌≡◌, ◌∙◌, ◌<◌, length, sym, true}
use Rattle.zaxbriar_metadata.specs.CollectedView.{collection_in}
use Rattle.zaxbriar_calls.proofs.Joining.{brought-ended}
use Rattle.zaxbriar_calls.specs.Places.{ends_image}
use Rattle.zaxbriar_calls.proofs.joined.collect.Goals as goal

pub returns-then-ends_image : goal.returns-then-ends_image
returns-then-ends_image c =
    let some : c.loop.counter < length c.args.stream.now = omega arith in
    let ended : ends_image c.in-Some.marker ≡ true = grind arith in
    sym (c.loop.invariant ∙ brought-ended (length c.args.stream.now) c.loop.counter (collection_in c.loop.collected)
    (collection_in c.add_segment.new.collected) c.loop.rest.now c.in-Some.payload.now c.in-Some.others.now
    c.in-Some.marker some c.in-Some.ensures ended c.in_ok-add_segment.ensures)
