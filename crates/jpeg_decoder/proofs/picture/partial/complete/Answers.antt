use Rattle.std.proofs.Common.{◌≡◌, ◌<◌, arith, get_or, length}
use Rattle.std.proofs.lemmas.Grind.{common_steps}
use Rattle.std.proofs.lemmas.List.{length-map}
use Rattle.jpeg_lossless.proofs.RowLoops.{mapped-within}
use Rattle.jpeg_segments.specs.FrameView.{component_in, frame_in}
use Rattle.jpeg_decoder.specs.Steps.{with_decoded}
use Rattle.jpeg_decoder.proofs.Pictures.EndedPlanes.{mapped-or}
use Rattle.jpeg_decoder.proofs.Partial.ShownParts.{shown-all, shown-first, shown-more, shown-sound}
use Rattle.jpeg_decoder.proofs.picture.partial.complete.Goals.{After-index}
use Rattle.jpeg_decoder.proofs.picture.partial.complete.Goals as goal

pub loop-index-init : goal.loop-index-init
loop-index-init c = record {
  sound = c.requires.sound;
  made = shown-first (frame_in c.args.frame.now) (with_decoded c.args.state.now c.args.decoded.now);
}

within : (c : After-index) → c.loop-index.index < length (frame_in c.args.frame.now).components
within c = mapped-within component_in c.args.frame.now.components.items c.loop-index.index (omega arith)

there : (c : After-index) → component_in c.index.result.now
    ≡ get_or (frame_in c.args.frame.now).components c.loop-index.index (component_in c.index.result.now)
there c = grind (arith, common_steps, mapped-or)

pub complete_part-requires : goal.complete_part-requires
complete_part-requires c =
    let at = (goal.at.complete_part-requires c).After-index in
    record {
      sound = c.loop-index.invariant.sound;
      frame = c.requires.frame;
      index = within at;
      component = there at;
    }

pub loop-index-preserved : goal.loop-index-preserved
loop-index-preserved c =
    let at = (goal.at.loop-index-preserved c).After-index in
    let before = with_decoded c.args.state.now c.loop-index.decoded in
    let after = with_decoded c.args.state.now c.complete_part.new.decoded in
    let component = component_in c.index.result.now in
    record {
      sound = shown-sound (frame_in c.args.frame.now) before after c.loop-index.index component
          c.loop-index.invariant.sound
          c.requires.frame (within at) (there at) c.in_ok-complete_part.ensures;
      made = shown-more (frame_in c.args.frame.now) (with_decoded c.args.state.now c.args.decoded.now) before
          after c.loop-index.index component (within at) (there at) c.in_ok-complete_part.ensures
          c.loop-index.invariant.made;
    }

pub returns-clause-completed : goal.returns-clause-completed
returns-clause-completed c =
    shown-all (frame_in c.args.frame.now) (with_decoded c.args.state.now c.args.decoded.now)
    (with_decoded c.args.state.now c.loop-index.decoded) c.loop-index.index
    (omega (arith, length-map c.args.frame.now.components.items component_in)) c.loop-index.invariant.made
