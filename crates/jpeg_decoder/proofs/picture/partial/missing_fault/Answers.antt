use Rattle.std.proofs.Common.{◌≡◌, ◌<◌, arith, get_or, length, rules}
use Rattle.std.proofs.lemmas.Grind.{common_steps}
use Rattle.std.proofs.lemmas.List.{length-map}
use Rattle.jpeg_lossless.proofs.RowLoops.{mapped-within}
use Rattle.jpeg_segments.specs.FrameView.{component_in, frame_in}
use Rattle.jpeg_decoder.specs.Steps.{with_decoded}
use Rattle.jpeg_decoder.proofs.Pictures.EndedPlanes.{mapped-or}
use Rattle.jpeg_decoder.proofs.Pictures.PicturesOfPlanes.{decoded-few}
use Rattle.jpeg_decoder.proofs.Partial.ShownParts.{given-more, given-none, missing-at, missing-none}
use Rattle.jpeg_decoder.proofs.picture.partial.missing_fault.Goals.{After-index}
use Rattle.jpeg_decoder.proofs.picture.partial.missing_fault.Goals as goal

within : (c : After-index) → c.loop-index.index < length (frame_in c.args.frame.now).components
within c = mapped-within component_in c.args.frame.now.components.items c.loop-index.index (omega arith)

there : (c : After-index) → component_in c.index.result.now
    ≡ get_or (frame_in c.args.frame.now).components c.loop-index.index (component_in c.index.result.now)
there c = grind (arith, common_steps, mapped-or)

pub loop-index-init : goal.loop-index-init
loop-index-init c = record {
  given = given-none (with_decoded c.args.state.now c.args.decoded.now) (frame_in c.args.frame.now);
}

pub is_there-requires : goal.is_there-requires
is_there-requires c =
    let h = within (goal.at.is_there-requires c).After-index in
    omega (arith, h, decoded-few _ (c.requires.sound.frames _ c.requires.frame))

pub returns-then-not-is_there : goal.returns-then-not-is_there
returns-then-not-is_there c =
    let at = (goal.at.returns-then-not-is_there c).After-index in
    missing-at (with_decoded c.args.state.now c.args.decoded.now) (frame_in c.args.frame.now)
    c.loop-index.index (component_in c.index.result.now) c.format_error.result (within at) (there at) (search rules)
    c.loop-index.invariant.given (search rules)

pub loop-index-preserved : goal.loop-index-preserved
loop-index-preserved c =
    let at = (goal.at.loop-index-preserved c).After-index in
    record {
      given = given-more (with_decoded c.args.state.now c.args.decoded.now) (frame_in c.args.frame.now)
          c.loop-index.index (component_in c.index.result.now) (within at) (there at) (search rules)
          c.loop-index.invariant.given;
    }

pub returns : goal.returns
returns c =
    missing-none (with_decoded c.args.state.now c.args.decoded.now) (frame_in c.args.frame.now)
    c.loop-index.index (omega (arith, length-map c.args.frame.now.components.items component_in))
    c.loop-index.invariant.given
