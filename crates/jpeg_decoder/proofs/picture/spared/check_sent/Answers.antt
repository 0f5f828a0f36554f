use Rattle.std.proofs.Common.{arith, rules, ◌≡◌, ◌<◌, length}
use Rattle.std.proofs.lemmas.List.{get_or_default, length-map}
use Rattle.std.proofs.lemmas.Grind.{common_steps}
use Rattle.std.proofs.lemmas.Result.{err_from_is_err_and}
use Rattle.jpeg_lossless.proofs.RowLoops.{mapped-within}
use Rattle.jpeg_segments.specs.FrameView.{component_in, frame_in}
use Rattle.jpeg_decoder.specs.Steps.{with_decoded}
use Rattle.jpeg_decoder.proofs.Pictures.EndedPlanes.{mapped-or}
use Rattle.jpeg_decoder.proofs.Pictures.SentComponents.{IsSeen, sent-all, sent-lacks, sent-more}
use Rattle.jpeg_decoder.proofs.picture.spared.check_sent.Goals.{After-index}
use Rattle.jpeg_decoder.proofs.picture.spared.check_sent.Goals as goal

-- the component at the index
seen : (c : After-index) → IsSeen (with_decoded c.args.state.now c.args.decoded.now) (frame_in c.args.frame.now)
    c.loop-index.index (component_in c.index.result.now) c.are_all-is_whole.result c.are_kept-is_kept.result
seen c = record {
  within = mapped-within component_in c.args.frame.now.components.items c.loop-index.index (search rules);
  there = mapped-or component_in c.args.frame.now.components.items c.loop-index.index c.index.result.now
      c.index.result.now (component_in c.index.result.now) (search rules) (search rules);
  finished =
      let within = mapped-within component_in c.args.frame.now.components.items c.loop-index.index (search rules) in
      let four : length c.args.decoded.now.finished ≡ 4 = search rules in
      let below : c.loop-index.index < length c.args.decoded.now.finished =
      omega (arith, within, four, c.requires.few) in
      grind (arith, common_steps, get_or_default);
  keeps = c.are_kept-is_kept.ensures;
}

pub returns-in_err-check_component : goal.returns-in_err-check_component
returns-in_err-check_component c =
    let p = err_from_is_err_and c.from_residual.result c.from_residual.ensures.1 in
    let e = c.in_err-check_component.ensures in
    rw (p.1, p.2) (sent-lacks (seen (goal.at.returns-in_err-check_component c).After-index) e.0, e.1)

pub loop-index-preserved : goal.loop-index-preserved
loop-index-preserved c =
    sent-more (seen (goal.at.loop-index-preserved c).After-index) c.in_ok-check_component.ensures
    c.loop-index.invariant

pub returns : goal.returns
returns c =
    sent-all (with_decoded c.args.state.now c.args.decoded.now) (frame_in c.args.frame.now) c.loop-index.index
    (omega (arith, length-map c.args.frame.now.components.items component_in)) c.loop-index.invariant
