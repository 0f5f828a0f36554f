use Rattle.std.proofs.lemmas.Grind.{common_steps, drop_more_same}
use Rattle.std.proofs.Common.{◌≡◌, ◌∷◌, ◌++◌, ◌∙◌, [], map, rules, arith, refl, sym, ap}
use Rattle.std.proofs.lemmas.List.{length-map, map-append}
use Rattle.std.proofs.lemmas.Result.{err_from_is_err_and}
use Rattle.std.specs.Option.{option_map}
use Rattle.jpeg_segments.specs.FrameView.{component_in, frame_in}
use Rattle.jpeg_decoder.specs.Scanning.{blocks_in}
use Rattle.jpeg_decoder.specs.Steps.{with_decoded}
use Rattle.jpeg_decoder.proofs.Pictures.EndedPlanes.{IsTaken, mapped-or, none-left, reached-kept, taken, taken-blocks, taken-more}
use Rattle.jpeg_decoder.proofs.Pictures.EndedPlanes.{taken-plane, taken-refused, taken-scale, taken-whole, whole-all}
use Rattle.jpeg_decoder.proofs.Pictures.PicturesOfPlanes.{decoded-few}
use Rattle.jpeg_lossless.proofs.RowLoops.{mapped-within}
use Rattle.jpeg_decoder.proofs.picture.whole.planes_at_end.Goals.{After-index}
use Rattle.jpeg_decoder.proofs.picture.whole.planes_at_end.Goals as goal

pub take-requires : goal.take-requires
take-requires c =
    let within = mapped-within component_in c.args.frame.now.components.items c.loop-index.index (omega arith) in
    omega (arith, within, decoded-few _ (c.requires.sound.frames _ c.requires.frame))

pub take_kept-kept-requires : goal.take_kept-kept-requires
take_kept-kept-requires c h =
    let within = mapped-within component_in c.args.frame.now.components.items c.loop-index.index (omega arith) in
    let some = reached-kept _ _ _ _ c.requires.sound c.requires.frame within c.loop-index.invariant.kept
    (sym c.are_kept-is_kept.ensures ∙ h) in
    omega (arith, some, length-map c.loop-index.decoded.kept.items blocks_in)

-- ---- a component of the frame

there : (c : After-index) → IsTaken (with_decoded c.args.state.now c.args.decoded.now) (frame_in c.args.frame.now)
    c.loop-index.index (component_in c.index.result.now) (option_map (λ v. v.items) c.in_ok-plane.plane)
    (option_map blocks_in c.take_kept-kept.result)
there c = grind (arith, common_steps, taken, mapped-within, mapped-or)

pub plane_at_end-requires : goal.plane_at_end-requires
plane_at_end-requires c =
    let t = there (goal.at.plane_at_end-requires c).After-index in
    record {
      scale = taken-scale t c.requires.sound c.requires.frame;
      plane = taken-plane t c.requires.sound c.requires.frame;
      blocks = taken-blocks t c.requires.sound c.requires.frame;
    }

pub returns-in_err-plane_at_end-clause-planes : goal.returns-in_err-plane_at_end-clause-planes
returns-in_err-plane_at_end-clause-planes c =
    let t = there (goal.at.returns-in_err-plane_at_end-clause-planes c).After-index in
    let p = err_from_is_err_and c.from_residual-in_err-plane_at_end.result c.from_residual-in_err-plane_at_end.ensures.1 in
    let e = c.in_err-plane_at_end.ensures.plane in
    rw (p.1, p.2) (e.0, taken-refused t _ (map (λ v. v.items) c.loop-index.planes.items) _ refl e.1 c.loop-index.invariant.given)

pub loop-index-preserved : goal.loop-index-preserved
loop-index-preserved c =
    let t = there (goal.at.loop-index-preserved c).After-index in
    let plane = c.in_ok-plane_at_end.field-0 in
    let front = map (λ v. v.items) c.loop-index.planes.items in
    let pushed : c.push.new.self.items ≡ c.loop-index.planes.items ++ plane ∷ [] = search rules in
    let joined : map (λ v. v.items) c.push.new.self.items ≡ front ++ plane.items ∷ [] =
    ap (map (λ v. v.items)) pushed ∙ map-append (λ v. v.items) c.loop-index.planes.items (plane ∷ []) in
    record {
      decided = grind (arith, common_steps, drop_more_same);
      kept = grind (arith, common_steps, drop_more_same);
      given = taken-more t _ front _ plane.items refl c.in_ok-plane_at_end.ensures.plane joined c.loop-index.invariant.given;
      whole = taken-whole t front _ plane.items c.loop-index.invariant.whole c.in_ok-plane_at_end.ensures.whole joined;
      count = search rules;
    }

pub returns-clause-whole : goal.returns-clause-whole
returns-clause-whole c = search (rules, whole-all, none-left)
