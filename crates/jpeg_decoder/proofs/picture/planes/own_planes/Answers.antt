use Rattle.std.proofs.Common.{◌≡◌, ◌<◌, ◌∙◌, [], List, ap, ap₂, arith, get_or, length, map, refl, subst, sym, ℕ}
use Rattle.std.proofs.lemmas.Grind.{common_steps}
use Rattle.std.proofs.lemmas.List.{length-map}
use Rattle.jpeg_segments.specs.Frame.{Component}
use Rattle.jpeg_segments.specs.FrameView.{component_in, frame_in}
use Rattle.jpeg_pixels.specs.Scaled.{IsScale}
use Rattle.jpeg_lossless.proofs.RowLoops.{mapped-at}
use Rattle.jpeg_meaning.specs.FoundPlanes.{own_plane}
use Rattle.jpeg_meaning.proofs.Soundness.{decoded-fits}
use Rattle.jpeg_decoder.specs.Steps.{HasOwnSize}
use Rattle.jpeg_decoder.proofs.Pictures.EndedPlanes.{decoded-scales, element, mapped-or}
use Rattle.jpeg_decoder.proofs.Pictures.OwnPlanes.{own-at, owned-more, owned-there}
use Rattle.jpeg_decoder.proofs.picture.planes.own_planes.Goals.{After-index}
use Rattle.jpeg_decoder.proofs.picture.planes.own_planes.Goals as goal

-- the component at the index
within : (c : After-index) → c.loop-index.index < length (frame_in c.args.frame.now).components
within c = omega (arith, c.requires.count, c.loop-index-test.true, c.loop-index.invariant.count)

seen : (c : After-index) → get_or (frame_in c.args.frame.now).components c.loop-index.index (component_in c.index.result.now)
    ≡ component_in c.index.result.now
seen c = mapped-at component_in c.args.frame.now.components.items c.loop-index.index c.index.result.now c.index.ensures

pub own_plane-requires-clause-scale : goal.own_plane-requires-clause-scale
own_plane-requires-clause-scale c =
    let w = (goal.at.own_plane-requires-clause-scale c).After-index in
    subst (λ (x : Component). IsScale x.scale) (seen w)
    (element (λ x. IsScale x.scale) (frame_in c.args.frame.now).components c.loop-index.index _
    (decoded-scales (frame_in c.args.frame.now) c.requires.frame) (within w))

-- the plane at the index, which is still whole
still : (c : After-index) → c.replace-plane.result.items
    ≡ get_or (map (λ v. v.items) c.args.planes.items) c.loop-index.index []
still c =
    let at : c.replace-plane.result ≡ get_or c.loop-index.planes.items c.loop-index.index c.index_mut.result.now =
    cc (c.replace-plane.ensures.value, c.index_mut.ensures.value) in
    let below : c.loop-index.index < length c.loop-index.planes.items =
    omega (arith, c.loop-index-test.true, c.loop-index.invariant.count) in
    mapped-or (λ v. v.items) c.loop-index.planes.items c.loop-index.index c.replace-plane.result c.index_mut.result.now []
    below at
    ∙ ap (λ (l : List (List ℕ)). get_or l c.loop-index.index []) c.loop-index.invariant.owned
    ∙ owned-there c.loop-index.index (frame_in c.args.frame.now).components (map (λ v. v.items) c.args.planes.items) []

pub own_plane-requires-clause-size : goal.own_plane-requires-clause-size
own_plane-requires-clause-size c =
    let w = (goal.at.own_plane-requires-clause-size c).After-index in
    let f = frame_in c.args.frame.now in
    subst (λ (x : Component). HasOwnSize x c.replace-plane.result.items) (seen w)
    (subst (λ (l : List ℕ). HasOwnSize (get_or f.components c.loop-index.index (component_in c.index.result.now)) l)
    (sym (still w))
    (own-at f f.components (map (λ v. v.items) c.args.planes.items) c.loop-index.index (component_in c.index.result.now) []
    (decoded-fits f c.requires.frame) (decoded-scales f c.requires.frame) c.requires.planes (within w)))

pub loop-index-preserved : goal.loop-index-preserved
loop-index-preserved c =
    let w = (goal.at.loop-index-preserved c).After-index in
    let made : c.in_ok-planes.field-0.items
    ≡ own_plane (get_or (frame_in c.args.frame.now).components c.loop-index.index (component_in c.index.result.now))
    (get_or (map (λ v. v.items) c.args.planes.items) c.loop-index.index []) =
    c.in_ok-planes.ensures ∙ ap₂ own_plane (sym (seen w)) (still w) in
    record {
      count = grind (arith, common_steps);
      owned = owned-more c.loop-index.index (frame_in c.args.frame.now).components
          (map (λ v. v.items) c.args.planes.items) c.loop-index.planes.items _ _ (component_in c.index.result.now) []
          c.replace-plane.new.dest c.in_ok-planes.field-0 c.loop-index.invariant.owned refl refl made (within w)
          (omega (arith, c.loop-index-test.true, length-map c.args.planes.items (λ v. v.items)));
    }
