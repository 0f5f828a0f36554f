use Rattle.std.proofs.Common.{◌∙◌, List, ap, arith, map, refl, rules, subst, sym}
use Rattle.std.proofs.lemmas.Grind.{common_steps}
use Rattle.jpeg_segments.specs.FrameView.{component_in, frame_in}
use Rattle.jpeg_meaning.specs.EndPlanes.{AreBlocksOf, blocks_if, is_kept}
use Rattle.jpeg_meaning.specs.Rasters.{plane_by}
use Rattle.jpeg_meaning.specs.Shown.{blocks_held, table_held}
use Rattle.jpeg_decoder.specs.Scanning.{blocks_in}
use Rattle.jpeg_decoder.specs.declared.scan.block_array.BlockArray.{BlockArray}
use Rattle.jpeg_decoder.specs.Steps.{with_decoded}
use Rattle.jpeg_decoder.proofs.Pictures.PicturesOfPlanes.{decoded-few}
use Rattle.jpeg_decoder.proofs.Partial.ShownParts.{held-blocks, held-within, plane-put, plane-there, scale-at}
use Rattle.jpeg_decoder.proofs.picture.partial.complete_plane.Goals as goal

pub has-requires : goal.has-requires
has-requires c = omega (arith, c.requires.index, decoded-few _ (c.requires.sound.frames _ c.requires.frame))

pub returns-then-has : goal.returns-then-has
returns-then-has c =
    plane-there (frame_in c.args.frame.now) (with_decoded c.args.state.now c.args.decoded.now) c.args.index
    (component_in c.args.component.now) (search rules)

pub plane_held-requires : goal.plane_held-requires
plane_held-requires c = record {
  scale = scale-at c.requires.sound c.requires.frame c.requires.index c.requires.component;
  within = held-within (with_decoded c.args.state.now c.args.decoded.now) (frame_in c.args.frame.now)
      c.args.index c.deref.result.now c.requires.sound c.requires.frame c.requires.index
      (ap (map blocks_in) (sym c.deref.ensures.value));
  blocks = subst (λ (kept : List BlockArray). AreBlocksOf (component_in c.args.component.now)
      (blocks_if (is_kept c.args.state.now (frame_in c.args.frame.now)) (map blocks_in kept) c.args.index))
      (sym c.deref.ensures.value)
      (held-blocks c.requires.sound c.requires.frame c.requires.index c.requires.component);
}

pub put-requires : goal.put-requires
put-requires c = omega (arith, c.requires.index, decoded-few _ (c.requires.sound.frames _ c.requires.frame))

pub returns : goal.returns
returns c =
    let found = with_decoded c.args.state.now c.args.decoded.now in
    let component = component_in c.args.component.now in
    plane-put (frame_in c.args.frame.now) found _ c.args.index component (table_held found component)
    (blocks_held found (frame_in c.args.frame.now) (c.args.index, component)) c.in_ok-plane.plane.items (search rules)
    refl refl
    (c.in_ok-plane.ensures
    ∙ ap (λ (kept : List BlockArray). plane_by component (table_held found component)
    (blocks_held (record c.args.state.now { kept = map blocks_in kept }) (frame_in c.args.frame.now)
    (c.args.index, component))) c.deref.ensures.value)
    (grind (arith, common_steps))
