use Rattle.std.proofs.Common.{◌≤◌, map, arith, subst}
use Rattle.std.proofs.lemmas.Grind.{common_steps}
use Rattle.std.proofs.lemmas.List.{length-map}
use Rattle.std.proofs.lemmas.List.Sums.{sum_by_more}
use Rattle.jpeg_segments.specs.Frame.{Component}
use Rattle.jpeg_segments.specs.FrameView.{component_in}
use Rattle.jpeg_lossless.proofs.RowLoops.{mapped-at}
use Rattle.jpeg_pixels.proofs.SourceLists.{factors-at}
use Rattle.jpeg_decoder.proofs.sizes.component_bytes.Goals as goal

-- A block has at most 8 samples a side.
pub plane_bytes-planes-requires : goal.plane_bytes-planes-requires
plane_bytes-planes-requires c =
    let cs = c.args.frame.now.components.items in
    subst (λ (x : Component). x.scale ≤ 8)
    (mapped-at component_in cs c.loop-i.i c.index-component.result.now c.index-component.ensures)
    (factors-at (map component_in cs) c.loop-i.i _ c.requires.sampling
    (omega (arith, c.loop-i-test.true, c.len-i-end.ensures, length-map cs component_in))).scale_most

pub strip_bytes-strips-requires : goal.strip_bytes-strips-requires
strip_bytes-strips-requires c =
    let cs = c.args.frame.now.components.items in
    subst (λ (x : Component). x.scale ≤ 8)
    (mapped-at component_in cs c.loop-i.i c.index-component.result.now c.index-component.ensures)
    (factors-at (map component_in cs) c.loop-i.i _ c.requires.sampling
    (omega (arith, c.loop-i-test.true, c.len-i-end.ensures, length-map cs component_in))).scale_most

pub loop-i-preserved : goal.loop-i-preserved
loop-i-preserved c =
    let cs = c.args.frame.now.components.items in
    let at = mapped-at component_in cs c.loop-i.i c.index-component.result.now c.index-component.ensures in
    grind (arith, common_steps, sum_by_more, length-map cs component_in)
