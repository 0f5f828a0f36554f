use Rattle.std.proofs.Common.{rules, ◌∙◌, sym}
use Rattle.jpeg_segments.specs.FrameView.{component_in}
use Rattle.jpeg_decoder.proofs.Partial.ShownParts.{kept-length}
use Rattle.jpeg_decoder.proofs.picture.partial.plane_held.Goals as goal

pub render-requires-clause-blocks : goal.render-requires-clause-blocks
render-requires-clause-blocks c =
    let array = c.index-kept-index.result in
    kept-length _ c.args.kept.now c.args.index array array (component_in c.args.component.now)
    (sym c.are_kept.ensures ∙ c.if-are_kept.true) (c.requires.within (sym c.are_kept.ensures ∙ c.if-are_kept.true))
    (search rules) c.requires.blocks
