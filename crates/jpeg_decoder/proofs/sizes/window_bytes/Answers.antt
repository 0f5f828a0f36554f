use Rattle.std.proofs.Common.{◌∙◌, ap, arith, map, subst, sym}
use Rattle.std.proofs.lemmas.List.{length-map}
use Rattle.jpeg_segments.specs.FrameView.{component_in, frame_in}
use Rattle.jpeg_decoder.specs.ByRows.{HaveScales, unit_lines}
use Rattle.jpeg_decoder.proofs.ByRows.LinesOfWindows.{unit-most}
use Rattle.jpeg_decoder.proofs.Pictures.EndedPlanes.{decoded-scales}
use Rattle.jpeg_decoder.proofs.Pictures.PicturesOfPlanes.{decoded-few}
use Rattle.jpeg_decoder.proofs.sizes.window_bytes.Goals as goal

pub unit_lines-requires : goal.unit_lines-requires
unit_lines-requires c =
    subst (λ l. HaveScales (map component_in l)) (sym c.deref.ensures.value)
    (decoded-scales (frame_in c.args.frame.now) c.requires.decoded)

pub overflow_add-lines : goal.overflow_add-lines
overflow_add-lines c =
    let unit = c.unit_lines.ensures ∙ ap (λ l. unit_lines (map component_in l)) c.deref.ensures.value in
    let most = unit-most (frame_in c.args.frame.now) c.requires.decoded in omega (arith, unit, most)

pub lines_bytes-requires-clause-lines : goal.lines_bytes-requires-clause-lines
lines_bytes-requires-clause-lines c =
    let unit = c.unit_lines.ensures ∙ ap (λ l. unit_lines (map component_in l)) c.deref.ensures.value in
    let most = unit-most (frame_in c.args.frame.now) c.requires.decoded in omega (arith, unit, most)

pub lines_bytes-requires-clause-samples : goal.lines_bytes-requires-clause-samples
lines_bytes-requires-clause-samples c =
    let few = decoded-few (frame_in c.args.frame.now) c.requires.decoded in
    let long = length-map c.args.frame.now.components.items component_in in
    omega (arith, few, long)
