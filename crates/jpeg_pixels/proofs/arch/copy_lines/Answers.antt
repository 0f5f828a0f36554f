use Rattle.std.proofs.Common.{◌*◌, ◌-◌, ◌+◌, drop, length, slice_index, arith, ◌∙◌}
use Rattle.std.proofs.lemmas.List.{get_or-take, get_or-drop}
use Rattle.jpeg_pixels.proofs.PlaneRows.{WritesBlock-next}
use Rattle.jpeg_pixels.proofs.arch.copy_lines.Goals as goal

pub loop-y-preserved : goal.loop-y-preserved
loop-y-preserved c =
    let stride = c.args.output_linestride in
    let y = c.loop-y.y in
    let samples = c.args.samples.now in
    WritesBlock-next 8 7 y stride (λ x y. slice_index samples (y * 8 + x)) c.args.output.now c.loop-y.output
    c.copy_line.new.output (length c.loop-y.output - y * stride)
    c.requires.wide (omega arith) (omega arith) (omega arith)
    (λ x h. c.copy_line.ensures.inside x h ∙ get_or-take (y * 8 + 8 - y * 8) (drop (y * 8) samples)
    x 0 (omega (arith, h)) ∙ get_or-drop (y * 8) samples x 0)
    c.copy_line.ensures.others c.loop-y.invariant
