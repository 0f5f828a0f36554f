use Rattle.std.proofs.Common.{◌*◌, ◌-◌, length, arith, ◌∙◌}
use Rattle.jpeg_pixels.proofs.PlaneRows.{WritesBlock-next}
use Rattle.jpeg_pixels.proofs.half_block.write_line.Goals as goal

pub returns : goal.returns
returns c f old is before =
    let stride = c.args.output_linestride in
    let y = c.args.y in
    WritesBlock-next 4 3 y stride f old c.args.output.now c.copy_line.new.output
    (length c.args.output.now - y * stride) c.requires.wide (omega (arith, c.requires.row)) (omega arith) (omega arith)
    (λ x h. c.copy_line.ensures.inside x h ∙ is x h) c.copy_line.ensures.others before
