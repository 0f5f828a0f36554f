use Rattle.std.proofs.Common.{◌+◌, ◌*◌, slice_index}
use Rattle.jpeg_pixels.specs.Blocks.{WritesBlock}
use Rattle.jpeg_pixels.proofs.arch.copy_lines.Given as goal

abbrev pub invariant-loop-y : goal.invariant-loop-y
invariant-loop-y l = WritesBlock 8 l.y l.output_linestride (λ x y. slice_index l.samples (y * 8 + x)) l.fn.output
    l.output
