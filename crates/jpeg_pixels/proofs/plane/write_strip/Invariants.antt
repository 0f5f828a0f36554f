use Rattle.std.proofs.Common.{◌*◌, length, slice_index_or}
use Rattle.jpeg_pixels.specs.Planes.{plane_sample, zero_coefficients}
use Rattle.jpeg_pixels.proofs.PlaneRows.{HoldsSamples}
use Rattle.jpeg_pixels.proofs.plane.write_strip.Given as goal

abbrev pub invariant-loop-column : goal.invariant-loop-column
invariant-loop-column l = HoldsSamples l.scale (l.scale * length l.blocks) (l.scale * l.column)
    (plane_sample l.scale l.table (λ row index. slice_index_or l.blocks index
    zero_coefficients)) l.strip
