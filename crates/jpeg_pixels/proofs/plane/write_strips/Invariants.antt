use Rattle.std.proofs.Common.{◌≡◌, ◌+◌, ◌*◌, take, slice_index_or}
use Rattle.jpeg_pixels.specs.Planes.{plane_of, zero_coefficients}
use Rattle.jpeg_pixels.proofs.plane.write_strips.Given as goal

abbrev pub invariant-loop-row : goal.invariant-loop-row
invariant-loop-row l = take (l.row * (l.scale * l.scale * l.blocks_wide)) l.strips
    ≡ plane_of l.scale l.table l.blocks_wide l.row
    (λ row column. slice_index_or l.blocks (row * l.blocks_wide + column) zero_coefficients)
