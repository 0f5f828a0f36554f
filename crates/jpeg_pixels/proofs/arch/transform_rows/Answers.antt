use Rattle.std.proofs.Common.{pos, ◌+ℤ◌}
use Rattle.std.specs.Int.{w32, int_wrap}
use Rattle.jpeg_pixels.specs.Samples.{transformed}
use Rattle.jpeg_pixels.specs.LaneRows.{lane_at}
use Rattle.jpeg_pixels.proofs.ShortLanes.{turned_numbers}
use Rattle.jpeg_pixels.proofs.arch.transform_rows.Goals as goal

pub returns : goal.returns
returns c =
    turned_numbers c.kernel.result c.transpose.result
    (λ p j. int_wrap w32 (transformed (λ k. lane_at c.args.turned k j) p +ℤ pos 16842752)) c.kernel.ensures
    c.transpose.ensures
