use Rattle.std.proofs.Common.{arith}
use Rattle.jpeg_meaning.proofs.InPlace.{small-side}
use Rattle.jpeg_decoder.proofs.scan.strips.plane_size.Goals as goal

pub overflow_mul-result : goal.overflow_mul-result
overflow_mul-result c = let w = c.ranges.wide.fits in let p = small-side c.from.result c.args.scale
    (omega arith) c.requires in record { fits = omega arith }
