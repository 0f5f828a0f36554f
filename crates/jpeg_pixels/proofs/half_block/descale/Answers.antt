use Rattle.std.proofs.Common.{rules}
use Rattle.jpeg_pixels.proofs.LaneSums.{lanes_are}
use Rattle.jpeg_pixels.proofs.ShortLanes.{signed_given, signed_lanes, signed_shr}
use Rattle.jpeg_pixels.proofs.half_block.descale.Goals as goal

pub returns : goal.returns
returns c =
    let are = lanes_are c.args.sums _ (search rules) c.well_formed.0.1.1 in
    signed_lanes (signed_shr 10 (signed_given c.args.sums are.long are.fits))
