use Rattle.std.proofs.Common.{refl, rules}
use Rattle.jpeg_pixels.proofs.LaneSums.{lane_add, lane_mul, lane_splat, lanes_given, lanes_read}
use Rattle.jpeg_pixels.proofs.half_block.weigh.Goals as goal

pub returns : goal.returns
returns c =
    let a = lanes_given c.args.a _ (search rules) c.well_formed.0.1.1 in
    let p = lanes_given c.args.p _ (search rules) c.well_formed.1.0.1.1 in
    let b = lanes_given c.args.b _ (search rules) c.well_formed.1.1.0.1.1 in
    let q = lanes_given c.args.q _ (search rules) c.well_formed.1.1.1.0.1.1 in
    lanes_read (lane_add (lane_add (lane_mul a p) (lane_mul b q)) (lane_splat c.args.bias c.ranges.bias)) (λ j. refl)
