use Rattle.std.proofs.Common.{refl, rules}
use Rattle.jpeg_pixels.proofs.LaneSums.{lane_add, lane_sub, lanes_given, lanes_read}
use Rattle.jpeg_pixels.proofs.half_block.fold.Goals as goal

pub returns : goal.returns
returns c =
    let even = lanes_given c.args.even _ (search rules) c.well_formed.0.1.1 in
    let odd = lanes_given c.args.odd _ (search rules) c.well_formed.1.0.1.1 in
    record {
      sum = lanes_read (lane_add even odd) (λ j. refl);
      difference = lanes_read (lane_sub even odd) (λ j. refl);
    }
