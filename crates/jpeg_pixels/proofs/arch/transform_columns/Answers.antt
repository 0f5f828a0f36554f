use Rattle.std.proofs.Common.{rules}
use Rattle.jpeg_pixels.proofs.LaneSums.{lanes_are}
use Rattle.jpeg_pixels.proofs.ShortLanes.{column_row}
use Rattle.jpeg_pixels.proofs.arch.transform_columns.Goals as goal

pub returns : goal.returns
returns c =
    let below = c.below_first_row-below in
    let flat = c.flat_row-flat in
    let row = column_row c.args.coefficients c.args.quantization_table.now c.args.inputs flat.result
    below.result (lanes_are flat.result _ (search rules) flat.type_inv.1.1)
    (lanes_are below.result _ (search rules) below.type_inv.1.1) below.ensures flat.ensures
    c.requires in
    let sums = c.kernel-sums.result in
    let are = c.kernel-sums.ensures in
    let t = c.kernel-sums.type_inv.1.1 in
    record {
      r0 = row 0 sums.r0 (lanes_are sums.r0 _ (search rules) t.0.1.1) are.r0;
      r1 = row 1 sums.r1 (lanes_are sums.r1 _ (search rules) t.1.0.1.1) are.r1;
      r2 = row 2 sums.r2 (lanes_are sums.r2 _ (search rules) t.1.1.0.1.1) are.r2;
      r3 = row 3 sums.r3 (lanes_are sums.r3 _ (search rules) t.1.1.1.0.1.1) are.r3;
      r4 = row 4 sums.r4 (lanes_are sums.r4 _ (search rules) t.1.1.1.1.0.1.1) are.r4;
      r5 = row 5 sums.r5 (lanes_are sums.r5 _ (search rules) t.1.1.1.1.1.0.1.1) are.r5;
      r6 = row 6 sums.r6 (lanes_are sums.r6 _ (search rules) t.1.1.1.1.1.1.0.1.1) are.r6;
      r7 = row 7 sums.r7 (lanes_are sums.r7 _ (search rules) t.1.1.1.1.1.1.1.0.1.1) are.r7;
    }
