use Rattle.jpeg_pixels.specs.ShortRows.{line_value}
use Rattle.jpeg_pixels.proofs.ShortLanes.{line_fits, line_row}
use Rattle.jpeg_pixels.proofs.short_block.short_lines.Goals as goal

pub returns : goal.returns
returns c f numbers =
    let sums = c.pair_kernel-sums.result in
    let is = c.pair_kernel-sums.ensures (λ k j. f j k) numbers in
    c.narrowed_rows.ensures (λ x y. line_value f y x) (λ x y _ _. line_fits f y x) (record {
      r0 = line_row f 0 sums.r0 is.r0;
      r1 = line_row f 1 sums.r1 is.r1;
      r2 = line_row f 2 sums.r2 is.r2;
      r3 = line_row f 3 sums.r3 is.r3;
      r4 = line_row f 4 sums.r4 is.r4;
      r5 = line_row f 5 sums.r5 is.r5;
      r6 = line_row f 6 sums.r6 is.r6;
      r7 = line_row f 7 sums.r7 is.r7;
    })
