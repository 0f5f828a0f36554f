use Rattle.std.proofs.Common.{rules, lit<}
use Rattle.jpeg_pixels.specs.Samples.{column_value, dequantized}
use Rattle.jpeg_pixels.proofs.ShortLanes.{value_fits, value_row}
use Rattle.jpeg_pixels.proofs.short_block.short_columns.Goals as goal

pub returns : goal.returns
returns c coefficients quantization within numbers =
    let f = column_value coefficients quantization in
    let is = c.pair_kernel-sums.ensures (dequantized coefficients quantization) numbers in
    c.turned_pairs.ensures f (c.narrowed_rows.ensures f
    (λ row column. value_fits coefficients quantization within row column)
    (search (rules, lit<, value_row coefficients quantization within, is)))
