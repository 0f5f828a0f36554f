use Rattle.std.proofs.Common.{rules}
use Rattle.jpeg_pixels.specs.Samples.{column_value}
use Rattle.jpeg_pixels.proofs.ShortLanes.{turned_numbers, sums_numbers}
use Rattle.jpeg_pixels.proofs.Corners.{zero_rows, no_product_below, no_value_right}
use Rattle.jpeg_pixels.proofs.arch.transform_corner.Goals as goal

pub with_zeros-inputs-requires : goal.with_zeros-inputs-requires
with_zeros-inputs-requires c = search (rules, no_product_below, zero_rows)

pub with_zeros-requires : goal.with_zeros-requires
with_zeros-requires c =
    let coefficients = c.args.coefficients in
    let quantization = c.args.quantization_table.now in
    let f = column_value coefficients quantization in
    zero_rows c.transpose.result (λ k j. f j k)
    (turned_numbers c.transform_columns-columns.result c.transpose.result f c.transform_columns-columns.ensures
    c.transpose.ensures)
    (λ k j right h _. no_value_right coefficients quantization c.requires j k right h)

pub returns : goal.returns
returns c =
    let f = column_value c.args.coefficients c.args.quantization_table.now in
    sums_numbers c.with_zeros.result c.transform_rows.result f
    (rw c.with_zeros.ensures (turned_numbers c.transform_columns-columns.result c.transpose.result f
    c.transform_columns-columns.ensures c.transpose.ensures)) c.transform_rows.ensures
