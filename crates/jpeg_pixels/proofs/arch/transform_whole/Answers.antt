use Rattle.jpeg_pixels.specs.Samples.{column_value}
use Rattle.jpeg_pixels.proofs.ShortLanes.{turned_numbers, sums_numbers}
use Rattle.jpeg_pixels.proofs.arch.transform_whole.Goals as goal

pub returns : goal.returns
returns c =
    let f = column_value c.args.coefficients c.args.quantization_table.now in
    sums_numbers c.transpose.result c.transform_rows.result f
    (turned_numbers c.transform_columns-columns.result c.transpose.result f c.transform_columns-columns.ensures
    c.transpose.ensures) c.transform_rows.ensures
