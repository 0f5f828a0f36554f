use Rattle.std.proofs.Common.{rules}
use Rattle.jpeg_pixels.specs.Samples.{sample, column_value}
use Rattle.jpeg_pixels.specs.ShortRows.{line_value, HasShortProducts}
use Rattle.jpeg_pixels.proofs.short_block.write_block.Goals as goal

pub returns-then-is_within : goal.returns-then-is_within
unfolding sample line_value
returns-then-is_within c =
    let coefficients = c.args.coefficients.now in
    let quantization = c.args.quantization_table.now in
    let within : HasShortProducts coefficients quantization = search rules in
    let f = column_value coefficients quantization in
    let inputs = c.short_inputs.ensures quantization c.requires.table within in
    let columns = c.short_columns-columns.ensures coefficients quantization within inputs in
    c.write_lines.ensures (λ x y. line_value f y x) (c.short_lines.ensures f columns)
