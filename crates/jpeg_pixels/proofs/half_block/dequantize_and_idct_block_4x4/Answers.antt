use Rattle.std.proofs.Common.{◌∙◌}
use Rattle.jpeg_pixels.specs.HalfRows.{lower, row_sum, upper}
use Rattle.jpeg_pixels.specs.Scaled.{column_of_4, sample_of_4}
use Rattle.jpeg_pixels.proofs.HalfLanes.{clamped_by, no_line}
use Rattle.jpeg_pixels.proofs.LaneSums.{kept_words}
use Rattle.jpeg_pixels.proofs.half_block.dequantize_and_idct_block_4x4.Goals as goal

pub returns : goal.returns
unfolding sample_of_4
returns c =
    let values = column_of_4 c.args.coefficients.now c.args.quantization_table.now in
    let f = sample_of_4 c.args.coefficients.now c.args.quantization_table.now in
    let columns = c.column_values.ensures in
    let t = c.row_sums.type_inv.1.1 in
    let left = clamped_by _ _ (upper (λ x y. row_sum (values y) x)) c.clamp_sums.ensures
    (kept_words c.row_sums.result.0 _ t.0.1.1 ∙ c.row_sums.ensures.left values columns.upper columns.lower) in
    let right = clamped_by _ _ (lower (λ x y. row_sum (values y) x)) c.clamp_sums-2.ensures
    (kept_words c.row_sums.result.1 _ t.1.0.1.1 ∙ c.row_sums.ensures.right values columns.upper columns.lower) in
    let lines = c.lines_of.ensures in
    let old = c.args.output.now in
    c.write_line-4.ensures f old (lines.fourth f left right)
    (c.write_line-3.ensures f old (lines.third f left right)
    (c.write_line-2.ensures f old (lines.second f left right)
    (c.write_line.ensures f old (lines.first f left right) (no_line c.args.output_linestride f old))))
