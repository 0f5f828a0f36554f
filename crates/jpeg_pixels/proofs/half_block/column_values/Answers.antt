use Rattle.std.proofs.Common.{ℕ, pos, neg_ℤ, ◌%◌, ◌∙◌}
use Rattle.jpeg_pixels.specs.Samples.{dequantized}
use Rattle.jpeg_pixels.specs.Scaled.{column_of_4}
use Rattle.jpeg_pixels.proofs.LaneSums.{kept_words}
use Rattle.jpeg_pixels.proofs.HalfLanes.{added_lanes, lower_columns, scaled_down, taken_lanes}
use Rattle.jpeg_pixels.proofs.HalfLanes.{upper_columns, weighed_lanes}
use Rattle.jpeg_pixels.proofs.half_block.column_values.Goals as goal

pub returns : goal.returns
unfolding column_of_4
returns c =
    let s = dequantized c.args.coefficients c.args.quantization_table.now in
    let even = weighed_lanes _ _ _ _ _ (λ (j : ℕ). s 0 (j % 4)) (λ (j : ℕ). s 2 (j % 4)) (pos 4) (pos 4) (pos 4)
    (neg_ℤ (pos 4)) (pos 0) c.weigh-even.ensures
    (kept_words c.products_twice-s0.result _ c.products_twice-s0.type_inv.1.1 ∙ c.products_twice-s0.ensures)
    (kept_words c.halves.result _ c.halves.type_inv.1.1 ∙ c.halves.ensures)
    (kept_words c.products_twice-s2.result _ c.products_twice-s2.type_inv.1.1 ∙ c.products_twice-s2.ensures)
    (kept_words c.halves-2.result _ c.halves-2.type_inv.1.1 ∙ c.halves-2.ensures) in
    let odd = weighed_lanes _ _ _ _ _ (λ (j : ℕ). s 1 (j % 4)) (λ (j : ℕ). s 3 (j % 4)) (pos 5352) (pos 2217)
    (pos 2217) (neg_ℤ (pos 5350)) (pos 512) c.weigh-odd.ensures
    (kept_words c.products_twice-s1.result _ c.products_twice-s1.type_inv.1.1 ∙ c.products_twice-s1.ensures)
    (kept_words c.halves-3.result _ c.halves-3.type_inv.1.1 ∙ c.halves-3.ensures)
    (kept_words c.products_twice-s3.result _ c.products_twice-s3.type_inv.1.1 ∙ c.products_twice-s3.ensures)
    (kept_words c.halves-4.result _ c.halves-4.type_inv.1.1 ∙ c.halves-4.ensures) in
    let tenth = scaled_down _ _ _ c.descale.ensures
    (kept_words c.weigh-odd.result _ c.weigh-odd.type_inv.1.1 ∙ odd) in
    let evens = kept_words c.weigh-even.result _ c.weigh-even.type_inv.1.1 ∙ even in
    let odds = kept_words c.descale.result _ c.descale.type_inv.1.1 ∙ tenth in
    record {
      upper = added_lanes _ _ _ _ _ _ c.fold.ensures.sum evens odds (upper_columns s);
      lower = taken_lanes _ _ _ _ _ _ c.fold.ensures.difference evens odds (lower_columns s);
    }
