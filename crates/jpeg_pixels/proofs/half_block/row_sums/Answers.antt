use Rattle.std.proofs.Common.{◌≡◌, ℕ, ℤ, pos, neg_ℤ, ◌%◌, ◌∙◌}
use Rattle.jpeg_pixels.specs.HalfRows.{lower, row_sum, upper}
use Rattle.jpeg_pixels.specs.Lanes.{lanes}
use Rattle.jpeg_pixels.proofs.HalfLanes.{added_lanes, first_columns, last_columns, left_sums}
use Rattle.jpeg_pixels.proofs.HalfLanes.{right_sums, taken_lanes, weighed_lanes}
use Rattle.jpeg_pixels.proofs.LaneSums.{kept_words}
use Rattle.jpeg_pixels.proofs.half_block.row_sums.Goals as goal

pub returns : goal.returns
returns c =
    let sums = λ (f : ℕ → ℕ → ℤ) (up : c.args.rows.0 ≡ lanes (upper f)) (low : c.args.rows.1 ≡ lanes (lower f)).
    let t = c.well_formed.0.1.1 in
    let up' = kept_words c.args.rows.0 _ t.0.1.1 ∙ up in
    let low' = kept_words c.args.rows.1 _ t.1.0.1.1 ∙ low in
    let mixed = c.interleave_halves in
    let u = mixed.type_inv.1.1 in
    let first = first_columns f _ _ _ _ _ up' low' (kept_words mixed.result.0 _ u.0.1.1 ∙ mixed.ensures.first)
    c.split_columns.ensures.first c.split_columns.ensures.second in
    let last = last_columns f _ _ _ _ _ up' low' (kept_words mixed.result.1 _ u.1.0.1.1 ∙ mixed.ensures.last)
    c.split_columns-2.ensures.first c.split_columns-2.ensures.second in
    let v = c.split_columns.type_inv.1.1 in
    let w = c.split_columns-2.type_inv.1.1 in
    let even = weighed_lanes _ _ _ _ _ (λ (j : ℕ). f (j % 4) 0) (λ (j : ℕ). f (j % 4) 2) (pos 4096) (pos 4096)
    (pos 4096) (neg_ℤ (pos 4096)) (pos 16842752) c.weigh-even.ensures
    (kept_words c.split_columns.result.0 _ v.0.1.1 ∙ first.0)
    (kept_words c.halves.result _ c.halves.type_inv.1.1 ∙ c.halves.ensures)
    (kept_words c.split_columns-2.result.0 _ w.0.1.1 ∙ last.0)
    (kept_words c.halves-2.result _ c.halves-2.type_inv.1.1 ∙ c.halves-2.ensures) in
    let odd = weighed_lanes _ _ _ _ _ (λ (j : ℕ). f (j % 4) 1) (λ (j : ℕ). f (j % 4) 3) (pos 5352) (pos 2217)
    (pos 2217) (neg_ℤ (pos 5350)) (pos 0) c.weigh-odd.ensures
    (kept_words c.split_columns.result.1 _ v.1.0.1.1 ∙ first.1)
    (kept_words c.halves-3.result _ c.halves-3.type_inv.1.1 ∙ c.halves-3.ensures)
    (kept_words c.split_columns-2.result.1 _ w.1.0.1.1 ∙ last.1)
    (kept_words c.halves-4.result _ c.halves-4.type_inv.1.1 ∙ c.halves-4.ensures) in
    let evens = kept_words c.weigh-even.result _ c.weigh-even.type_inv.1.1 ∙ even in
    let odds = kept_words c.weigh-odd.result _ c.weigh-odd.type_inv.1.1 ∙ odd in
    let both : (c.fold.result.0 ≡ lanes (upper (λ x y. row_sum (f y) x)))
    × (c.fold.result.1 ≡ lanes (lower (λ x y. row_sum (f y) x))) = (
      added_lanes _ _ _ _ _ _ c.fold.ensures.sum evens odds (left_sums f),
      taken_lanes _ _ _ _ _ _ c.fold.ensures.difference evens odds (right_sums f),
    ) in
    both in
    record { left = λ f up low. (sums f up low).0; right = λ f up low. (sums f up low).1 }
