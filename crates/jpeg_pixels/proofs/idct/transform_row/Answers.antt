use Rattle.std.proofs.Common.{◌≡◌, ◌<◌, ℕ, pos, ◌+ℤ◌, slice_index_or, arith, rules, FitsSigned, ap}
use Rattle.std.proofs.Common.{◌∙◌, sym, refl, ◌-◌, get_or-set_other, lit<, drop}
use Rattle.std.proofs.lemmas.List.{get_or-drop, get_or-take}
use Rattle.std.proofs.lemmas.Grind.{common_steps}
use Rattle.jpeg_pixels.proofs.LaneSums.{wrapped_flat}
use Rattle.std.specs.Int.{w32, int_wrap, int_shr}
use Rattle.std.proofs.lemmas.Int.{to_z-of_z}
use Rattle.jpeg_pixels.proofs.Sums.{set_next, table_at, transformed_one}
use Rattle.jpeg_pixels.specs.Samples.{clamped, transformed}
use Rattle.jpeg_pixels.proofs.idct.transform_row.Goals as goal

pub returns-clause-inside : goal.returns-clause-inside
returns-clause-inside c = λ x h.
    let below : x < c.samples.x = omega arith in
    c.samples.invariant.0 x below
    ∙ ap (λ z. clamped (int_shr z 17)) (table_at c.kernel-sums.result
    (λ j. int_wrap w32 (transformed (λ k. slice_index_or c.args.values.now k (pos 0)) j +ℤ pos 16842752))
    c.kernel-sums.ensures x h)

pub samples-preserved : goal.samples-preserved
samples-preserved c = search (rules, get_or-set_other, set_next, slice_index_or, to_z-of_z)

pub returns-then-is_zero-clause-inside : goal.returns-then-is_zero-clause-inside
returns-then-is_zero-clause-inside c = λ x h.
    let below : x < c.loop-x.x = omega arith in
    let values = c.args.values.now in
    let first = slice_index_or values 0 (pos 0) in
    let fits : FitsSigned w32 first = search rules in
    let zeros = c.if-is_zero.ensures.0 refl in
    let none : (k : ℕ) → 0 < k → k < 8 → slice_index_or values k (pos 0) ≡ pos 0 = λ k some small.
    grind (
      arith,
      common_steps,
      zeros (k - 1) (pos 0),
      get_or-take 7 (drop 1 values) (k - 1) (pos 0),
      get_or-drop 1 values (k - 1) (pos 0),
    ) in
    c.loop-x.invariant.0 x below ∙ c.sample_of-sample.ensures
    ∙ ap (λ z. clamped (int_shr z 17)) (wrapped_flat first 16842752 fits (lit< tt)
    ∙ ap (λ z. int_wrap w32 (z +ℤ pos 16842752)) (sym (transformed_one (λ k. slice_index_or values k (pos 0)) x h
    none)))
