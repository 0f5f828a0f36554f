use Rattle.std.proofs.Common.{◌∙◌, ◌+◌, ◌*ℤ◌, ℕ, ℤ, List, map, of_z, to_z, pos, ap, arith, slice_index, slice_index_or}
use Rattle.std.specs.Int.{w16}
use Rattle.jpeg_pixels.specs.Samples.{dequantized}
use Rattle.jpeg_pixels.proofs.LaneSums.{halves_fit, kept_halves}
use Rattle.jpeg_pixels.proofs.ShortLanes.{paired_kept, sixteen_fits}
use Rattle.jpeg_pixels.proofs.short_block.short_inputs.Goals as goal

pub returns : goal.returns
unfolding dequantized
returns c quantization is within =
    let z : ℕ → ℕ → ℤ = λ at j.
    slice_index_or c.args.coefficients (at + j) (pos 0) *ℤ pos (slice_index quantization (at + j)) in
    let e0 = c.short_products.ensures quantization is.values within in
    let e4 = c.short_products-2.ensures quantization is.values within in
    let e2 = c.short_products-3.ensures quantization is.values within in
    let e6 = c.short_products-4.ensures quantization is.values within in
    let k0 = kept_halves c.short_products.result _ c.short_products.type_inv.1.1 ∙ e0 in
    let k4 = kept_halves c.short_products-2.result _ c.short_products-2.type_inv.1.1 ∙ e4 in
    let k2 = kept_halves c.short_products-3.result _ c.short_products-3.type_inv.1.1 ∙ e2 in
    let k6 = kept_halves c.short_products-4.result _ c.short_products-4.type_inv.1.1 ∙ e6 in
    let f0 = sixteen_fits c.short_products.result (z 0) e0 (halves_fit _ _ c.short_products.type_inv.1.1) in
    let f4 = sixteen_fits c.short_products-2.result (z 32) e4 (halves_fit _ _ c.short_products-2.type_inv.1.1) in
    let f2 = sixteen_fits c.short_products-3.result (z 16) e2 (halves_fit _ _ c.short_products-3.type_inv.1.1) in
    let f6 = sixteen_fits c.short_products-4.result (z 48) e6 (halves_fit _ _ c.short_products-4.type_inv.1.1) in
    let round : List ℤ → List ℤ = λ v. map (to_z w16) (map (of_z w16) v) in
    record {
      p04 = ap round (c.by_turns.ensures.first (z 0) (z 32) k0 k4) ∙ paired_kept (z 0) (z 32)
          (λ j h. f0 j (omega (arith, h))) (λ j h. f4 j (omega (arith, h)));
      p15 = ap round (c.by_turns.ensures.last (z 0) (z 32) k0 k4) ∙ paired_kept (λ j. z 0 (8 + j)) (λ j. z 32 (8 + j))
          (λ j h. f0 (8 + j) (omega (arith, h))) (λ j h. f4 (8 + j) (omega (arith, h)));
      p26 = ap round (c.by_turns-2.ensures.first (z 16) (z 48) k2 k6) ∙ paired_kept (z 16) (z 48)
          (λ j h. f2 j (omega (arith, h))) (λ j h. f6 j (omega (arith, h)));
      p37 = ap round (c.by_turns-2.ensures.last (z 16) (z 48) k2 k6) ∙ paired_kept (λ j. z 16 (8 + j)) (λ j. z 48 (8 + j))
          (λ j h. f2 (8 + j) (omega (arith, h))) (λ j h. f6 (8 + j) (omega (arith, h)));
    }
