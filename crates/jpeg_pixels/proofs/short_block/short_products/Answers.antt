use Rattle.std.proofs.Common.{◌+◌, ◌*ℤ◌, pos, ap, ◌∙◌, arith, rules, slice_index_or, slice_index}
use Rattle.std.specs.Int.{w16, int_wrap}
use Rattle.jpeg_pixels.proofs.LaneSums.{halves_fit}
use Rattle.jpeg_pixels.proofs.ShortLanes.{signed_loaded, signed_mul, signed_read, product_exact, sixteen_same}
use Rattle.jpeg_pixels.proofs.short_block.short_products.Goals as goal

pub returns : goal.returns
returns c quantization has within =
    let coefficients = c.args.coefficients in
    let values = c.args.values in
    let at = c.args.at in
    let cs = signed_loaded coefficients at (search rules) c.requires (halves_fit coefficients _ c.well_formed.0.1.1) in
    let vs = signed_loaded values at (search rules) c.requires (halves_fit values _ c.well_formed.1.0.1.1) in
    signed_read (signed_mul cs vs) ∙ sixteen_same _ _ (λ j h.
    ap (λ z. int_wrap w16 (slice_index_or coefficients (at + j) (pos 0) *ℤ z)) (has.are (at + j) (omega arith))
    ∙ product_exact _ (slice_index quantization (at + j)) (within.are (at + j) (omega arith)))
