use Rattle.std.proofs.Common.{◌≡◌, ◌*◌, ◌≤◌, ℕ, ap, ◌∙◌, arith}
use Rattle.jpeg_segments.specs.Frame.{ceiling}
use Rattle.zaxbriar_strict.proofs.Sizes.{product-fits}
use Rattle.zaxbriar_strict.proofs.frame.own_parts.Goals as goal

pub returns : goal.returns
returns c = λ small some sized.
    let n = c.args.length in
    let factor = c.args.factor in
    let byte : factor ≤ 255 = omega (arith, c.ranges.factor.fits) in
    let fits = product-fits n factor small byte in
    let e = rw c.from.ensures at c.saturating_mul.ensures in
    let product : c.saturating_mul.result ≡ n * factor = omega (arith, e, fits) in
    c.parts_of.ensures sized
    ∙ ap (λ (k : ℕ). ceiling k c.args.side)
    (c.parts_of-samples.ensures some ∙ ap (λ (k : ℕ). ceiling k c.args.most) product)
