use Rattle.std.proofs.Common.{◌-◌, ◌≤◌, arith}
use Rattle.zaxbriar_calls.proofs.Levels.{light-most, product-fits}
use Rattle.zaxbriar_calls.proofs.layouts.light.Goals as goal

pub overflow_mul-product : goal.overflow_mul-product
overflow_mul-product c =
    let full : c.from-wide.result ≤ 65535 = grind arith in
    let product = product-fits (c.from-wide.result - c.from.result) (c.from-wide.result - c.from-2.result)
    (omega (arith, full)) (omega (arith, full)) in
    record { fits = omega (arith, product) }

pub overflow_add-rounded : goal.overflow_add-rounded
overflow_add-rounded c =
    let full : c.from-wide.result ≤ 65535 = grind arith in
    let product = product-fits (c.from-wide.result - c.from.result) (c.from-wide.result - c.from-2.result)
    (omega (arith, full)) (omega (arith, full)) in
    record { fits = omega (arith, product, full) }

pub overflow_cast-result : goal.overflow_cast-result
overflow_cast-result c =
    let most = light-most c.args.full c.args.ink c.args.black c.requires.some in
    let full : c.args.full ≤ 65535 = grind arith in
    record { fits = grind (arith, most) }

pub returns-clause-most : goal.returns-clause-most
returns-clause-most c =
    let most = light-most c.args.full c.args.ink c.args.black c.requires.some in grind (arith, most)
