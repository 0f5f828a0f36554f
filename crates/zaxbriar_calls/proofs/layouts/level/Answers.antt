use Rattle.std.proofs.Common.{◌≡◌, ◌∙◌, ◌≤◌, arith}
use Rattle.std.specs.Prelude.{min}
use Rattle.zaxbriar_calls.specs.Layouts.{greatest, level, sample_at}
use Rattle.zaxbriar_calls.proofs.Levels.{level-kept, product-fits}
use Rattle.zaxbriar_calls.proofs.layouts.level.Goals as goal

pub returns-then-most-wide-clause-level : goal.returns-then-most-wide-clause-level
returns-then-most-wide-clause-level c =
    let is : greatest c.args.precision ≡ c.args.full = grind arith in
    let kept : c.min.result ≡ min c.args.full (sample_at c.args.precision c.args.pixel.now c.args.place) = grind arith in
    kept ∙ level-kept c.args.full c.args.precision c.args.place c.args.pixel.now c.requires.some is

pub overflow_mul-product : goal.overflow_mul-product
overflow_mul-product c =
    let sample : c.from.result ≤ 65535 = grind arith in
    let full : c.from-wide.result ≤ 65535 = grind arith in
    let product = product-fits c.from.result c.from-wide.result sample full in
    record { fits = omega (arith, product) }

pub overflow_add-rounded : goal.overflow_add-rounded
overflow_add-rounded c =
    let sample : c.from.result ≤ 65535 = grind arith in
    let full : c.from-wide.result ≤ 65535 = grind arith in
    let most : c.greatest-most.result ≤ 65535 = grind arith in
    let product = product-fits c.from.result c.from-wide.result sample full in
    record { fits = omega (arith, product, most) }

pub returns-clause-level : goal.returns-clause-level
unfolding level
returns-clause-level c = grind arith
