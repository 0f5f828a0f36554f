use Rattle.std.proofs.Common.{arith}
use Rattle.zaxbriar_strict.proofs.Values.{high-value, low-value}
use Rattle.zaxbriar_strict.proofs.bits.extended.Goals as goal

pub returns-then-from-power_of_two : goal.returns-then-from-power_of_two
returns-then-from-power_of_two c =
    let p = c.power_of_two-then-from-power_of_two in
    let low = c.if-from-power_of_two.true in
    let from = c.from.ensures in
    let b = low-value c.args.number c.args.category c.power_of_two.result p.result
    c.from-then-from-power_of_two.result c.requires.some c.requires.below c.power_of_two.ensures.value
    p.ensures.value p.ensures.most c.from-then-from-power_of_two.ensures (omega (arith, low, from)) in
    record { category = b.category; number = b.number }

pub returns-else-from-power_of_two : goal.returns-else-from-power_of_two
returns-else-from-power_of_two c =
    let high = c.if-from-power_of_two.false in
    let from = c.from.ensures in
    let b = high-value c.args.number c.args.category c.power_of_two.result
    c.from-else-from-power_of_two.result c.requires.some c.requires.below c.ranges.number.fits
    c.power_of_two.ensures.value c.from-else-from-power_of_two.ensures (omega (arith, high, from)) in
    record { category = b.category; number = b.number }
