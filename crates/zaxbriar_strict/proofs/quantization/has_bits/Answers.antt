use Rattle.std.proofs.Common.{arith}
use Rattle.std.proofs.lemmas.Int.{ints}
use Rattle.zaxbriar_strict.proofs.StepTables.{is-8-bit}
use Rattle.zaxbriar_strict.proofs.quantization.has_bits.Goals as goal

pub returns-clause-eight : goal.returns-clause-eight
returns-clause-eight c = λ t eight.
    let e = c.greatest_of-most.ensures.eight eight in
    let low = c.if-not-is_dc_within.ensures.low t in
    let high = c.if-not-is_dc_within.ensures.high t in
    let end = c.loop-place-test.false in
    is-8-bit c.args.block.now c.told-block (omega (arith, ints, high, e)) (omega (arith, ints, low, e))
    (λ k some within. omega (arith, e, c.loop-place.invariant k (omega (arith, end, within)) some))
