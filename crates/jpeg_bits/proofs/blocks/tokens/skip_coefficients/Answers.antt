use Rattle.jpeg_bits.proofs.blocks.tokens.skip_coefficients.Goals as goal
use Rattle.std.proofs.Common.{rules}
use Rattle.jpeg_bits.proofs.WideTokens.{skip-over, skip-to-end, skip-token}

pub returns-then-is_last-clause-run : goal.returns-then-is_last-clause-run
returns-then-is_last-clause-run g c = search (rules, skip-to-end)

pub loop-left-preserved-then-has : goal.loop-left-preserved-then-has
loop-left-preserved-then-has g c = search (rules, skip-over)

pub loop-left-preserved-in-Value : goal.loop-left-preserved-in-Value
loop-left-preserved-in-Value g c =
    let token = rw c.in-Value.is at c.in-Some.ensures.token in
    let after = skip-token c.args.table.now c.args.room _ c.args.buffered.now _ _ _ c.args.source.now _
    c.fill.new.source _
    c.loop-left.invariant.text c.if-not-fill.ensures.holds c.loop-left-test.true _ token in search rules

pub loop-left-preserved : goal.loop-left-preserved
loop-left-preserved g c =
    let token = rw c.in-Sixteen.is at c.in-Some.ensures.token in
    let after = skip-token c.args.table.now c.args.room _ c.args.buffered.now _ _ _ c.args.source.now _
    c.fill.new.source _
    c.loop-left.invariant.text c.if-not-fill.ensures.holds c.loop-left-test.true _ token in search rules

pub returns-in-Rest-clause-run : goal.returns-in-Rest-clause-run
returns-in-Rest-clause-run g c =
    rw c.in-Rest.is at (skip-token c.args.table.now c.args.room _ c.args.buffered.now _ _ _ c.args.source.now _
    c.fill.new.source _ c.loop-left.invariant.text c.if-not-fill.ensures.holds c.loop-left-test.true _
    c.in-Some.ensures.token)
