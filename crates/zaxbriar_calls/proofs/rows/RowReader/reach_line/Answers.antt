use Rattle.std.proofs.Common.{Ok, ap, rules}
use Rattle.zaxbriar_calls.proofs.TakenSteps.{end-reached, kept-at-first, kept-on}
use Rattle.zaxbriar_calls.proofs.rows.RowReader.reach_line.Goals as goal

pub loop-self-init : goal.loop-self-init
loop-self-init c = kept-at-first c.args.self.now

pub returns-in_err-read-clause-reaches : goal.returns-in_err-read-clause-reaches
returns-in_err-read-clause-reaches c start bytes t =
    let h = c.in_err-read.ensures.reaches start bytes (c.loop-self.invariant.taken start bytes t) in search rules

pub returns-then-not-branch-clause-reaches : goal.returns-then-not-branch-clause-reaches
returns-then-not-branch-clause-reaches c start bytes t =
    end-reached start bytes c.in_ok-read.field-0 c.read.new.self c.if-not-branch.true
    (c.in_ok-read.ensures.reaches start bytes (c.loop-self.invariant.taken start bytes t))

pub loop-self-preserved : goal.loop-self-preserved
loop-self-preserved c =
    kept-on c.args.self.now c.loop-self.self c.read.new.self c.in_ok-read.field-0 c.loop-self.invariant
    c.if-not-branch.false c.in_ok-read.ensures.reaches c.in_ok-read.ensures.line_bytes c.in_ok-read.ensures.answer
    c.in_ok-read.ensures.reason

pub returns-clause-reaches : goal.returns-clause-reaches
returns-clause-reaches c start bytes t = c.loop-self.invariant.taken start bytes t

pub loop-self-smaller : goal.loop-self-smaller
loop-self-smaller c = c.in_ok-read.ensures.fewer (ap (λ b. Ok b) c.if-not-branch.false)
