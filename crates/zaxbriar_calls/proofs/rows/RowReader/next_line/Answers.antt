use Rattle.std.proofs.Common.{arith}
use Rattle.zaxbriar_calls.proofs.TakenSteps.{end-reached, ends, refused}
use Rattle.zaxbriar_calls.proofs.rows.RowReader.next_line.Goals as goal

pub returns-in-Ok-false : goal.returns-in-Ok-false
returns-in-Ok-false c =
    ends c.args.self.now c.reach_line.new.self c.args.line.now (omega (arith, c.if-self-ne-OK.false))
    (omega (arith, c.if-line-self.false)) (λ start bytes t.
    end-reached start bytes c.in-Ok-false.field-0 c.reach_line.new.self c.in-Ok-false.field-0-test
    (c.in-Ok-false.ensures.reaches start bytes t)) c.in-Ok-false.ensures.reason

pub returns-in-Err : goal.returns-in-Err
returns-in-Err c =
    refused c.args.self.now c.reach_line.new.self c.refuse.new.self c.args.line.now c.in-Err.error c.refuse.result
    (omega (arith, c.if-self-ne-OK.false)) (omega (arith, c.if-line-self.false)) c.refuse.ensures.why
    c.refuse.ensures.rows c.in-Err.ensures.reaches
