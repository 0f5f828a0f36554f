use Rattle.std.proofs.Common.{arith}
use Rattle.zaxbriar_calls.proofs.FedLines.{line-put, line-waits, lines-end}
use Rattle.zaxbriar_calls.proofs.fed_rows.FedRowReader.next_line.Goals as goal

pub returns-in-Ok-Lines : goal.returns-in-Ok-Lines
returns-in-Ok-Lines c =
    let done = c.reach_line.ensures in
    line-put c.args.self.now c.reach_line.new.self c.put_line.new.self c.reach_line.result c.in-Ok-Lines.field-0
    c.args.line.now c.put_line.new.line c.put_line.result c.in-Ok-Lines.is c.in-Ok-Lines.field-0-is (record {
      going = omega (arith, c.if-self-ne-OK.false);
      reaches = done.reaches;
      ended = done.ended;
      settings = done.settings;
      answer = done.answer;
      reason = done.reason;
    }) c.put_line.ensures.rows c.put_line.ensures.puts

pub returns-in-Ok-Waiting : goal.returns-in-Ok-Waiting
returns-in-Ok-Waiting c =
    let done = c.reach_line.ensures in
    line-waits c.args.self.now c.reach_line.new.self c.reach_line.result c.in-Ok-Waiting.field-0 c.args.line.now
    c.in-Ok-Waiting.is c.in-Ok-Waiting.field-0-is (record {
      going = omega (arith, c.if-self-ne-OK.false);
      reaches = done.reaches;
      ended = done.ended;
      settings = done.settings;
      answer = done.answer;
      reason = done.reason;
    })

pub returns-in-Ok-End : goal.returns-in-Ok-End
returns-in-Ok-End c =
    let done = c.reach_line.ensures in
    lines-end c.args.self.now c.reach_line.new.self c.reach_line.result c.in-Ok-End.field-0 c.args.line.now
    c.in-Ok-End.is c.in-Ok-End.field-0-is (record {
      going = omega (arith, c.if-self-ne-OK.false);
      reaches = done.reaches;
      ended = done.ended;
      settings = done.settings;
      answer = done.answer;
      reason = done.reason;
    })
