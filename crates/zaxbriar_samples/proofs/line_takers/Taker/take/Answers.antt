use Rattle.zaxbriar_samples.proofs.TakenLines.{bytes-taken}
use Rattle.zaxbriar_samples.proofs.line_takers.Taker.take.Goals as goal

pub returns-in-Lines-clause-taken : goal.returns-in-Lines-clause-taken
returns-in-Lines-clause-taken g c plan all before h =
    let some = rw c.in-Lines.is at h in
    bytes-taken c.take_lines.result plan some.0 all c.args.bytes.now c.take_lines.new.self before
    (g.W.Write.contents c.take_lines.new.writer) some.1 (c.take_lines.ensures.taken plan some.0 before some.2)
