use Rattle.zaxbriar_samples.proofs.TakenLines.{all-taken}
use Rattle.zaxbriar_samples.proofs.line_takers.LineTaker.end.Goals as goal

pub returns-clause-written : goal.returns-clause-written
returns-clause-written g c plan lines before h =
    all-taken c.end.result plan lines c.args.self before (g.W.Write.contents c.args.writer.now)
    (g.W.Write.contents c.end.new.writer) c.if-self.false c.end.ensures.written h
