use Rattle.zaxbriar_samples.proofs.TakenLines.{png-ends}
use Rattle.zaxbriar_samples.proofs.line_takers.Target.end.Goals as goal

pub returns-in-Png-clause-written : goal.returns-in-Png-clause-written
returns-in-Png-clause-written g c form said lines before all h =
    png-ends c.end.result form said lines c.in-Png.file before (g.W.Write.contents c.args.writer.now)
    (g.W.Write.contents c.end.new.writer) all (rw c.in-Png.is at h) c.end.ensures.written
