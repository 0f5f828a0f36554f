use Rattle.zaxbriar_samples.proofs.TakenLines.{png-takes, small-takes, writer-takes}
use Rattle.zaxbriar_samples.proofs.line_takers.Target.take_line.Goals as goal

pub returns-in_ok-write_all-in-Writer-clause-taken :
    goal.returns-in_ok-write_all-in-Writer-clause-taken
returns-in_ok-write_all-in-Writer-clause-taken g c form said lines before low all is h =
    rw c.in-Writer.is (writer-takes form said lines c.args.line.now before (g.W.Write.contents c.args.writer.now)
    (g.W.Write.contents c.write_all.new.self) (rw c.in-Writer.is at h) c.in_ok-write_all-in-Writer.ensures.bytes)

pub returns-in-Png-clause-taken : goal.returns-in-Png-clause-taken
returns-in-Png-clause-taken g c form said lines before low all is h =
    png-takes c.write_line.result form said lines c.args.line.now c.in-Png.file c.write_line.new.self before
    (g.W.Write.contents c.args.writer.now) (g.W.Write.contents c.write_line.new.writer) all is c.write_line.ensures.same
    c.write_line.ensures.sums c.write_line.ensures.written (rw c.in-Png.is at h)

pub returns-in-Smaller-clause-taken : goal.returns-in-Smaller-clause-taken
returns-in-Smaller-clause-taken g c form said lines before low all is h =
    small-takes c.take_line.result form said lines c.args.line.now c.in-Smaller.small c.take_line.new.self before
    (g.W.Write.contents c.args.writer.now) low all is c.take_line.ensures.taken (rw c.in-Smaller.is at h)
