use Rattle.std.proofs.Common.{List, rules, subst, ℕ}
use Rattle.zaxbriar_samples.proofs.TakenLines.{TakesLine, part-taken}
use Rattle.zaxbriar_samples.proofs.line_takers.LineTaker.take_line.Goals as goal

pub returns-clause-taken : goal.returns-clause-taken
returns-clause-taken g c plan lines before is h =
    part-taken c.take_line-2.result plan lines c.args.line.now c.args.self.now c.in-Some.window c.take_line-2.new.self before
    (g.W.Write.contents c.args.writer.now) (g.W.Write.contents c.take_line-2.new.writer) c.in-Some.is c.requires.more is
    (search rules) (search rules) (subst (λ (l : List ℕ). TakesLine c.take_line-2.result l c.args.self.now.target c.take_line-2.new.self
    (g.W.Write.contents c.args.writer.now) (g.W.Write.contents c.take_line-2.new.writer)) c.part_at-part.ensures
    c.take_line-2.ensures.taken) h
