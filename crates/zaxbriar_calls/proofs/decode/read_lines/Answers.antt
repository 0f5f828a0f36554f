use Rattle.std.specs.List.{concat}
use Rattle.zaxbriar_calls.proofs.Parts.{lines-brought, lines-end, lines-refused}
use Rattle.zaxbriar_calls.proofs.decode.read_lines.Goals as goal

pub returns-in-Whole-clause-given : goal.returns-in-Whole-clause-given
returns-in-Whole-clause-given c known =
    rw c.in-Whole.is (lines-brought (λ p. concat p.lines) (λ p. p.fault) c.read_whole.result c.args.decoder.now
    c.read_whole.new.decoder c.read_whole.ensures.reads c.read_whole.ensures.entire known)

pub returns-in-Whole-clause-ends : goal.returns-in-Whole-clause-ends
returns-in-Whole-clause-ends c known =
    rw c.in-Whole.is (lines-end (λ p. concat p.lines) c.read_whole.result c.args.decoder.now c.read_whole.new.decoder
    c.read_whole.ensures.reads known)

pub returns-in-Whole-clause-named : goal.returns-in-Whole-clause-named
returns-in-Whole-clause-named c known =
    rw c.in-Whole.is (lines-refused c.read_whole.result c.args.decoder.now (c.read_whole.ensures.named known))
