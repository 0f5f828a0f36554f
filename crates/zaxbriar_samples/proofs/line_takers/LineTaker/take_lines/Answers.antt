use Rattle.std.proofs.Common.{◌∙◌, ◌++◌, List, ap, arith, drop, rules, sym, ℕ}
use Rattle.std.proofs.lemmas.Bool.{eqb-true}
use Rattle.std.proofs.lemmas.List.{nil_from_length, take-append-drop}
use Rattle.zaxbriar_samples.proofs.TakenLines.{all-of-text, none-of-text, some-more}
use Rattle.zaxbriar_samples.proofs.line_takers.LineTaker.take_lines.Goals as goal

pub loop-rest-init : goal.loop-rest-init
loop-rest-init g c plan lines before h =
    none-of-text plan lines c.args.bytes.now c.args.self.now before (g.W.Write.contents c.args.writer.now) h

pub loop-rest-smaller : goal.loop-rest-smaller
loop-rest-smaller g c = search (rules, arith)

pub loop-rest-preserved : goal.loop-rest-preserved
loop-rest-preserved g c plan lines before h =
    some-more plan lines c.args.bytes.now c.loop-rest.rest.now c.split_at.result.0.now c.split_at.result.1.now
    c.loop-rest.self c.take_line.new.self before (g.W.Write.contents c.loop-rest.writer)
    (g.W.Write.contents c.take_line.new.writer)
    (sym (take-append-drop c.loop-rest.self.line_bytes c.loop-rest.rest.now)
    ∙ ap (λ (l : List ℕ). l ++ drop c.loop-rest.self.line_bytes c.loop-rest.rest.now) (sym c.split_at.ensures.front)
    ∙ ap (λ (l : List ℕ). c.split_at.result.0.now ++ l) (sym c.split_at.ensures.back)) (search rules)
    c.in_ok-take_line.ensures.taken (c.loop-rest.invariant plan lines before h)

pub returns-clause-taken : goal.returns-clause-taken
returns-clause-taken g c plan lines before h =
    all-of-text plan lines c.args.bytes.now c.loop-rest.rest.now c.loop-rest.self before
    (g.W.Write.contents c.loop-rest.writer) (nil_from_length c.loop-rest.rest.now (eqb-true _ 0 (sym c.is_empty.ensures ∙ c.loop-rest-test.false))) (c.loop-rest.invariant plan lines before h)
