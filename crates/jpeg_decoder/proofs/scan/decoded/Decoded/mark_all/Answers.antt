use Rattle.std.proofs.lemmas.Grind.{common_steps}
use Rattle.std.proofs.lemmas.List.{get_or_default}
use Rattle.std.proofs.Common.{rules, ◌≡◌, ◌<◌, ◌≤◌, ◌∙◌, ap, arith, get_or, length, sym, List}
use Rattle.jpeg_meaning.specs.ScanSegments.{Coding}
use Rattle.jpeg_decoder.specs.Steps.{marks_after}
use Rattle.jpeg_decoder.proofs.ByRows.MarkedScans.{marked-all, marked-ended, marked-next, marks-none, marks-step}
use Rattle.jpeg_decoder.proofs.ByRows.MarkedScans.{marks_of}
use Rattle.jpeg_decoder.proofs.scan.decoded.Decoded.mark_all.Goals as goal

pub loop-coded-preserved : goal.loop-coded-preserved
loop-coded-preserved c =
    let l = c.loop-coded in
    let p = c.args.scan.now.pass in
    let cs = c.components-codings.result.now in
    let coded = c.coded-item.result in
    let within : l.coded-index < length cs = search rules in
    let is : coded ≡ get_or cs l.coded-index coded = grind (arith, common_steps) in
    let index : coded.index < length l.self.finished = search rules in
    let marked : c.finish.new.marks ≡ marks_after p l.self.finished coded.index =
    grind (arith, common_steps, get_or_default) in
    record {
      kept = search rules;
      samples = search rules;
      planes = search rules;
      marks = marks-step p cs l.coded-index coded l.self.finished c.finish.new.marks within is marked
          ∙ l.invariant.marks;
      all = λ whole. marked-next cs l.coded-index coded l.self.finished c.finish.new.marks within is index
          (c.finish.ensures.all (c.pass.ensures.pass ∙ whole)) (l.invariant.all whole);
    }

pub returns-clause-marked : goal.returns-clause-marked
returns-clause-marked c base arrays count =
    let l = c.loop-coded in
    let s = c.args.scan.now in
    let cs = c.components-codings.result.now in
    let end : length cs ≤ l.coded-index = search rules in
    marked-all s.pass s.codings arrays base c.args.self.now l.self l.invariant.kept l.invariant.samples
    (sym (marks-none s.pass cs l.coded-index l.self.finished end) ∙ l.invariant.marks
    ∙ ap (λ (codings : List Coding). marks_of s.pass codings c.args.self.now.finished)
    c.components-codings.ensures.codings) count

pub returns-clause-all : goal.returns-clause-all
returns-clause-all c whole =
    let l = c.loop-coded in
    let cs = c.components-codings.result.now in
    let end : length cs ≤ l.coded-index = search rules in
    marked-ended cs c.args.scan.now.codings l.coded-index l.self.finished end c.components-codings.ensures.codings
    (l.invariant.all whole)
