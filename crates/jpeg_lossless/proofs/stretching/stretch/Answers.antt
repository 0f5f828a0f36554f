use Rattle.std.proofs.Common.{rules, ◌∙◌, arith, length, take}
use Rattle.std.proofs.lemmas.List.{take_more_set}
use Rattle.jpeg_lossless.proofs.StretchedLines.{copied_whole, next_column, same_column, stretched_step}
use Rattle.jpeg_lossless.proofs.stretching.stretch.Goals.{then-rest-from, else-rest-from}
use Rattle.jpeg_lossless.proofs.stretching.stretch.Goals as goal

pub returns-then-factor-most : goal.returns-then-factor-most
returns-then-factor-most c =
    let a = c.args in
    c.copy_from_slice.ensures.after
    ∙ copied_whole a.own.now a.most a.factor (length a.line.now) c.requires.some c.if-factor-most.true
    c.requires.reaches

pub loop-x-preserved : goal.loop-x-preserved
loop-x-preserved c =
    let a = c.args in
    let l = c.loop-x in
    record {
      column = search (rules, then-rest-from, next_column, else-rest-from, same_column);
      line = stretched_step a.own.now (take l.x l.line) _ a.factor a.most l.x l.column l.rest l.invariant.column
          l.invariant.line (take_more_set l.line l.x _ (omega (arith, l.auto.line, c.loop-x-test.true)));
    }
