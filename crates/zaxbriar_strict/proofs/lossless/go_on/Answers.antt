use Rattle.zaxbriar_strict.proofs.RowIntervals.{has-room, restarted}
use Rattle.zaxbriar_strict.proofs.lossless.go_on.Goals as goal

pub returns-then-not-is_over : goal.returns-then-not-is_over
returns-then-not-is_over c = λ tables wide every bytes count a.
    has-room c.args.intervals.now a (c.is_over.ensures.room c.if-not-is_over.true)

pub returns : goal.returns
returns c = λ tables wide every bytes count a.
    let over = c.is_over.ensures.over c.if-not-is_over.false in
    let r = c.in_ok-restart.ensures in
    restarted c.args.intervals.now _ a over.0 over.1 r.restarts r.every r.left r.next
