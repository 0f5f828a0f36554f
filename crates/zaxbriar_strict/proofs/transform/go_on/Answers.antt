use Rattle.std.proofs.Common.{refl}
use Rattle.zaxbriar_strict.proofs.Runs.{restarted}
use Rattle.zaxbriar_strict.proofs.transform.go_on.Goals as goal

pub returns : goal.returns
returns c = λ k p unit every bytes count places f g a.
    let over = c.is_over.ensures.over c.if-not-is_over.false in
    let r = c.in_ok-restart.ensures in
    restarted c.args.intervals.now _ c.args.past.now _ a over.0 over.1 (c.in_ok-end.ensures k) r.restarts r.every r.left
    r.next refl
