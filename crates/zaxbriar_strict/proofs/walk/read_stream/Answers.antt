use Rattle.std.proofs.Common.{◌≡◌, ◌<◌, [], get_or, arith}
use Rattle.std.proofs.lemmas.Result.{IfOk-weaker}
use Rattle.zaxbriar_strict.specs.Exact.{IsExact}
use Rattle.zaxbriar_strict.proofs.WalkStates.{all-bytes}
use Rattle.zaxbriar_strict.proofs.Walks.{walked-end, walked-more, walked-start}
use Rattle.zaxbriar_strict.proofs.walk.read_stream.Goals as goal

pub loop-init : goal.loop-init
loop-init c =
    walked-start c.args.stream.now c.new-cursor.result.rest.now c.marker.new.self.rest.now c.in-Ok-eq216.field-0
    c.in_ok-walk.walk c.in_ok-walk.ensures c.in-Ok-eq216.ensures c.in-Ok-eq216.field-0-test c.new-cursor.ensures

pub loop-preserved : goal.loop-preserved
loop-preserved c =
    let stream = c.args.stream.now in
    let all = all-bytes stream (λ k. let fits : get_or stream k 0 < 256 = omega (arith, c.type_inv.stream k) in fits) in
    walked-more stream c.loop.cursor.rest.now c.marker-in-loop.new.self.rest.now c.in_ok-cursor.cursor.rest.now
    c.in_ok-code.code c.loop.walk c.read_segment.new.self all c.in_ok-code.ensures c.in_ok-cursor.ensures
    c.loop.invariant

pub returns-then-code : goal.returns-then-code
returns-then-code c =
    let stream = c.args.stream.now in
    let rest = c.marker-in-loop.new.self.rest.now in
    IfOk-weaker c.check_end.result (λ _. rest ≡ []) (λ _. IsExact stream)
    (λ _ e. walked-end stream c.loop.cursor.rest.now rest c.in_ok-code.code c.loop.walk c.in_ok-code.ensures
    c.if-code.true e c.in_ok-finish.ensures c.loop.invariant)
    c.check_end.ensures
