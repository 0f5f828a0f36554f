use Rattle.std.proofs.Common.{arith}
use Rattle.zaxbriar_strict.proofs.StepTables.{takes-steps}
use Rattle.zaxbriar_strict.proofs.quantization.take_table.Goals as goal

pub returns-in-Ok : goal.returns-in-Ok
returns-in-Ok c =
    let t = c.in-Ok.steps in
    let class = c.if-head-gt1.false in
    let place = c.if-head-gt3.false in
    takes-steps c.in-Some.head t _ _ _ (omega (arith, class)) (omega (arith, place)) c.in-Ok.ensures.width
    c.in-Ok.ensures.count c.in-Ok.ensures.some c.in-Some.ensures c.in-Ok.ensures.bytes
