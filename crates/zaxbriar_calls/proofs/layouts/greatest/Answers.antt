use Rattle.std.proofs.Common.{arith, ◌<◌, ◌≤◌, ◌^◌}
use Rattle.std.proofs.Math.Nat.{pow-le-pow_right}
use Rattle.std.proofs.lemmas.Nat.{pow_below}
use Rattle.zaxbriar_calls.proofs.layouts.greatest.Goals as goal

pub returns-clause-some : goal.returns-clause-some
returns-clause-some c =
    let bits = c.max.result in
    let some : 0 < bits = grind arith in
    let few : bits ≤ 16 = grind arith in
    let two : 1 < 2 ^ bits = pow_below 0 bits some in
    let fits : 2 ^ bits ≤ 65536 = pow-le-pow_right (omega arith) few in
    omega arith
