use Rattle.std.proofs.Common.{rules, ◌<◌}
use Rattle.zaxbriar_strict.proofs.Taken.{takes-loaded, takes-none, takes-same}
use Rattle.zaxbriar_strict.proofs.bits.Bits.load_byte.Goals as goal

pub returns-then-self-gt56 : goal.returns-then-self-gt56
returns-then-self-gt56 c = takes-none _

pub returns-in_default : goal.returns-in_default
returns-in_default c = takes-same _ _ _ c.in_default.ensures

pub returns : goal.returns
returns c =
    let small : c.from.result < 256 = search rules in
    takes-loaded c.args.self.now.window c.args.self.now.left c.from.result _ _ c.if-self-gt56.false small
    (rw c.from.ensures c.in-Some.ensures)
