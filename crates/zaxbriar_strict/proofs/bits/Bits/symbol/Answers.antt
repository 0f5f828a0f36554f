use Rattle.std.proofs.Common.{◌≢◌, ◌∙◌, ◌≤◌, arith}
use Rattle.zaxbriar_strict.specs.Tables.{codes_in}
use Rattle.zaxbriar_strict.proofs.Taken.{reads-after, reads-code}
use Rattle.zaxbriar_strict.proofs.bits.Bits.symbol.Goals as goal

pub returns : goal.returns
returns c = λ class.
    let s = c.load_sixteen.new.self in
    let code = c.find-code.result in
    let some : code.length ≢ 0 = λ e. c.if-length-eq0-2.false (c.from-length.ensures ∙ e) in
    let enough : code.length ≤ s.left =
    (let h = c.if-self-length.false in let e = c.from-length.ensures in omega (arith, h, e)) in
    reads-after c.load_sixteen.ensures
    (rw c.from-length.ensures
    (reads-code (codes_in class c.args.table.now) code.symbol code.length c.next_sixteen.result s.left s.window
    s.rest.rest.now (c.find-code.ensures.coded class some) c.next_sixteen.ensures enough c.find-code.ensures.most))
