use Rattle.std.proofs.Common.{arith}
use Rattle.zaxbriar_strict.proofs.CodeTables.{takes-codes}
use Rattle.zaxbriar_strict.proofs.huffman.HuffmanTable.read.Goals as goal

pub returns-in-Ok : goal.returns-in-Ok
returns-in-Ok c =
    let t = c.in-Ok.table in
    let class = c.if-head-gt1.false in
    let place = c.if-head-gt3.false in
    takes-codes c.in-Some.head t _ _ _ (omega (arith, class)) (omega (arith, place)) t.lengths t.places t.most
    c.in-Ok.ensures.some c.in-Ok.ensures.exist c.in-Some.ensures c.in-Ok.ensures.bytes
