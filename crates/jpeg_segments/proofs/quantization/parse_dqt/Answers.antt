use Rattle.std.proofs.Common.{◌≡◌, arith, rules}
use Rattle.jpeg_segments.proofs.QuantizationLemmas.{tables_from-none}
use Rattle.jpeg_segments.proofs.quantization.parse_dqt.Goals as goal

pub returns : goal.returns
returns g c =
    let i = c.loop-left.invariant.rest in
    let z : c.loop-left.left ≡ 0 = omega arith in
    search (rules, tables_from-none)
