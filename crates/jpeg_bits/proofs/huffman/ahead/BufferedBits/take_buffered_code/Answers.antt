use Rattle.jpeg_bits.proofs.huffman.ahead.BufferedBits.take_buffered_code.Goals as goal
use Rattle.std.proofs.Common.{ap, ◌∙◌, sym}
use Rattle.jpeg_bits.specs.Entropy.{Ahead}
use Rattle.jpeg_bits.proofs.ShortLemmas.{Code-refused}

pub returns-then-not-has-clause-code : goal.returns-then-not-has-clause-code
returns-then-not-has-clause-code c =
    let n = rw c.from-count.ensures at (rw (ap (λ (a : Ahead). a.met) c.self.view_is) at
    (c.set_fault.ensures.names c.self.inside.beyond c.from-count.result c.args.self.now.bits) (sym c.has.ensures ∙
    c.if-not-has.true)) in
    λ source. Code-refused _ _ _ _ _ _ c.requires c.in-Some.ensures.within (sym c.in-Some.ensures.symbol) n
