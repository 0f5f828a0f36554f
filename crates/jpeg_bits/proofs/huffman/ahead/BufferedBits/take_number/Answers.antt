use Rattle.std.proofs.Common.{arith, refl, ap, ◌∙◌, sym}
use Rattle.jpeg_bits.specs.Entropy.{Ahead}
use Rattle.jpeg_bits.proofs.BufferedBits.{Takes-buffered, Takes-refused, MayFail-same}
use Rattle.jpeg_bits.specs.Refusals.{kept_refusal}
use Rattle.jpeg_bits.proofs.huffman.ahead.BufferedBits.take_number.Goals as goal

pub returns-clause-bits : goal.returns-clause-bits
returns-clause-bits g c =
    let p = c.if-not-fill.ensures.holds in
    rw c.from-count.ensures at (Takes-buffered c.from-count.result tt c.args.self.now
    c.fill.new.self c.take.new.self c.args.source.now c.fill.new.source c.take.result
    (c.if-not-fill.ensures.full refl) (sym c.if-not-has.ensures) c.take.ensures.value c.take.ensures.bits
    c.take.ensures.met p)

pub returns-then-not-has-clause-bits : goal.returns-then-not-has-clause-bits
returns-then-not-has-clause-bits g c =
    let p = c.if-not-fill.ensures.holds in
    rw c.from-count.ensures at (Takes-refused c.from-count.result tt c.args.self.now
    c.fill.new.self c.fill.new.self c.args.source.now c.fill.new.source (kept_refusal c.set_fault.new.refusal)
    (c.if-not-fill.ensures.full refl) (rw (ap (λ (a : Ahead). a.met) c.self.view_is) at
    (c.set_fault.ensures.names c.self.inside.beyond c.from-count.result c.fill.new.self.bits) (sym c.has.ensures ∙
    c.if-not-has.true)) (grind (arith, MayFail-same)) p)
