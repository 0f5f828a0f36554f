use Rattle.std.proofs.Common.{rules, ◌≡◌, ◌<◌, arith, sym, subst, Ok, ℤ, refl}
use Rattle.std.proofs.lemmas.Int.{to_z-of_z}
use Rattle.std.specs.Int.{w16}
use Rattle.jpeg_bits.specs.Entropy.{Takes}
use Rattle.jpeg_bits.specs.Bands.{difference}
use Rattle.jpeg_bits.proofs.ShortDifferences.{short-taken}
use Rattle.jpeg_bits.proofs.huffman.ahead.BufferedBits.take_short_difference.Goals as goal

pub returns-clause-difference : goal.returns-clause-difference
returns-clause-difference g c =
    let table = c.args.table.now in
    let d = c.short_difference-value.result in
    let count = c.from-count.result in
    let is : count ≡ d.1 = c.from-count.ensures in
    let some : 0 < d.1 = omega (arith, is, c.if-count-eq0.false) in
    subst (λ (v : ℤ). Takes (λ (v : ℤ). v) (difference table) c.args.self.now c.args.source.now (Ok v) c.skip.new.self
    c.fill.new.source) (sym (to_z-of_z w16 d.0 (search rules)))
    (short-taken table d.0 d.1 count tt c.args.self.now c.fill.new.self c.skip.new.self c.args.source.now
    c.fill.new.source is c.if-not-fill.ensures.holds (c.if-not-fill.ensures.full refl)
    c.short_difference-value.ensures some c.if-not-has.ensures c.skip.ensures.bits c.skip.ensures.met)
