use Rattle.std.proofs.Common.{◌≡◌, ℕ, ◌+◌, ◌-◌, ◌*◌, ◌^◌, ◌/◌, ◌<◌, length, get_or, sum, take, arith, ap, subst, rules}
use Rattle.jpeg_bits.specs.ShortCodes.{value_after}
use Rattle.jpeg_bits.specs.Written.{IsCoded, low_bits}
use Rattle.jpeg_bits.proofs.BufferedBits.{pow_more}
use Rattle.jpeg_bits.proofs.CodeLemmas.{index-more, value-more}
use Rattle.zaxbriar_strict.specs.Tables.{codes_in}
use Rattle.zaxbriar_strict.proofs.Codes.{code-found}
use Rattle.zaxbriar_strict.proofs.huffman.HuffmanTable.find.Goals as goal

pub returns-then-code-end-clause-coded : goal.returns-then-code-end-clause-coded
returns-then-code-end-clause-coded c = λ class some.
    let t = c.args.self.now in
    let i = c.loop-place.invariant in
    let place = c.loop-place.place in
    let k = c.from-code.result - 2 * c.loop-place.end in
    let first = c.if-first-code.true in
    let last = c.if-code-end.true in
    let count = c.from-count.ensures in
    let number = c.from-code.ensures in
    let end = i.end in
    let index = i.index in
    let lt = c.loop-place-test.true in
    let counted = t.lengths in
    let short : place < length t.counts = omega (arith, lt, counted) in
    let below : k < get_or t.counts place 0 = omega (arith, first, last, count) in
    let value : c.args.bits / 2 ^ (15 - place) ≡ 2 * value_after t.counts place + k = omega (arith, first, number, end) in
    let at : sum (take place t.counts) + k ≡ c.loop-place.index + k = omega (arith, index) in
    subst (λ (n : ℕ). IsCoded (codes_in class t) (get_or t.symbols n 0) (take (place + 1) (low_bits 16 c.args.bits))) at
    (code-found t.counts place k short below class t.symbols c.args.bits lt value)

pub loop-place-preserved : goal.loop-place-preserved
loop-place-preserved c =
    let i = c.loop-place.invariant in
    let l = c.loop-place.place in
    let counts = c.args.self.now.counts in
    let counted = c.args.self.now.lengths in
    let lt : l < length counts = omega (arith, counted, c.loop-place-test.true) in
    let byte : get_or counts l 0 < 256 = search rules in
    let v = value-more counts l lt in
    let s = index-more counts l lt in
    let q = pow_more (l + 8) in
    let t : l + 1 + 8 ≡ l + 8 + 1 = omega arith in
    let r = ap (λ (k : ℕ). 2 ^ k) t in
    record {
      end = omega (arith, v, c.from-count.ensures, i.end);
      index = omega (arith, s, c.from-count.ensures, i.index);
      short = omega (arith, q, r, byte, c.from-count.ensures, i.short);
      few = omega (arith, byte, c.from-count.ensures, i.few);
    }
