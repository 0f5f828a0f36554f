use Rattle.jpeg_bits.proofs.huffman.codes.HuffmanTable.difference_in.Goals as goal
use Rattle.std.proofs.Common.{rules, ◌≡◌, ◌∙◌, ◌+◌, ◌++◌, sym, ap, subst, Some, replicate, false, arith, ℤ}
use Rattle.std.proofs.lemmas.Int.{to_z-of_z}
use Rattle.std.specs.Int.{w16}
use Rattle.jpeg_bits.specs.ShortCodes.{symbol_in}
use Rattle.jpeg_bits.specs.ShortDifferences.{IsShortDifference}
use Rattle.jpeg_bits.specs.Written.{low_bits}
use Rattle.jpeg_bits.proofs.WrittenBits.{length_low_bits}
use Rattle.jpeg_bits.proofs.ShortDifferences.{short-value, short-zero}

pub returns-then-symbol-eq0 : goal.returns-then-symbol-eq0
returns-then-symbol-eq0 c =
    let table = c.args.self.now in
    let bits = low_bits 12 c.args.bits in
    let found : symbol_in table (bits ++ replicate 4 false) ≡ Some (c.in-Some.symbol, c.in-Some.length)
    = ap (symbol_in table) (sym c.bits_after.ensures) ∙ sym c.in-Some.ensures.symbol in
    short-zero table c.symbol_of.ensures.counted bits (length_low_bits 12 c.args.bits) (replicate 4 false)
    c.in-Some.symbol c.in-Some.length found c.if-symbol-eq0.true c.if-length-symbol-gt12.false

pub returns : goal.returns
returns c =
    let table = c.args.self.now in
    let bits = low_bits 12 c.args.bits in
    let found : symbol_in table (bits ++ replicate 4 false) ≡ Some (c.in-Some.symbol, c.in-Some.length)
    = ap (symbol_in table) (sym c.bits_after.ensures) ∙ sym c.in-Some.ensures.symbol in
    let n = c.in-Some.length + c.in-Some.symbol in
    subst (λ (v : ℤ). IsShortDifference table bits (v, n)) (sym (to_z-of_z w16 c.value_in.result (search rules)))
    (short-value table c.symbol_of.ensures.counted bits (length_low_bits 12 c.args.bits) (replicate 4 false)
    c.in-Some.symbol c.in-Some.length found c.value_in.result n c.if-symbol-gt11.false
    (omega arith) c.if-length-symbol-gt12.false c.value_in.ensures)
