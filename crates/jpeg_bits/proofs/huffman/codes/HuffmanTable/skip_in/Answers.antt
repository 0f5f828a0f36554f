use Rattle.jpeg_bits.proofs.huffman.codes.HuffmanTable.skip_in.Goals as goal
use Rattle.std.proofs.Common.{◌≡◌, rules, refl, ◌∙◌, ◌%◌, ◌+◌, ◌++◌, sym, ap, Some, drop, replicate, false}
use Rattle.std.proofs.lemmas.Bool.{false≢true}
use Rattle.jpeg_bits.specs.ShortCodes.{symbol_in}
use Rattle.jpeg_bits.specs.Written.{low_bits}
use Rattle.jpeg_bits.proofs.WrittenBits.{length_low_bits}
use Rattle.jpeg_bits.proofs.WideTokens.{skip-last, skip-more}

pub returns-then-run-eq0 : goal.returns-then-run-eq0
returns-then-run-eq0 c =
    let table = c.args.self.now in
    let bits = low_bits 12 c.args.bits in
    let used = c.loop.used in
    let n = c.in-Some.length in
    let symbol = c.in-Some.symbol in
    let counted = c.symbol_of.ensures.counted in
    let found : symbol_in table (drop used bits ++ replicate (4 + used) false) ≡ Some (symbol, n)
    = ap (symbol_in table) (sym c.bits_after.ensures) ∙ sym c.in-Some.ensures.symbol in
    let none = c.if-not-has_room.ensures.none refl in
    record {
      few = c.if-used-count-gt12.false;
      some = λ e. absurd (false≢true (sym e));
      passes = skip-last table counted bits (length_low_bits 12 c.args.bits) used symbol n found (n + symbol % 16)
          c.loop.passed refl c.if-used-count-gt12.false none c.if-run-eq0.true c.loop.invariant.over;
    }

pub loop-preserved : goal.loop-preserved
loop-preserved c = search (rules, skip-more, length_low_bits)
