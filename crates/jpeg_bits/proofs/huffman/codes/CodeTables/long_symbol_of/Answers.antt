use Rattle.jpeg_bits.proofs.huffman.codes.CodeTables.long_symbol_of.Goals as goal
use Rattle.std.proofs.Common.{◌∙◌, ◌/◌, ap, arith, take}
use Rattle.jpeg_bits.specs.Codes.{CodeList}
use Rattle.jpeg_bits.specs.Written.{low_bits}
use Rattle.jpeg_bits.specs.ShortCodes.{short_code}
use Rattle.jpeg_bits.proofs.CodeLemmas.{rows_passed}
use Rattle.jpeg_bits.proofs.ShortLemmas.{none_short}

pub loop-i-init : goal.loop-i-init
loop-i-init c =
    let s = c.self.inside in
    let i = c.self.invariant in
    let none = none_short s.counts (take s.count s.symbols) c.args.bits i.0 (ap (λ (t : CodeList). short_code t.counts t.symbols
    (low_bits 8 (c.args.bits / 256))) c.self.view_is ∙ c.requires) in
    let passed = rows_passed s.counts s.rows c.args.bits 8 i.0 i.2 c.ranges.bits.fits (omega arith) none 8
    (omega arith) in
    record { above = passed.0; none = passed.1 }
