use Rattle.std.proofs.Common.{◌∙◌, sym, arith, ap, take, ◌/◌, refl}
use Rattle.jpeg_bits.specs.Codes.{CodeList, Table}
use Rattle.jpeg_bits.specs.Written.{low_bits}
use Rattle.jpeg_bits.specs.ShortCodes.{symbol_in, short_code}
use Rattle.jpeg_bits.specs.declared.huffman.codes.HuffmanTableClass.TheVariants.{AC}
use Rattle.jpeg_bits.proofs.ShortLemmas.{few_short, symbol_found, unpacked_none, unpacked_some}
use Rattle.jpeg_bits.proofs.huffman.codes.CodeTables.symbol_of.Goals as goal

pub long_symbol_of-requires : goal.long_symbol_of-requires
long_symbol_of-requires c =
    let i = c.self.invariant in
    ap (λ (t : CodeList). short_code t.counts t.symbols (low_bits 8 (c.args.bits / 256))) (sym c.self.view_is)
    ∙ sym (i.3 (c.args.bits / 256) (omega (arith, c.ranges.bits.fits))) ∙ unpacked_none _ c.if-code-eq0.true

pub returns-clause-symbol : goal.returns-clause-symbol
returns-clause-symbol c =
    let s = c.self.inside in
    let i = c.self.invariant in
    let table : Table = record { class = AC; counts = s.counts; symbols = take s.count s.symbols } in
    sym (symbol_found table _ _ i.0 (sym (i.3 (c.args.bits / 256) (omega (arith, c.ranges.bits.fits)))
    ∙ unpacked_some _ _ refl c.if-code-eq0.false))
    ∙ ap (λ (t : CodeList). symbol_in (record { class = AC; counts = t.counts; symbols = t.symbols })
    (low_bits 16 c.args.bits)) c.self.view_is

pub returns-clause-within : goal.returns-clause-within
returns-clause-within c =
    let s = c.self.inside in
    let i = c.self.invariant in
    let few = few_short s.counts (take s.count s.symbols) _ _ (sym (i.3 (c.args.bits / 256) (omega (arith, c.ranges.bits.fits)))
    ∙ unpacked_some _ _ refl c.if-code-eq0.false) in
    omega (arith, few)
