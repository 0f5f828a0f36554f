use Rattle.jpeg_bits.proofs.huffman.ahead.BufferedBits.take_symbol.Goals as goal
use Rattle.std.proofs.Common.{arith, Ok}
use Rattle.jpeg_bits.specs.Codes.{symbol_from}
use Rattle.jpeg_bits.proofs.Loops.{Takes-ahead}
use Rattle.jpeg_bits.proofs.ShortLemmas.{Symbol-of-code, Symbol-no-code}

pub returns-in-Some-clause-symbol : goal.returns-in-Some-clause-symbol
returns-in-Some-clause-symbol g c =
    let mid = c.fill.new.source in
    Takes-ahead (symbol_from c.args.table.now) tt c.args.self.now c.fill.new.self
    c.take_buffered_code.new.self c.args.source.now mid mid (Ok c.in-Some.symbol) c.if-not-fill.ensures.holds
    (Symbol-of-code c.args.table.now c.fill.new.self c.take_buffered_code.new.self mid
    (c.in-Some.field-0-0, c.in-Some.symbol) (c.in-Some.ensures.code mid))

pub returns-in-None-clause-symbol : goal.returns-in-None-clause-symbol
returns-in-None-clause-symbol g c =
    let mid = c.fill.new.source in
    grind (arith, Takes-ahead, Symbol-no-code)
