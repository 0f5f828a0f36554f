use Rattle.jpeg_bits.proofs.huffman.codes.HuffmanTable.pair_of.Goals as goal
use Rattle.std.proofs.Common.{◌/◌, rules}
use Rattle.jpeg_bits.specs.Pairs.{IsPairOf, Nothing}
use Rattle.jpeg_bits.specs.Written.{low_bits}
use Rattle.jpeg_bits.proofs.PairEntries.{entry-small}

pub returns-in-Some-clause-small : goal.returns-in-Some-clause-small
returns-in-Some-clause-small c =
    let bits = low_bits 11 (c.args.bits / 32) in
    let is : IsPairOf c.args.self.now bits c.in-Some.pair.now = search rules in
    entry-small c.args.self.now bits c.in-Some.pair.now is

pub returns-in-None-clause-pair : goal.returns-in-None-clause-pair
returns-in-None-clause-pair c = Nothing
