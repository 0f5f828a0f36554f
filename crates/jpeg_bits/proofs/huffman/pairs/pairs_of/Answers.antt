use Rattle.jpeg_bits.proofs.huffman.pairs.pairs_of.Goals as goal
use Rattle.std.proofs.Common.{◌≡◌, ◌<◌, ◌≤◌, length, ◌*◌, ◌%◌, ◌^◌, ◌∙◌, arith, length-set, ℕ, subst}
use Rattle.jpeg_bits.specs.Written.{low_bits}
use Rattle.jpeg_bits.specs.declared.huffman.pairs.Pair.{Pair}
use Rattle.jpeg_bits.specs.Pairs.{no_pair, pair_of, IsPairOf}
use Rattle.jpeg_bits.proofs.WideTokens.{pair-at, set-holds}
use Rattle.jpeg_bits.proofs.PairEntries.{entry-filled}

pub loop-bits-preserved : goal.loop-bits-preserved
loop-bits-preserved c =
    let l = c.loop-bits in
    let values = c.args.values.now in
    let codes = c.args.codes.now in
    let lt = c.loop-bits-test.true in
    let within : l.bits < length l.pairs.items = omega (arith, l.invariant.whole, lt) in
    record {
      whole = length-set l.pairs.items l.bits c.ended.result ∙ l.invariant.whole;
      filled = λ table counted held holds.
          let is : c.pair_of-pair.result ≡ pair_of table (low_bits 11 l.bits)
          = c.pair_of-pair.ensures.pair ∙ pair-at table values l.bits _ holds c.requires.length lt
          (c.requires.small l.bits (omega (arith, c.requires.length, lt))).1 (omega arith) in
          let moved = l.bits * 2 ^ (pair_of table (low_bits 11 l.bits)).bits in
          let entry = entry-filled table codes counted held l.bits (moved % 18446744073709551616 % 2048) lt
          (subst (λ (p : Pair). p.passed ≤ 64) is c.pair_of-pair.ensures.small)
          (subst (λ (p : Pair). p.bits ≤ 11) is c.pair_of-pair.ensures.most) (omega arith) in
          set-holds (λ (b : ℕ) (p : Pair). IsPairOf table (low_bits 11 b) p) l.pairs.items l.bits c.ended.result
          no_pair within (l.invariant.filled table counted held holds) (rw (c.ended.ensures, c.unpacked_code.ensures, is) entry);
    }
