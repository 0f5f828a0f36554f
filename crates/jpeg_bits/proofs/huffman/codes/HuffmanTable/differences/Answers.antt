use Rattle.jpeg_bits.proofs.huffman.codes.HuffmanTable.differences.Goals as goal
use Rattle.std.proofs.Common.{◌∙◌, arith, length-set, ℕ, ℤ}
use Rattle.jpeg_bits.specs.Written.{low_bits}
use Rattle.jpeg_bits.specs.ShortDifferences.{IsShortDifference, no_difference}
use Rattle.jpeg_bits.proofs.WideTokens.{set-holds}

pub loop-bits-preserved : goal.loop-bits-preserved
loop-bits-preserved c =
    let l = c.loop-bits in
    record {
      whole = length-set l.differences.items l.bits c.difference_in.result ∙ l.invariant.whole;
      filled = set-holds (λ (b : ℕ) (s : ℤ × ℕ). IsShortDifference c.args.self.now (low_bits 12 b) s) l.differences.items
          l.bits c.difference_in.result no_difference (omega (arith, l.invariant.whole, c.loop-bits-test.true))
          l.invariant.filled c.difference_in.ensures;
    }
