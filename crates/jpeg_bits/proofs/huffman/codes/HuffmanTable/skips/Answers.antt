use Rattle.jpeg_bits.proofs.huffman.codes.HuffmanTable.skips.Goals as goal
use Rattle.std.proofs.Common.{◌∙◌, arith, length-set, ℕ}
use Rattle.jpeg_bits.specs.Written.{low_bits}
use Rattle.jpeg_bits.specs.Skips.{IsSkip, Skip, no_skip}
use Rattle.jpeg_bits.proofs.WideTokens.{set-holds}

pub loop-bits-preserved : goal.loop-bits-preserved
loop-bits-preserved c =
    let l = c.loop-bits in
    record {
      whole = length-set l.skips.items l.bits c.skip_in.result ∙ l.invariant.whole;
      filled = set-holds (λ (b : ℕ) (s : Skip). IsSkip c.args.self.now (low_bits 12 b) s) l.skips.items l.bits
          c.skip_in.result no_skip (omega (arith, l.invariant.whole, c.loop-bits-test.true)) l.invariant.filled
          c.skip_in.ensures;
    }
