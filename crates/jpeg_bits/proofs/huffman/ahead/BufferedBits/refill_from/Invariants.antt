use Rattle.jpeg_bits.proofs.huffman.ahead.BufferedBits.refill_from.Given as goal
use Rattle.std.proofs.Common.{◌≡◌, ◌≤◌, ◌-◌, length, None}
use Rattle.jpeg_bits.specs.Entropy.{Unmet}
use Rattle.jpeg_bits.proofs.Loops.{Holds}

abbrev pub invariant-loop-source : goal.invariant-loop-source
invariant-loop-source g l = record {
  met : l.self-inside.end ≡ None;
  within : length l.bits ≤ 64;
  text : Holds l.fn.self (g.S.Bytes.stream l.fn.source) l.bits (Unmet l.self-inside.beyond)
      (g.S.Bytes.stream l.source);
}

abbrev pub decreases-loop-source : goal.decreases-loop-source
decreases-loop-source g l = 57 - length l.bits
