use Rattle.std.proofs.Common.{◌≡◌, ◌<◌, ℕ, List, get_or, length, rules}
use Rattle.zaxbriar_samples.proofs.AdlerSteps.{sums-are, sums-next}
use Rattle.zaxbriar_samples.proofs.adler.adler_bytes.Goals as goal

pub loop-byte-preserved : goal.loop-byte-preserved
loop-byte-preserved c =
    let bytes : List ℕ = c.args.bytes.now in
    let index : ℕ = c.loop-byte.byte-index in
    let byte : c.from-sum-in-loop-byte.result ≡ get_or bytes index 0 = search rules in
    let low : index < length bytes = search rules in
    record {
      sums = rw byte (sums-next c.args.before bytes index c.loop-byte.sum c.loop-byte.total low
          c.loop-byte.invariant.sums);
      bytes = search rules;
      totals = search rules;
    }

pub returns : goal.returns
returns c = search (rules, sums-are)
