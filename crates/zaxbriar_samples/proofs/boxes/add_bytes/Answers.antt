use Rattle.std.proofs.Common.{◌+◌, ◌%◌, ◌^◌, ◌<◌, ℕ, ap, get_or, length, rules}
use Rattle.zaxbriar_samples.specs.Samples.{byte_at}
use Rattle.zaxbriar_samples.proofs.BoxSums.{added-more}
use Rattle.zaxbriar_samples.proofs.boxes.add_bytes.Goals as goal

pub loop-index-preserved : goal.loop-index-preserved
unfolding byte_at
loop-index-preserved c =
    let room : c.loop-index.index < length c.loop-index.sums = search rules in
    added-more (byte_at c.args.line.now) c.args.sums.now c.loop-index.sums c.loop-index.index _
    c.loop-index.invariant room
    (ap (λ (n : ℕ). (get_or c.loop-index.sums c.loop-index.index 0 + n) % 2 ^ 32) c.from.ensures)
