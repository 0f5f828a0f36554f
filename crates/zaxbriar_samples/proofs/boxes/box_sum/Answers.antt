use Rattle.std.proofs.Common.{arith, rules, refl}
use Rattle.zaxbriar_samples.specs.BoxSums.{sum_at}
use Rattle.zaxbriar_samples.proofs.BoxSums.{sum-more, sum-none}
use Rattle.zaxbriar_samples.proofs.boxes.box_sum.Goals as goal

pub loop-across-init : goal.loop-across-init
loop-across-init c =
    let f = sum_at c.args.sums.now c.args.area.left c.args.components c.args.component in
    (rw (sum-none f) refl, omega arith)

pub loop-across-preserved : goal.loop-across-preserved
loop-across-preserved c = search (rules, sum-more)
