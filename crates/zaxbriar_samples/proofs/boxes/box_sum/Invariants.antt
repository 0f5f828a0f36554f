use Rattle.std.proofs.Common.{◌≡◌, ◌≤◌, ◌*◌}
use Rattle.zaxbriar_samples.specs.Boxes.{sum_over}
use Rattle.zaxbriar_samples.specs.BoxSums.{sum_at}
use Rattle.zaxbriar_samples.proofs.boxes.box_sum.Given as goal

abbrev pub invariant-loop-across : goal.invariant-loop-across
invariant-loop-across l = (l.sum ≡ sum_over l.across (sum_at l.sums l.area.left l.components l.component))
    × (l.sum ≤ 4294967295 * l.across)
