use Rattle.std.proofs.Common.{◌≡◌, ◌∙◌, ◌*◌, ◌+◌, ◌/◌, rules}
use Rattle.zaxbriar_samples.proofs.BoxSums.{mean-is}
use Rattle.zaxbriar_samples.proofs.boxes.mean_in.Goals as goal

pub returns : goal.returns
returns c pixels are =
    let quotient : c.unwrap_or.result ≡ (c.box_sum-sum.result + c.args.area.width * c.args.area.height / 2)
    / (c.args.area.width * c.args.area.height) = search rules in
    quotient ∙ mean-is pixels c.args.sums.now c.args.reduction c.args.area c.args.component c.box_sum-sum.result
    are c.requires.inside c.requires.sized c.requires.component c.box_sum-sum.ensures.sum
