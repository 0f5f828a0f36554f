use Rattle.std.proofs.Common.{refl}
use Rattle.zaxbriar_samples.proofs.Boxings.{has-begun, reduction-is, zeros-of}
use Rattle.zaxbriar_samples.proofs.boxes.Boxing.begin.Goals as goal

pub returns : goal.returns
returns c pixels =
    has-begun pixels c.args.info c.args.precision c.args.size _ c.requires refl
    (reduction-is c.args.info c.args.precision c.args.size c.components_of.result c.components_of.ensures)
    c.in_ok-pixels.ensures.items refl refl
    (zeros-of _ c.in_ok-sums.sums.items (c.in_ok-sums.ensures.items_if_clones_equal (λ y e. cc)))
