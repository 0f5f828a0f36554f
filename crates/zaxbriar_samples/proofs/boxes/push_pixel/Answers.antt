use Rattle.zaxbriar_samples.specs.Boxes.{component_bytes}
use Rattle.zaxbriar_samples.proofs.BoxSums.{joined-more, joined-none}
use Rattle.zaxbriar_samples.proofs.boxes.push_pixel.Goals as goal

pub loop-component-init : goal.loop-component-init
loop-component-init c pixels are =
    joined-none c.args.bytes.now.items (component_bytes pixels c.args.reduction c.args.area)

pub loop-component-preserved : goal.loop-component-preserved
unfolding component_bytes
loop-component-preserved c pixels are =
    let more = (rw (c.mean_in-mean.ensures pixels are) at c.in_ok-push_sample.ensures) in
    joined-more c.loop-component.component (component_bytes pixels c.args.reduction c.args.area)
    c.args.bytes.now.items c.loop-component.bytes.items c.push_sample.new.bytes.items
    (c.loop-component.invariant pixels are) more
