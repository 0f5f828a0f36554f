use Rattle.std.proofs.Common.{rules, [], ◌∙◌}
use Rattle.zaxbriar_samples.specs.Turns.{turned_pixels, upright_line}
use Rattle.zaxbriar_samples.proofs.BoxSums.{joined-more, joined-none}
use Rattle.zaxbriar_samples.proofs.turns.turned_pixels.Goals as goal

pub loop-down-init : goal.loop-down-init
loop-down-init c =
    c.in_ok-made.ensures.items
    ∙ joined-none [] (upright_line c.args.turn c.args.bytes c.args.pixels.now)

pub loop-down-preserved : goal.loop-down-preserved
loop-down-preserved c =
    joined-more c.loop-down.down (upright_line c.args.turn c.args.bytes c.args.pixels.now) []
    c.loop-down.made.items c.push_line.new.made.items c.loop-down.invariant
    (c.in_ok-push_line.ensures)

pub returns : goal.returns
unfolding turned_pixels
returns c = search rules
