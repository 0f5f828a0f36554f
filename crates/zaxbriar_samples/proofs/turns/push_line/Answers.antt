use Rattle.std.proofs.Common.{rules}
use Rattle.zaxbriar_samples.specs.Turns.{upright_line, upright_pixel}
use Rattle.zaxbriar_samples.proofs.BoxSums.{joined-more, joined-none}
use Rattle.zaxbriar_samples.proofs.turns.push_line.Goals as goal

pub loop-across-init : goal.loop-across-init
loop-across-init c =
    joined-none c.args.made.now.items (upright_pixel c.args.turn c.args.bytes c.args.pixels.now
    c.args.down)

pub loop-across-preserved : goal.loop-across-preserved
loop-across-preserved c =
    joined-more c.loop-across.across (upright_pixel c.args.turn c.args.bytes c.args.pixels.now
    c.args.down) c.args.made.now.items c.loop-across.made.items c.push_pixel.new.made.items
    c.loop-across.invariant (c.in_ok-push_pixel.ensures)

pub returns : goal.returns
unfolding upright_line
returns c = search rules
