use Rattle.std.proofs.Common.{◌≡◌, ◌++◌}
use Rattle.zaxbriar_samples.specs.Boxes.{texts_below}
use Rattle.zaxbriar_samples.specs.Turns.{upright_pixel}
use Rattle.zaxbriar_samples.proofs.turns.push_line.Given as goal

abbrev pub invariant-loop-across : goal.invariant-loop-across
invariant-loop-across l = l.made.items ≡ l.fn.made.items ++ texts_below l.across (upright_pixel l.turn
    l.bytes l.pixels l.down)
