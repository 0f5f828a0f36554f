use Rattle.std.proofs.Common.{◌≡◌}
use Rattle.zaxbriar_samples.specs.Boxes.{texts_below}
use Rattle.zaxbriar_samples.specs.Turns.{upright_line}
use Rattle.zaxbriar_samples.proofs.turns.turned_pixels.Given as goal

abbrev pub invariant-loop-down : goal.invariant-loop-down
invariant-loop-down l = l.made.items ≡ texts_below l.down (upright_line l.turn l.bytes l.pixels)
