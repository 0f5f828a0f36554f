use Rattle.std.proofs.Common.{◌≡◌, map, take}
use Rattle.jpeg_segments.specs.Frame.{greatest}
use Rattle.zaxbriar_strict.specs.Heads.{factors_of}
use Rattle.zaxbriar_strict.proofs.frame.greatest_factors.Given as goal

abbrev pub invariant-loop-component : goal.invariant-loop-component
invariant-loop-component l = record {
  across : l.across ≡ greatest (λ c. c.horizontal) (map factors_of (take l.component-index l.components));
  down : l.down ≡ greatest (λ c. c.vertical) (map factors_of (take l.component-index l.components));
}
