use Rattle.std.proofs.Common.{◌≡◌, map, take}
use Rattle.jpeg_segments.specs.Frame.{greatest}
use Rattle.jpeg_segments.specs.FrameView.{factors_of}
use Rattle.jpeg_segments.proofs.sizes.greatest_factors.Given as goal

abbrev pub invariant-loop-component : goal.invariant-loop-component
invariant-loop-component l = record {
  horizontal : l.horizontal ≡ greatest (λ c. c.horizontal) (map factors_of (take l.component-index l.components));
  vertical : l.vertical ≡ greatest (λ c. c.vertical) (map factors_of (take l.component-index l.components));
}
