use Rattle.std.proofs.Common.{◌≡◌, map, take}
use Rattle.jpeg_segments.specs.Frame.{component_of}
use Rattle.jpeg_segments.specs.FrameView.{component_in, factors_of}
use Rattle.jpeg_segments.proofs.sizes.components_of.Given as goal

abbrev pub invariant-loop-component : goal.invariant-loop-component
invariant-loop-component l =
    map component_in l.made.items
    ≡ map (component_of l.size.width l.size.height l.most_horizontal l.most_vertical)
    (map factors_of (take l.component-index l.components))
