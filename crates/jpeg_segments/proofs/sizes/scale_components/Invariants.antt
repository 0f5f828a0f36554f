use Rattle.std.proofs.Common.{◌≡◌, ◌++◌, map, take, drop}
use Rattle.jpeg_segments.specs.FrameView.{component_in}
use Rattle.jpeg_segments.specs.Scales.{component_at}
use Rattle.jpeg_segments.proofs.sizes.scale_components.Given as goal

abbrev pub invariant-loop-component : goal.invariant-loop-component
invariant-loop-component l =
    let scaled = component_at l.scale l.size.width l.size.height l.most_horizontal l.most_vertical in
    let old = map component_in l.fn.components in
    map component_in l.components ≡ map scaled (take l.component-index old) ++ drop l.component-index old
