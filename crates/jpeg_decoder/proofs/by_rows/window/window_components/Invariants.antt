use Rattle.std.proofs.Common.{◌≡◌, map, take}
use Rattle.jpeg_segments.specs.FrameView.{component_in}
use Rattle.jpeg_decoder.specs.ByRows.{window_component}
use Rattle.jpeg_decoder.proofs.by_rows.window.window_components.Given as goal

abbrev pub invariant-loop-component : goal.invariant-loop-component
invariant-loop-component l = map component_in l.all.items
    ≡ map (window_component l.window.above l.window.rows) (map component_in (take l.component-index l.components))
