use Rattle.std.proofs.Common.{◌≡◌, ◌<◌, ◌≤◌, map, max, drop}
use Rattle.jpeg_segments.specs.Frame.{most_down}
use Rattle.jpeg_segments.specs.FrameView.{component_in}
use Rattle.jpeg_decoder.proofs.by_rows.window.unit_lines.Given as goal

abbrev pub invariant-loop-component : goal.invariant-loop-component
invariant-loop-component l = record {
  some : 1 ≤ l.most;
  small : l.most < 256;
  same : max l.most (most_down (map component_in (drop l.component-index l.components)))
      ≡ most_down (map component_in l.components);
}
