use Rattle.std.proofs.Common.{◌≡◌, ◌≤◌, ◌++◌, ◌-◌, ◌+◌, ◌*◌, length}
use Rattle.std.specs.List.{range_with_len, flat_map}
use Rattle.jpeg_segments.specs.FrameView.{component_in}
use Rattle.jpeg_decoder.specs.Walk.{line_members, part_members}
use Rattle.jpeg_decoder.proofs.scan.order.add_part.Given as goal

abbrev pub invariant-loop-v : goal.invariant-loop-v
invariant-loop-v l = record {
  most : l.v ≤ l.fn.component.vertical_sampling_factor;
  items : l.members.items ++ flat_map (line_members l.fn.slot (component_in l.fn.component))
      (range_with_len l.v (l.fn.component.vertical_sampling_factor - l.v))
      ≡ l.fn.members.items ++ part_members l.fn.slot (component_in l.fn.component);
  few : length l.members.items ≤ length l.fn.members.items + l.v * 255;
}

abbrev pub decreases-loop-v : goal.decreases-loop-v
decreases-loop-v l = l.fn.component.vertical_sampling_factor - l.v
