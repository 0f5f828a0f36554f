use Rattle.std.proofs.Common.{◌≡◌, ◌≤◌, ◌++◌, ◌-◌, ◌+◌, map, length}
use Rattle.std.specs.List.{range_with_len}
use Rattle.jpeg_segments.specs.FrameView.{component_in}
use Rattle.jpeg_decoder.specs.Walk.{member_of, line_members}
use Rattle.jpeg_decoder.proofs.scan.order.add_line.Given as goal

abbrev pub invariant-loop-h : goal.invariant-loop-h
invariant-loop-h l = record {
  most : l.h ≤ l.fn.component.horizontal_sampling_factor;
  items : l.members.items ++ map (member_of l.fn.slot (component_in l.fn.component) l.fn.v)
      (range_with_len l.h (l.fn.component.horizontal_sampling_factor - l.h))
      ≡ l.fn.members.items ++ line_members l.fn.slot (component_in l.fn.component) l.fn.v;
  few : length l.members.items ≡ length l.fn.members.items + l.h;
}

abbrev pub decreases-loop-h : goal.decreases-loop-h
decreases-loop-h l = l.fn.component.horizontal_sampling_factor - l.h
