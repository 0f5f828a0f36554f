use Rattle.std.proofs.Common.{◌≡◌, ◌≤◌, ◌++◌, ◌-◌, ◌*◌, length, map}
use Rattle.jpeg_decoder.specs.Steps.{coding_in}
use Rattle.jpeg_meaning.specs.ScanSegments.{components_of}
use Rattle.jpeg_decoder.specs.Walk.{members_from}
use Rattle.jpeg_decoder.proofs.Orders.OrderedWalks.{slots_left}
use Rattle.jpeg_decoder.proofs.scan.order.members_of.Given as goal

abbrev pub invariant-loop-members : goal.invariant-loop-members
invariant-loop-members l = record {
  most : l.slot ≤ length l.fn.components;
  items : l.members.items ++ slots_left l.slot l.fn.components ≡ members_from 0 (components_of (map coding_in l.fn.components));
  few : length l.members.items ≤ l.slot * 65025;
}

abbrev pub decreases-loop-members : goal.decreases-loop-members
decreases-loop-members l = length l.fn.components - l.slot
