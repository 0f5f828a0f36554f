use Rattle.std.proofs.Common.{◌≡◌, ◌+◌, length}
use Rattle.jpeg_bits.specs.Marker.{next_marker}
use Rattle.zaxbriar_calls.proofs.segments.next_marker.Given as goal

abbrev pub invariant-loop : goal.invariant-loop
invariant-loop l = record {
  same : next_marker l.bytes ≡ next_marker l.rest;
  left : length l.rest + l.counter ≡ length l.bytes;
}
