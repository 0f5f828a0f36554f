use Rattle.std.proofs.Common.{◌≡◌, ◌+◌, ◌-◌, ◌*◌, ◌/◌, ◌^◌, ◌<◌, ◌≤◌}
use Rattle.jpeg_pixels.proofs.short_block.limit_of.Given as goal

abbrev pub invariant-loop-step : goal.invariant-loop-step
invariant-loop-step l = record {
  whole : l.limit * l.divisor + l.rest ≡ 1095 / 2 ^ (11 - l.step);
  less : l.rest < l.divisor;
  small : l.limit ≤ 1095;
  little : l.rest ≤ 1095;
}
