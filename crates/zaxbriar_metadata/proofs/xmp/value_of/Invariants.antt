use Rattle.std.proofs.Common.{◌≡◌, ◌+◌, length}
use Rattle.zaxbriar_metadata.specs.Xmp.{value_of}
use Rattle.zaxbriar_metadata.proofs.xmp.value_of.Given as goal

abbrev pub invariant-loop : goal.invariant-loop
invariant-loop l = record {
  same : value_of l.bytes ≡ value_of l.rest;
  left : length l.rest + l.counter ≡ length l.bytes;
}
