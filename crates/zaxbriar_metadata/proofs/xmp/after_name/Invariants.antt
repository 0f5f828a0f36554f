use Rattle.std.proofs.Common.{◌≡◌, ◌+◌, length}
use Rattle.std.specs.Prelude.{codes}
use Rattle.zaxbriar_metadata.specs.Xmp.{after}
use Rattle.zaxbriar_metadata.proofs.xmp.after_name.Given as goal

abbrev pub invariant-loop : goal.invariant-loop
invariant-loop l = record {
  same : after (codes "xmpNote:HasExtendedXMP") l.packet ≡ after (codes "xmpNote:HasExtendedXMP") l.rest;
  left : length l.rest + l.counter ≡ length l.packet;
}
