use Rattle.std.proofs.Common.{◌≡◌, ◌-◌, length}
use Rattle.zaxbriar_metadata.specs.Photoshop.{resource_of}
use Rattle.zaxbriar_metadata.proofs.photoshop.resource_of.Given as goal

abbrev pub invariant-loop : goal.invariant-loop
invariant-loop l =
    resource_of l.number (length l.resources) l.resources
    ≡ resource_of l.number (length l.resources - l.counter) l.rest
