use Rattle.std.proofs.Common.{◌≡◌, ◌-◌, length}
use Rattle.std.specs.Prelude.{fold}
use Rattle.zaxbriar_metadata.specs.Collected.{with_segment}
use Rattle.zaxbriar_metadata.specs.CollectedView.{collection_in}
use Rattle.zaxbriar_calls.specs.Joined.{applications_in}
use Rattle.zaxbriar_calls.proofs.Joining.{brought_from}
use Rattle.zaxbriar_calls.proofs.joined.collect.Given as goal

abbrev pub invariant-loop : goal.invariant-loop
invariant-loop l =
    fold with_segment (collection_in l.initial.collected) (applications_in l.stream)
    ≡ brought_from (length l.stream - l.counter) (collection_in l.collected) l.rest
