use Rattle.std.proofs.Common.{◌≡◌, ◌-◌, length}
use Rattle.zaxbriar_calls.specs.Places.{places_of}
use Rattle.zaxbriar_calls.proofs.FoundPlaces.{found_from}
use Rattle.zaxbriar_calls.proofs.places.find_places.Given as goal

abbrev pub invariant-loop : goal.invariant-loop
invariant-loop l = places_of l.stream ≡ found_from l.stream (length l.stream - l.counter) l.places l.rest
