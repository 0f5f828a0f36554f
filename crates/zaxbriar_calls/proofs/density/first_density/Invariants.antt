use Rattle.std.proofs.Common.{◌≡◌, ◌-◌}
use Rattle.zaxbriar_calls.specs.Density.{first_density}
use Rattle.zaxbriar_calls.proofs.density.first_density.Given as goal

abbrev pub invariant-loop : goal.invariant-loop
invariant-loop l = first_density l.count l.bytes ≡ first_density (l.count - l.counter) l.rest
