use Rattle.std.proofs.Common.{◌≡◌, Some, take}
use Rattle.std.specs.List.{AllByRecursion}
use Rattle.zaxbriar_strict.proofs.walk.is_whole.Given as goal

abbrev pub invariant-loop-component : goal.invariant-loop-component
invariant-loop-component l =
    AllByRecursion (λ c. AllByRecursion (λ x. x ≡ Some 0) c.lowest) (take l.component-index l.frame.components.items)
