use Rattle.std.proofs.Common.{◌≡◌, Some, take}
use Rattle.std.specs.List.{AllByRecursion}
use Rattle.zaxbriar_strict.proofs.walk.has_lowest.Given as goal

abbrev pub invariant-loop-level : goal.invariant-loop-level
invariant-loop-level l = AllByRecursion (λ x. x ≡ Some 0) (take l.level-index l.lowest)
