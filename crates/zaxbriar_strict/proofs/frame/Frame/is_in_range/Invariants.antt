use Rattle.std.proofs.Common.{◌≡◌, false, take}
use Rattle.std.specs.List.{AllByRecursion}
use Rattle.zaxbriar_strict.specs.Changes.{IsComponentInRange}
use Rattle.zaxbriar_strict.proofs.frame.Frame.is_in_range.Given as goal

abbrev pub invariant-loop-component : goal.invariant-loop-component
invariant-loop-component l = record {
  eight : l.self.precision ≡ 8
      → AllByRecursion IsComponentInRange (take l.component-index l.self.components.items);
  inner : AllByRecursion (λ c. c.is_wide ≡ false) (take l.component-index l.self.components.items);
}
