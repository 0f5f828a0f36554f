use Rattle.std.proofs.Common.{◌≡◌, ◌+◌, length, map, take}
use Rattle.std.specs.List.{concat}
use Rattle.zaxbriar_calls.proofs.planes.fit_in.Given as goal

abbrev pub invariant-loop-index : goal.invariant-loop-index
invariant-loop-index l =
    l.left + length (concat (take l.index (map (λ p. p.items) l.fn.planes))) ≡ l.fn.room
