use Rattle.std.proofs.Common.{◌≡◌, ◌++◌, drop, length, map, take}
use Rattle.std.specs.List.{concat}
use Rattle.zaxbriar_calls.proofs.planes.put_planes.Given as goal

abbrev pub invariant-loop-index : goal.invariant-loop-index
invariant-loop-index l = record {
  start : l.start ≡ length (concat (take l.index (map (λ p. p.items) l.fn.planes)));
  samples : l.samples ≡ concat (take l.index (map (λ p. p.items) l.fn.planes)) ++ drop l.start l.initial.samples;
}
