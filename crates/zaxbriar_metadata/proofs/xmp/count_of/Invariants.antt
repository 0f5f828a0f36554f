use Rattle.std.proofs.Common.{◌≡◌, ◌+◌, ◌≤◌, drop, length, map}
use Rattle.std.specs.Prelude.{filter}
use Rattle.zaxbriar_metadata.specs.Xmp.{is_of}
use Rattle.zaxbriar_metadata.proofs.xmp.count_of.Given as goal

abbrev pub invariant-loop-index : goal.invariant-loop-index
invariant-loop-index l = record {
  counted : l.count + length (filter (is_of l.guid) (map (λ part. part.items) (drop l.index l.parts)))
      ≡ length (filter (is_of l.guid) (map (λ part. part.items) l.parts));
  few : l.count ≤ l.index;
}
