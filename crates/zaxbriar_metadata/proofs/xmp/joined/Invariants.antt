use Rattle.std.proofs.Common.{◌≡◌, ◌-◌, [], map}
use Rattle.zaxbriar_metadata.specs.Xmp.{joined}
use Rattle.zaxbriar_metadata.proofs.xmp.joined.Given as goal

abbrev pub invariant-loop : goal.invariant-loop
invariant-loop l =
    joined l.count [] l.guid (map (λ part. part.items) l.parts)
    ≡ joined (l.count - l.counter) l.whole.items l.guid (map (λ part. part.items) l.parts)
