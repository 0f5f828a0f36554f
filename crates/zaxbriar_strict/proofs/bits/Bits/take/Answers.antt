use Rattle.jpeg_bits.specs.Written.{low_bits}
use Rattle.zaxbriar_strict.proofs.Taken.{takes-none, takes-number, takes-then}
use Rattle.zaxbriar_strict.proofs.bits.Bits.take.Goals as goal

pub returns-then-count-eq0-clause-bits : goal.returns-then-count-eq0-clause-bits
unfolding low_bits
returns-then-count-eq0-clause-bits c = rw c.if-count-eq0.true (takes-none _)

pub returns-clause-bits : goal.returns-clause-bits
returns-clause-bits c =
    let s = c.load_for.new.self in
    takes-then c.in_ok-load_for.ensures.bits
    (rw c.lowest.ensures.value (takes-number c.args.count s.left s.window s.rest.rest.now c.in_ok-load_for.ensures.loaded))
