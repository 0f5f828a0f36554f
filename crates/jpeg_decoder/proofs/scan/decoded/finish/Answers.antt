use Rattle.std.proofs.Common.{arith, ap}
use Rattle.jpeg_bits.specs.Passes.{Pass}
use Rattle.jpeg_decoder.proofs.Scans.BlocksBefore.{marked-by, unmarked-by}
use Rattle.jpeg_decoder.proofs.Strips.JointAdded.{all-marked}
use Rattle.jpeg_decoder.proofs.scan.decoded.finish.Goals as goal
use Rattle.std.proofs.lemmas.Grind.{common_steps}

pub returns-then-pass-eq0-clause-marked : goal.returns-then-pass-eq0-clause-marked
returns-then-pass-eq0-clause-marked c = grind (arith, common_steps, marked-by)

pub returns-then-pass-eq0-clause-all : goal.returns-then-pass-eq0-clause-all
returns-then-pass-eq0-clause-all c =
    grind (arith, common_steps, all-marked, returns-then-pass-eq0-clause-marked)

pub returns-else-pass-eq0-clause-marked : goal.returns-else-pass-eq0-clause-marked
returns-else-pass-eq0-clause-marked c = grind (arith, common_steps, unmarked-by)

pub returns-else-pass-eq0-clause-all : goal.returns-else-pass-eq0-clause-all
returns-else-pass-eq0-clause-all c = λ is. absurd (c.if-pass-eq0.false (ap (λ (p : Pass). p.al) is))
