use Rattle.std.proofs.Common.{arith, rules}
use Rattle.std.proofs.lemmas.Bool.{cases_lt}
use Rattle.std.proofs.lemmas.List.{get_or_default}
use Rattle.jpeg_decoder.proofs.Scans.PlacedCodings.{in-order}
use Rattle.jpeg_decoder.proofs.scan.decoded.are_in_order.Goals as goal
use Rattle.std.proofs.lemmas.Grind.{common_steps}

pub loop-slot-preserved : goal.loop-slot-preserved
loop-slot-preserved c = λ k d lt. grind (arith, common_steps, cases_lt, get_or_default)

pub returns : goal.returns
returns c = λ t. (search rules, in-order c.args.codings.now (λ k d lt. c.loop-slot.invariant k d (omega arith)))
