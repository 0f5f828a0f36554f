use Rattle.jpeg_decoder.specs.Rows.{AreGiven, calls_left}
use Rattle.test_decoder_callers.proofs.rows.gather.Given as goal

abbrev pub invariant-loop-picture : goal.invariant-loop-picture
invariant-loop-picture g l = AreGiven l.fn.rows.decoder l.picture.items l.rows.decoder l.rows.ahead

abbrev pub decreases-loop-picture : goal.decreases-loop-picture
decreases-loop-picture g l = calls_left l.rows.ahead
