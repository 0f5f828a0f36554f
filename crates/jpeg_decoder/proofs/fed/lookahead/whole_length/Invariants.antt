use Rattle.std.proofs.Common.{◌≤◌, length}
use Rattle.jpeg_decoder.proofs.fed.lookahead.whole_length.Given as goal

abbrev pub invariant-loop : goal.invariant-loop
invariant-loop l = l.whole ≤ length l.bytes
