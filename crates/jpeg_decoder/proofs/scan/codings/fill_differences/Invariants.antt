use Rattle.std.proofs.Common.{◌≡◌}
use Rattle.jpeg_decoder.proofs.scan.codings.fill_differences.Given as goal

abbrev pub invariant-loop-destination : goal.invariant-loop-destination
invariant-loop-destination l = l.tables ≡ l.initial.tables
