use Rattle.std.proofs.Common.{◌≤◌, ◌+◌, ◌*◌, fold, take}
use Rattle.zaxbriar_samples.specs.Png.{adler_byte}
use Rattle.zaxbriar_samples.proofs.AdlerSteps.{StandFor}
use Rattle.zaxbriar_samples.proofs.adler.adler_bytes.Given as goal

abbrev pub invariant-loop-byte : goal.invariant-loop-byte
invariant-loop-byte l = record {
  sums : StandFor l.sum l.total (fold adler_byte l.fn.before (take l.byte-index l.fn.bytes));
  bytes : l.sum ≤ 65535 + 255 * l.byte-index;
  totals : l.total ≤ 65535 + 267452415 * l.byte-index;
}
