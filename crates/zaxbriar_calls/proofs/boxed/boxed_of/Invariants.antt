use Rattle.std.proofs.Common.{◌≡◌, length}
use Rattle.std.specs.List.{concat}
use Rattle.jpeg_decoder.specs.Bytes.{HaveBytes}
use Rattle.zaxbriar_samples.specs.Boxing.{HasTaken}
use Rattle.zaxbriar_calls.proofs.boxed.boxed_of.Given as goal

abbrev pub invariant-loop-row : goal.invariant-loop-row
invariant-loop-row l = record {
  same : l.picture ≡ l.fn.picture;
  long : HaveBytes (length l.line.items) l.fn.picture;
  taken : HasTaken (concat l.fn.picture) l.fn.info l.fn.precision l.fn.size l.row l.boxing;
}
