use Rattle.std.proofs.Common.{◌≡◌, length}
use Rattle.std.specs.List.{concat}
use Rattle.jpeg_decoder.specs.Bytes.{HaveBytes}
use Rattle.zaxbriar_samples.specs.Boxing.{HasTaken}
use Rattle.zaxbriar_pictures.proofs.lines.boxed_of.Given as goal

abbrev pub invariant-loop-row : goal.invariant-loop-row
invariant-loop-row l = record {
  same : l.lines ≡ l.fn.lines;
  long : HaveBytes (length l.line.items) l.fn.lines;
  taken : HasTaken (concat l.fn.lines) l.fn.stored.info l.fn.stored.precision l.fn.size l.row l.boxing;
}
