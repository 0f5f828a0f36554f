use Rattle.std.proofs.Common.{◌≡◌, length}
use Rattle.std.specs.List.{concat}
use Rattle.jpeg_decoder.specs.Bytes.{HaveBytes}
use Rattle.zaxbriar_samples.specs.PngLines.{HasLines}
use Rattle.zaxbriar_pictures.proofs.lines.write_png.Given as goal

abbrev pub invariant-loop-row : goal.invariant-loop-row
invariant-loop-row g l = record {
  same : l.lines ≡ l.fn.lines;
  long : HaveBytes (length l.line.items) l.fn.lines;
  written : HasLines l.fn.info l.precision (concat l.fn.lines) l.row l.file
      (g.W.Write.contents l.fn.writer) (g.W.Write.contents l.writer);
}
