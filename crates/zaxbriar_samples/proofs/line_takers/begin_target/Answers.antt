use Rattle.std.proofs.Common.{◌∙◌, ap}
use Rattle.zaxbriar_samples.specs.declared.line_takers.Form.TheVariants as forms
use Rattle.zaxbriar_samples.proofs.TakenLines.{png-begins}
use Rattle.zaxbriar_samples.proofs.line_takers.begin_target.Goals as goal

pub returns-in_ok-file-in-File-Png-clause-begun : goal.returns-in_ok-file-in-File-Png-clause-begun
returns-in_ok-file-in-File-Png-clause-begun g c =
    let format = rw c.in-File-Png.is at c.in-File-Png.field-0-is in
    png-begins c.args.form c.args.said c.in_ok-file-in-File-Png.file (g.W.Write.contents c.args.writer.now)
    (g.W.Write.contents c.begin.new.writer) (c.in-File-Png.is ∙ ap forms.File format) c.requires.possible c.in_ok-file-in-File-Png.ensures.file
    c.in_ok-file-in-File-Png.ensures.written
