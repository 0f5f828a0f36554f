use Rattle.std.proofs.Common.{◌∙◌, ap}
use Rattle.jpeg_decoder.specs.RowsView.{LinesLeft}
use Rattle.jpeg_decoder.proofs.ByRows.LinesLeft.{none-taken, some-taken}
use Rattle.jpeg_decoder.proofs.by_rows.shown.Shown.line.Goals as goal

pub returns-then-self-eq0 : goal.returns-then-self-eq0
returns-then-self-eq0 c =
    none-taken c.self.inside.taken c.self.inside.line.items c.if-self-eq0.true
    ∙ ap (λ (l : LinesLeft). l.line) c.self.view_is

pub returns : goal.returns
returns c =
    c.deref.ensures.value
    ∙ (some-taken c.self.inside.taken c.self.inside.line.items c.if-self-eq0.false
    ∙ ap (λ (l : LinesLeft). l.line) c.self.view_is)
