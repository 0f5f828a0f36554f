use Rattle.std.proofs.Common.{◌∙◌, ap, rules, sym}
use Rattle.jpeg_decoder.specs.RowsView.{LinesLeft}
use Rattle.jpeg_decoder.proofs.ByRows.LinesLeft.{next-taken}
use Rattle.jpeg_decoder.proofs.by_rows.shown.Shown.next.Goals as goal

pub returns-clause-some : goal.returns-clause-some
returns-clause-some c _ =
    ap (λ (l : LinesLeft). l.left) (sym c.self.view_is)
    ∙ next-taken c.self.inside.lines c.write_line.new.self c.self.inside.taken c.self.inside.line.len
    c.write_line.new.line c.self.inside.line.items c.self.invariant (search rules) (search rules)
    c.write_line.ensures.line c.write_line.ensures.same
