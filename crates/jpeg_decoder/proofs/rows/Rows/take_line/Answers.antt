use Rattle.std.proofs.Common.{subst, sym}
use Rattle.jpeg_decoder.specs.Bytes.{HaveLines, shape_in}
use Rattle.jpeg_decoder.specs.Rows.{RowsState}
use Rattle.jpeg_decoder.proofs.ByRows.NextRows.{line-given, lines-ended}
use Rattle.jpeg_decoder.proofs.ByRows.WholeLines.{later-lines, no-line, one-line}
use Rattle.jpeg_decoder.proofs.rows.Rows.take_line.Goals as goal

pub returns-then-not-next-clause-whole : goal.returns-then-not-next-clause-whole
returns-then-not-next-clause-whole g c = no-line (shape_in c.self.inside.decoder)

pub invariant_of-self-2 : goal.invariant_of-self-2
invariant_of-self-2 g c =
    later-lines (shape_in c.self.inside.decoder) c.next.new.self.line c.next.new.self.left
    (subst (HaveLines (shape_in c.self.inside.decoder)) (c.next.ensures.some c.if-not-next.false)
    (subst (λ (s : RowsState). HaveLines (shape_in s.decoder) c.args.shown.left) (sym c.self.view_is)
    c.requires.lines))

pub returns-clause-whole : goal.returns-clause-whole
returns-clause-whole g c =
    one-line (shape_in c.self.inside.decoder) c.next.new.self.line c.next.new.self.left
    (subst (HaveLines (shape_in c.self.inside.decoder)) (c.next.ensures.some c.if-not-next.false)
    (subst (λ (s : RowsState). HaveLines (shape_in s.decoder) c.args.shown.left) (sym c.self.view_is)
    c.requires.lines))

pub returns-then-not-next-clause-gives : goal.returns-then-not-next-clause-gives
returns-then-not-next-clause-gives g c start bytes h =
    lines-ended c.args.self.now c.self.inside.decoder c.self.inside.ahead start bytes c.args.shown.left c.self.view_is
    (c.next.ensures.none c.if-not-next.true).0 h

pub returns-clause-gives : goal.returns-clause-gives
returns-clause-gives g c start bytes h =
    line-given c.args.self.now c.self.inside.decoder c.self.inside.ahead start bytes c.next.new.self.line
    c.args.shown.left c.next.new.self.left c.self.view_is (c.next.ensures.some c.if-not-next.false) h
