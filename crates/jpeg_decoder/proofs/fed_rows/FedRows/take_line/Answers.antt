use Rattle.std.proofs.Common.{rules, ◌≡◌, true}
use Rattle.jpeg_decoder.specs.FedRows.{AreReadyLines, FedRowsState}
use Rattle.jpeg_decoder.specs.RowsView.{LinesLeft}
use Rattle.jpeg_decoder.proofs.ByRows.FedLines.{lines-of, ready-next, ready-put}
use Rattle.jpeg_decoder.proofs.fed_rows.FedRows.take_line.Goals as goal

pub invariant_of-self-2 : goal.invariant_of-self-2
invariant_of-self-2 c =
    let s = c.self.inside in
    ready-put s.settings s.state c.next.new.self c.put_ahead-2.new.place c.put_ahead-2.ensures
    (ready-next s.settings s.state c.args.shown c.next.new.self (c.next.ensures.some c.if-not-next.false)
    (lines-of c.args.self.now _ c.args.shown c.self.view_is c.requires.ready))
