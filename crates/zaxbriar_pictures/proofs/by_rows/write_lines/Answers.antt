use Rattle.std.proofs.Common.{[], inl}
use Rattle.std.proofs.lemmas.Result.{err_from_is_err_and}
use Rattle.zaxbriar_pictures.proofs.ReadRows.{can-finish, none-given, outside-refused, outside-rows, rows-end}
use Rattle.zaxbriar_pictures.proofs.WriterErrors.{of-writer}
use Rattle.zaxbriar_pictures.proofs.by_rows.write_lines.Goals as goal

pub returns-in_err-is_more-clause-refused : goal.returns-in_err-is_more-clause-refused
returns-in_err-is_more-clause-refused g c =
    let rows = c.args.rows.now in
    let p = err_from_is_err_and c.from_residual.result c.from_residual.ensures.1 in
    rw (p.1, p.2) (inl (
      c.read.new.self.decoder,
      [],
      c.in_err-is_more.ensures.gives rows.decoder [] (none-given rows c.requires.start),
    ))

pub returns-in_err-taker-clause-refused : goal.returns-in_err-taker-clause-refused
returns-in_err-taker-clause-refused g c =
    let p = err_from_is_err_and c.from_residual-in_err-taker.result c.from_residual-in_err-taker.ensures.1 in
    rw (p.1, p.2) (outside-rows c.args.rows.now.decoder _ (of-writer _ c.in_err-taker.ensures.refused))

pub returns-in_err-take_rows-clause-refused : goal.returns-in_err-take_rows-clause-refused
returns-in_err-take_rows-clause-refused g c =
    let rows = c.args.rows.now in
    let p = err_from_is_err_and c.from_residual-in_err-take_rows.result c.from_residual-in_err-take_rows.ensures.1 in
    rw (p.1, p.2) (c.in_err-take_rows.ensures.refused rows.decoder []
    (c.in_ok-is_more.ensures.gives rows.decoder [] (none-given rows c.requires.start)))

pub end-requires : goal.end-requires
end-requires g c =
    let rows = c.args.rows.now in
    let before = g.W.Write.contents c.args.writer.now in
    let all = c.in_ok-take_rows.ensures.taken rows.decoder c.args.plan [] before
    (c.in_ok-is_more.ensures.gives rows.decoder [] (none-given rows c.requires.start)) c.in_ok-taker.ensures.begun in
    record {
      possible = can-finish c.args.plan all.0 c.take_rows.new.taker before
          (g.W.Write.contents c.take_rows.new.writer) all.2;
    }

pub returns-clause-written : goal.returns-clause-written
returns-clause-written g c =
    let rows = c.args.rows.now in
    let before = g.W.Write.contents c.args.writer.now in
    rows-end c.end.result rows.decoder c.take_rows.new.rows.decoder c.args.plan c.take_rows.new.taker before
    (g.W.Write.contents c.take_rows.new.writer) (g.W.Write.contents c.end.new.writer)
    (c.in_ok-take_rows.ensures.taken rows.decoder c.args.plan [] before
    (c.in_ok-is_more.ensures.gives rows.decoder [] (none-given rows c.requires.start)) c.in_ok-taker.ensures.begun)
    c.end.ensures.written

pub returns-clause-refused : goal.returns-clause-refused
returns-clause-refused g c = outside-refused c.end.result c.args.rows.now.decoder c.end.ensures.refused
