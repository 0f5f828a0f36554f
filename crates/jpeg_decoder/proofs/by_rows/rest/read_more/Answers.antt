use Rattle.std.proofs.Common.{◌≡◌, ◌∙◌, ap, refl, subst, sym, Bool, Err, false}
use Rattle.std.proofs.lemmas.Result.{err_from_is_err_and}
use Rattle.jpeg_meaning.specs.Stream.{told_of}
use Rattle.jpeg_decoder.specs.RowScans.{SaysAtScan}
use Rattle.jpeg_decoder.specs.declared.scan.work.Walk.{Walk}
use Rattle.jpeg_decoder.proofs.ByRows.ScanRows.{rows-within}
use Rattle.jpeg_decoder.proofs.by_rows.rest.read_more.Goals as goal

pub has_more-requires-clause-scan : goal.has_more-requires-clause-scan
has_more-requires-clause-scan g c =
    let s = c.requires.scan in
    rows-within s.settings s.k c.args.state.now s.at c.args.rows.now c.args.source.now s.bytes s.is

pub returns-in_err-read_lines-clause-goes : goal.returns-in_err-read_lines-clause-goes
returns-in_err-read_lines-clause-goes g c k at bytes h =
    let p = err_from_is_err_and c.from_residual.result c.from_residual.ensures.1 in
    let none : c.read_lines.new.rows.walk.budget.exceeded ≡ false =
    ap (λ (w : Walk). w.budget.exceeded) c.in_err-read_lines.ensures.kept ∙ h.going.0 in
    rw (p.1, p.2) (subst (λ (b : Bool). SaysAtScan c.args.settings k c.args.state.now at
    (Err c.in_err-read_lines.field-0.0) c.read_lines.new.source (told_of c.args.state.now.said) b bytes) (sym none)
    (c.in_err-read_lines.ensures.goes c.args.settings k at bytes h))

pub returns-then-has_more-clause-goes : goal.returns-then-has_more-clause-goes
returns-then-has_more-clause-goes g c k at bytes h =
    let on = c.in_ok-read_lines.ensures.goes c.args.settings k at bytes h in
    ((refl, on.going.0), on)

pub returns-in_err-finish-clause-goes : goal.returns-in_err-finish-clause-goes
returns-in_err-finish-clause-goes g c k at bytes h =
    let p = err_from_is_err_and c.from_residual-in_err-finish.result c.from_residual-in_err-finish.ensures.1 in
    rw (p.1, p.2) (c.in_err-finish.ensures.says k at bytes h)

pub returns-clause-goes : goal.returns-clause-goes
returns-clause-goes g c k at bytes h = c.in_ok-finish.ensures.says k at bytes h
