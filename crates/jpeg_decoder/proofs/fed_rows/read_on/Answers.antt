use Rattle.std.proofs.Common.{Bool, subst, sym}
use Rattle.jpeg_meaning.specs.Found.{Found}
use Rattle.jpeg_decoder.specs.FedRows.{HasDecoded}
use Rattle.jpeg_decoder.proofs.ByRows.FedLines.{IsKept, on-end, on-refused, on-row, on-some}
use Rattle.jpeg_decoder.proofs.fed_rows.read_on.Goals as goal

pub returns-in-Err-clause-goes : goal.returns-in-Err-clause-goes
returns-in-Err-clause-goes c start given h =
    let r = c.error_of_bytes.result in
    on-refused start c.args.settings c.args.state.now c.read_more.new.state c.in_ok-source.source
    c.read_more.new.source c.args.bytes.now given c.args.rows.now c.read_more.new.rows
    c.read_more.new.rows.walk.budget.exceeded c.in_ok-source.ensures.ok h c.in-Err.error r c.in-Err.ensures.goes
    c.read_more.ensures.stays
    (subst (λ (b : Bool). IsKept c.in-Err.error b r) c.has_failed.ensures.failed c.error_of_bytes.ensures)

pub returns-then-not-has_row-clause-goes : goal.returns-then-not-has_row-clause-goes
returns-then-not-has_row-clause-goes c start given h =
    subst (λ (f : Found). HasDecoded start given f.said) (sym c.state.view_is)
    (on-end start c.args.settings c.args.state.now c.read_more.new.state c.in_ok-source.source c.read_more.new.source
    c.args.bytes.now given c.args.rows.now c.read_more.new.rows c.read_more.new.rows.walk.budget.exceeded
    c.in_ok-source.ensures.ok h c.in-Ok.has_row c.if-not-has_row.true c.in-Ok.ensures.goes
    c.read_more.ensures.stays)

pub returns-clause-goes : goal.returns-clause-goes
returns-clause-goes c start given h =
    on-row start c.args.settings c.args.state.now c.read_more.new.state c.in_ok-source.source c.read_more.new.source
    c.args.bytes.now given c.args.rows.now c.read_more.new.rows c.read_more.new.rows.walk.budget.exceeded
    c.in_ok-source.ensures.ok h c.in-Ok.has_row c.in_ok-left.left.items c.if-not-has_row.false
    c.in-Ok.ensures.goes c.in_ok-left.ensures.bytes c.in_ok-left.ensures.failed

pub returns-clause-scan : goal.returns-clause-scan
returns-clause-scan c =
    on-some c.args.settings c.args.state.now c.read_more.new.state c.in_ok-source.source c.read_more.new.source
    c.args.bytes.now c.in_ok-left.left.items c.args.rows.now c.read_more.new.rows
    c.read_more.new.rows.walk.budget.exceeded c.in-Ok.has_row c.in_ok-source.ensures.ok c.requires.scan
    c.if-not-has_row.false c.in-Ok.ensures.goes c.in_ok-left.ensures.bytes c.in_ok-left.ensures.failed
