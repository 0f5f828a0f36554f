use Rattle.std.proofs.lemmas.Result.{err_from_is_err_and}
use Rattle.jpeg_decoder.proofs.ByRows.FinishedScans.{is-short, scan-stops, walk-ends, walk-stops}
use Rattle.jpeg_decoder.proofs.by_rows.rest.finish.Goals as goal

pub returns-in_err-step-clause-says : goal.returns-in_err-step-clause-says
returns-in_err-step-clause-says g c k at bytes h =
    let p = err_from_is_err_and c.from_residual.result c.from_residual.ensures.1 in
    rw (p.1, p.2) (scan-stops c.args.settings k c.args.state.now at c.args.rows.now c.args.source.now bytes h
    c.end_rows.new.state c.end_rows.new.source c.end_rows.new.rows.walk c.in_err-step.ensures.kept c.requires.ended
    c.in_err-step.field-0.0 c.in_err-step.ensures.steps.kept
    (c.in_err-step.ensures.reads c.args.settings k at bytes h))

pub returns-in_err-read_on-clause-says : goal.returns-in_err-read_on-clause-says
returns-in_err-read_on-clause-says g c k at bytes h =
    let p = err_from_is_err_and c.from_residual-in_err-read_on.result c.from_residual-in_err-read_on.ensures.1 in
    let a = c.in_ok-step.ensures.reads c.args.settings k at bytes h in
    let s = c.args.settings in
    let short = is-short s k c.args.state.now at c.args.rows.now c.args.source.now bytes h c.end_rows.new.state
    c.end_rows.new.source c.end_rows.new.rows.walk c.in_ok-step.ensures.kept c.requires.ended c.in_ok-step.step a c.read_on.new.state
    c.read_on.new.source c.read_on.new.walk.budget.exceeded in
    rw (p.1, p.2) (walk-stops s k c.args.state.now at c.args.rows.now c.args.source.now bytes h
    c.end_rows.new.state c.end_rows.new.source c.end_rows.new.rows.walk c.in_ok-step.ensures.kept c.requires.ended
    c.in_ok-step.step a c.read_on.new.state c.read_on.new.source c.read_on.new.walk.budget.exceeded
    c.in_err-read_on.field-0.0 (c.in_err-read_on.ensures.reads k short) (c.in_err-read_on.ensures.told k short)
    (c.in_err-read_on.ensures.turns k short) (c.in_err-read_on.ensures.exceeded k short))

pub returns-clause-says : goal.returns-clause-says
returns-clause-says g c k at bytes h =
    let a = c.in_ok-step.ensures.reads c.args.settings k at bytes h in
    let s = c.args.settings in
    let short = is-short s k c.args.state.now at c.args.rows.now c.args.source.now bytes h c.end_rows.new.state
    c.end_rows.new.source c.end_rows.new.rows.walk c.in_ok-step.ensures.kept c.requires.ended c.in_ok-step.step a c.read_on.new.state
    c.read_on.new.source c.read_on.new.walk.budget.exceeded in
    walk-ends s k c.args.state.now at c.args.rows.now c.args.source.now bytes h
    c.end_rows.new.state c.end_rows.new.source c.end_rows.new.rows.walk c.in_ok-step.ensures.kept c.requires.ended
    c.in_ok-step.step a c.read_on.new.state c.read_on.new.source c.read_on.new.walk.budget.exceeded
    c.check_transform.result (c.in_ok-read_on.ensures.reads k short)
    (c.in_ok-read_on.ensures.turns k short) (c.in_ok-read_on.ensures.exceeded k short)
    (c.in_ok-step.ensures.gives c.args.settings k at bytes h) c.in_ok-step.ensures.steps.stays
    c.in_ok-read_on.ensures.stays c.end_rows.new.rows.transform c.in_ok-step.ensures.colours
    c.check_transform.ensures
