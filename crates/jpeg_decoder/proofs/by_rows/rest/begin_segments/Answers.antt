use Rattle.std.proofs.Common.{Bool, Err, Ok, [], false, refl, subst}
use Rattle.std.proofs.lemmas.Result.{err_from_is_err_and}
use Rattle.std.specs.List.{concat}
use Rattle.jpeg_decoder.proofs.ByRows.BegunRest.{begins-there, says-ended, says-refused}
use Rattle.jpeg_decoder.proofs.ByRows.Shown.{ReadsAhead}
use Rattle.jpeg_decoder.proofs.by_rows.rest.begin_segments.Given.{Over}
use Rattle.jpeg_decoder.proofs.by_rows.rest.begin_segments.Goals.{After-take_lines}
use Rattle.jpeg_decoder.proofs.by_rows.rest.begin_segments.Goals as goal

-- ---- a segment before the scan is refused

pub returns-in_err-read_to_scan-clause-begins : goal.returns-in_err-read_to_scan-clause-begins
returns-in_err-read_to_scan-clause-begins g c =
    let p = err_from_is_err_and c.from_residual.result c.from_residual.ensures.1 in
    rw (p.1, p.2) (says-refused c.args.settings c.args.state.now c.read_to_scan.new.state c.args.source.now
    c.read_to_scan.new.source c.in_err-read_to_scan.field-0.0 c.args.walk.now.budget.exceeded c.requires.going.0
    c.in_err-read_to_scan.ensures.reads (c.in_err-read_to_scan.ensures.told c.args.settings.max_blocks)
    (c.in_err-read_to_scan.ensures.turns c.args.settings.max_blocks))

-- ---- there is a scan

pub returns-then-branch-clause-begins : goal.returns-then-branch-clause-begins
returns-then-branch-clause-begins g c =
    begins-there c.args.settings c.args.state.now c.read_to_scan.new.state c.begin_at_scan.new.state
    c.args.source.now c.read_to_scan.new.source c.begin_at_scan.new.source c.begin_at_scan.result
    c.begin_at_scan.new.walk.budget.exceeded c.in_ok-read_to_scan.ensures.short
    (subst (λ (b : Bool). ReadsAhead c.args.state.now c.read_to_scan.new.state c.args.source.now (Ok b)
    c.read_to_scan.new.source) c.if-branch.true c.in_ok-read_to_scan.ensures.reads)
    (c.in_ok-read_to_scan.ensures.stays c.requires.framed) c.begin_at_scan.ensures.begins

-- ---- there is none

ended : (g : Over) (c : After-take_lines g)
    → ReadsAhead c.args.state.now c.read_to_scan.new.state c.args.source.now (Ok false) c.read_to_scan.new.source
ended g c =
    subst (λ (b : Bool). ReadsAhead c.args.state.now c.read_to_scan.new.state c.args.source.now (Ok b)
    c.read_to_scan.new.source) c.if-branch.false c.in_ok-read_to_scan.ensures.reads

pub returns-in_err-shown-clause-begins : goal.returns-in_err-shown-clause-begins
returns-in_err-shown-clause-begins g c =
    let p = err_from_is_err_and c.from_residual-in_err-shown.result c.from_residual-in_err-shown.ensures.1 in
    rw (p.1, p.2) (says-ended c.args.settings c.args.state.now c.read_to_scan.new.state c.take_lines.new.state.said
    c.args.source.now c.read_to_scan.new.source (Err c.in_err-shown.field-0.0) c.args.walk.now.budget.exceeded []
    c.requires.going.0 (ended g (goal.at.returns-in_err-shown-clause-begins g c).After-take_lines)
    c.take_lines.ensures.said (c.in_ok-read_to_scan.ensures.stays c.requires.framed)
    (tt, c.in_err-shown.ensures.meant) refl)

pub returns-clause-begins : goal.returns-clause-begins
returns-clause-begins g c = (
  says-ended c.args.settings c.args.state.now c.read_to_scan.new.state c.take_lines.new.state.said
      c.args.source.now c.read_to_scan.new.source (Ok tt) c.args.walk.now.budget.exceeded
      (concat c.in_ok-shown.shown.left) c.requires.going.0
      (ended g (goal.at.returns-clause-begins g c).After-take_lines)
      c.take_lines.ensures.said (c.in_ok-read_to_scan.ensures.stays c.requires.framed)
      (c.in_ok-shown.ensures.whole, c.in_ok-shown.ensures.meant) tt,
  c.in_ok-shown.ensures.untaken,
)
