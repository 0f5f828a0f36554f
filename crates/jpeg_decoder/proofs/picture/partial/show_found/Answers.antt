use Rattle.std.proofs.Common.{◌∙◌, rules, arith}
use Rattle.std.proofs.lemmas.Grind.{common_steps}
use Rattle.std.proofs.lemmas.Result.{err_from_is_err_and}
use Rattle.std.specs.List.{concat}
use Rattle.jpeg_segments.specs.FrameView.{frame_in}
use Rattle.jpeg_decoder.specs.Steps.{with_decoded}
use Rattle.jpeg_decoder.proofs.Partial.ShownFaults.{first-stays, framed-lacks, framed-shown, unframed-end, unframed-fault}
use Rattle.jpeg_decoder.proofs.Partial.ShownRows.{found-counted}
use Rattle.jpeg_decoder.proofs.picture.partial.show_found.Goals as goal

pub returns-in-Some-fault-clause-shown : goal.returns-in-Some-fault-clause-shown
returns-in-Some-fault-clause-shown c ended n =
    unframed-fault c.args.settings (with_decoded c.args.state.now c.args.decoded.now) c.in-Some-fault.e
    c.args.fault ended (grind (arith, common_steps)) (search rules) n

pub returns-in_default-clause-shown : goal.returns-in_default-clause-shown
returns-in_default-clause-shown c ended n =
    unframed-end c.args.settings (with_decoded c.args.state.now c.args.decoded.now) c.format_error.result
    c.args.fault ended (grind (arith, common_steps)) (search rules) n c.format_error.ensures

pub returns-in_err-lines-clause-shown : goal.returns-in_err-lines-clause-shown
returns-in_err-lines-clause-shown c ended n =
    let p = err_from_is_err_and c.from_residual-in_err-lines.result c.from_residual-in_err-lines.ensures.1 in
    rw (p.1, p.2) (framed-lacks c.args.settings (with_decoded c.args.state.now c.args.decoded.now)
    (with_decoded c.args.state.now c.complete.new.decoded) (frame_in c.in-Some.frame.now) _ ended
    (search rules) c.in_ok-complete.ensures.completed c.in_err-lines.ensures.meant.1)

pub returns-clause-shown : goal.returns-clause-shown
returns-clause-shown c ended n =
    framed-shown c.args.settings (with_decoded c.args.state.now c.args.decoded.now)
    (with_decoded c.args.state.now c.complete.new.decoded) (frame_in c.in-Some.frame.now) c.args.fault
    c.missing_fault-missing.result c.or.result (concat c.in_ok-lines.lines) ended (search rules)
    c.in_ok-complete.ensures.completed c.in_ok-lines.ensures.meant c.or.ensures c.missing_fault-missing.ensures n

pub returns-clause-first : goal.returns-clause-first
returns-clause-first c =
    first-stays c.args.fault c.missing_fault-missing.result c.or.result c.or.ensures

pub returns-clause-rows : goal.returns-clause-rows
returns-clause-rows c =
    found-counted c.args.rows (with_decoded c.args.state.now c.args.decoded.now)
    (frame_in c.in-Some.frame.now) c.missing_fault-missing.result c.whole_rows_of-whole_rows.result (search rules)
    c.missing_fault-missing.ensures (λ e. c.whole_rows_of-whole_rows.ensures.all (c.is_some.ensures ∙ e))
    (λ e. c.whole_rows_of-whole_rows.ensures.none (c.is_some.ensures ∙ e))
