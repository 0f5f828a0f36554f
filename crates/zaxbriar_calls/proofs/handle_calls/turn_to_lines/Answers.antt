use Rattle.std.proofs.Common.{◌∙◌, ap, sym}
use Rattle.zaxbriar_calls.proofs.BegunFedLines.{begins-lines}
use Rattle.zaxbriar_calls.specs.ArrivedLines.{are_for_fed_rows}
use Rattle.zaxbriar_calls.specs.declared.options.Options.{Options}
use Rattle.zaxbriar_calls.proofs.handle_calls.turn_to_lines.Goals as goal

pub returns : goal.returns
returns c =
    let b = c.begin_fed_reading-outcome in
    rw c.in-Stream.is (begins-lines c.in-Stream.stream b.new.handle c.args.picture.now b.new.picture b.result
    c.outcome_feature-feature.result c.answer-2.new.text c.answer-2.result
    (ap (λ (o : Options). are_for_fed_rows o) (sym c.options.ensures)
    ∙ sym c.are_for_fed_rows.ensures ∙ c.if-not-are_for_fed_rows.false)
    (rw c.in-Stream.is at b.ensures)
    c.answer-2.ensures.code c.outcome_feature-feature.ensures c.answer-2.ensures.text c.answer-2.ensures.ended
    c.answer-2.ensures.said)
