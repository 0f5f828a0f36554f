use Rattle.std.proofs.Common.{◌∙◌, sym}
use Rattle.zaxbriar_calls.proofs.BegunRows.{begins-reading}
use Rattle.zaxbriar_calls.proofs.handle_calls.begin_rows.Goals as goal

pub returns : goal.returns
returns c =
    let b = c.begin_reading-outcome in
    begins-reading c.args.options.now c.args.jpeg.now b.new.picture b.result b.new.kept.value
    c.outcome_feature-feature.result c.answer-2.new.text c.answer-2.result
    (sym c.are_for_rows.ensures ∙ c.if-not-are_for_rows.false) b.ensures.described b.ensures.reader b.ensures.none
    c.answer-2.ensures.code c.outcome_feature-feature.ensures c.answer-2.ensures.text c.answer-2.ensures.ended
    c.answer-2.ensures.said
