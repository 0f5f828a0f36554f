use Rattle.zaxbriar_calls.proofs.Informed.{informs}
use Rattle.zaxbriar_calls.proofs.calls.read_info.Goals as goal

pub returns : goal.returns
returns c =
    informs c.args.options.now c.args.jpeg.now c.describe_stream-outcome.new.picture c.describe_stream-outcome.result
    c.outcome_feature-feature.result c.answer.new.text c.answer.result c.describe_stream-outcome.ensures c.answer.ensures.code c.outcome_feature-feature.ensures c.answer.ensures.text c.answer.ensures.ended
    c.answer.ensures.said
