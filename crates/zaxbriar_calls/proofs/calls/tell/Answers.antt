use Rattle.std.proofs.Common.{rules, ◌≡◌, ◌∙◌, Bool, ap}
use Rattle.std.specs.Prelude.{◌&&◌}
use Rattle.zaxbriar_calls.specs.Faults.{with_passes}
use Rattle.zaxbriar_calls.specs.Passes.{is_whole}
use Rattle.zaxbriar_calls.proofs.Filled.{fills}
use Rattle.zaxbriar_calls.proofs.calls.tell.Goals as goal
use Rattle.zaxbriar_calls.proofs.calls.tell.Goals.{then-exceeded, else-exceeded}

pub returns : goal.returns
returns c o bytes before after decoded =
    let passed : c.if-exceeded.with_passes ≡ (c.args.exceeded && is_whole c.args.extent)
    = elim c.if-exceeded.branch [ then-exceeded w ↦ search rules | else-exceeded w ↦ search rules ] in
    fills c.args.extent o bytes before after c.args.picture.now c.args.outcome c.args.exceeded
    c.outcome_feature-feature.result c.with_passes.result c.from-picture.result c.answer-code.new.text
    c.answer-code.result c.with_passes-2.result decoded (record {
      code_is = c.answer-code.ensures.code;
      feature_is = c.outcome_feature-feature.ensures;
      fault_is = search rules;
      rows_are = c.from-picture.ensures ∙ c.outcome_rows.ensures;
      text_is = c.answer-code.ensures.text;
      ended = c.answer-code.ensures.ended;
      said = c.answer-code.ensures.said;
    }) (c.with_passes-2.ensures ∙ ap (λ (passed : Bool). with_passes passed c.answer-code.result) passed)
