use Rattle.std.proofs.Common.{◌≡◌, ◌∙◌, None, refl, subst, slice_index_or}
use Rattle.std.proofs.lemmas.Option.{get_or_from_slice_get}
use Rattle.zaxbriar_strict.specs.Contexts.{IsInstalled}
use Rattle.zaxbriar_strict.specs.Installed.{steps_of}
use Rattle.zaxbriar_strict.specs.declared.frame.Component.{Component}
use Rattle.zaxbriar_strict.proofs.SameFrames.{kept-item, kept-none, rows-item}
use Rattle.zaxbriar_strict.proofs.transform.check_steps_at.Goals as goal

pub returns-in_default-clause-kept : goal.returns-in_default-clause-kept
returns-in_default-clause-kept c = kept-none _

pub returns-in_err-check_steps-clause-kept : goal.returns-in_err-check_steps-clause-kept
returns-in_err-check_steps-clause-kept c =
    kept-item _ _ c.args.place c.in-Some.component.now c.check_steps.new.component c.in-Some.ensures.value
    c.in_err-check_steps.ensures.kept refl refl refl refl refl refl refl

pub returns-clause-kept : goal.returns-clause-kept
returns-clause-kept c =
    kept-item _ _ c.args.place c.in-Some.component.now c.check_steps.new.component c.in-Some.ensures.value
    c.in_ok-check_steps.ensures.kept refl refl refl refl refl refl refl

pub returns-in_err-check_steps-clause-rows : goal.returns-in_err-check_steps-clause-rows
returns-in_err-check_steps-clause-rows c =
    rows-item c.args.frame.now.components.items _ c.args.place c.in-Some.component.now c.check_steps.new.component
    c.in-Some.ensures.value c.in_err-check_steps.ensures.rows c.in_err-check_steps.ensures.wide refl

pub returns-clause-rows : goal.returns-clause-rows
returns-clause-rows c =
    rows-item c.args.frame.now.components.items _ c.args.place c.in-Some.component.now c.check_steps.new.component
    c.in-Some.ensures.value c.in_ok-check_steps.ensures.rows c.in_ok-check_steps.ensures.wide refl

pub returns-clause-installed : goal.returns-clause-installed
returns-clause-installed c = λ k at.
    let x = c.in-Some.component.now in
    let same : x ≡ k =
    c.in-Some.ensures.value ∙ get_or_from_slice_get c.args.frame.now.components.items c.args.place k x at in
    subst (λ (y : Component). IsInstalled (slice_index_or (steps_of c.args.tables.now) y.table None)) same
    c.in_ok-check_steps.ensures.installed
