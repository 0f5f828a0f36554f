use Rattle.std.proofs.Common.{◌∙◌, eqb-true, sym}
use Rattle.zaxbriar_strict.proofs.Segments.{installs-steps, no-steps, steps-fewer, steps-then}
use Rattle.zaxbriar_strict.proofs.tables.Tables.read_steps.Goals as goal

pub loop-rest-init : goal.loop-rest-init
loop-rest-init c = no-steps _ _

pub put_steps-requires : goal.put_steps-requires
put_steps-requires c = c.in_ok-destination.ensures.legal.placed

pub loop-rest-smaller : goal.loop-rest-smaller
loop-rest-smaller c = steps-fewer _ _ _ _ c.in_ok-destination.ensures

pub loop-rest-preserved : goal.loop-rest-preserved
loop-rest-preserved c =
    steps-then _ _ _ _ _ _ _ _ c.loop-rest.invariant c.in_ok-destination.ensures c.put_steps.ensures.steps
    c.put_steps.ensures.codes c.put_steps.ensures.interval

pub returns : goal.returns
returns c = installs-steps _ _ _ _ c.loop-rest.invariant
    (eqb-true _ 0 (sym c.is_empty-in-loop-rest.ensures ∙ c.loop-rest-test.false))
