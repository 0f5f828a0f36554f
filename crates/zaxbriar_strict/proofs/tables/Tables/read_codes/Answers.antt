use Rattle.std.proofs.Common.{◌∙◌, eqb-true, sym}
use Rattle.zaxbriar_strict.proofs.Segments.{codes-fewer, codes-then, installs-codes, no-codes}
use Rattle.zaxbriar_strict.proofs.tables.Tables.read_codes.Goals as goal

pub loop-rest-init : goal.loop-rest-init
loop-rest-init c = no-codes _ _ _

pub loop-rest-smaller : goal.loop-rest-smaller
loop-rest-smaller c = codes-fewer _ _ _ _ _ c.in_ok-class.ensures

pub loop-rest-preserved : goal.loop-rest-preserved
loop-rest-preserved c =
    codes-then _ _ _ _ _ _ _ _ _ _ c.loop-rest.invariant c.in_ok-class.ensures c.in_default.ensures
    c.put_codes.ensures.codes c.put_codes.ensures.steps c.put_codes.ensures.interval

pub returns : goal.returns
returns c = installs-codes _ _ _ _ _ c.loop-rest.invariant
    (eqb-true _ 0 (sym c.is_empty-in-loop-rest.ensures ∙ c.loop-rest-test.false))
