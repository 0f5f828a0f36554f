use Rattle.std.proofs.Common.{◌∙◌}
use Rattle.zaxbriar_strict.proofs.Shares.{kept-shares}
use Rattle.zaxbriar_strict.proofs.lossless.end_row.Goals as goal

pub loop-slot-preserved : goal.loop-slot-preserved
loop-slot-preserved c =
    kept-shares c.loop-slot.all.items c.loop-slot.slot c.in-Some.lines.now c.end_row.new.self c.in-Some.ensures.value
    c.end_row.ensures ∙ c.loop-slot.invariant
