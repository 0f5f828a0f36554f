use Rattle.zaxbriar_strict.proofs.Markers.{one-filled}
use Rattle.zaxbriar_strict.proofs.cursor.Cursor.marker.Goals as goal

pub loop-preserved : goal.loop-preserved
loop-preserved c =
    one-filled c.in-Some-eq255.field-0 c.loop.invariant c.in-Some-eq255.ensures c.in-Some-eq255.field-0-test
