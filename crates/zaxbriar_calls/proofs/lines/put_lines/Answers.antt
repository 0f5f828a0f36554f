use Rattle.std.proofs.Common.{◌∙◌, arith}
use Rattle.zaxbriar_calls.proofs.TurnedPlaces.{stored-height, stored-width}
use Rattle.zaxbriar_calls.proofs.lines.put_lines.Goals as goal

pub put_stored_lines-requires-clause-width : goal.put_stored_lines-requires-clause-width
put_stored_lines-requires-clause-width c =
    c.requires.room.width ∙ stored-width c.args.lines.turn (omega arith)

pub put_stored_lines-requires-clause-height : goal.put_stored_lines-requires-clause-height
put_stored_lines-requires-clause-height c =
    c.requires.room.height ∙ stored-height c.args.lines.turn (omega arith)
