use Rattle.zaxbriar_calls.proofs.Levels.{byte-part}
use Rattle.zaxbriar_calls.proofs.layouts.put_colour.Goals as goal

pub put_bytes-requires-clause-red : goal.put_bytes-requires-clause-red
put_bytes-requires-clause-red c =
    byte-part c.args.layout c.args.colour.red c.in_default.not-Grey16 c.in_default.not-Rgb16 c.requires.red

pub put_bytes-requires-clause-green : goal.put_bytes-requires-clause-green
put_bytes-requires-clause-green c =
    byte-part c.args.layout c.args.colour.green c.in_default.not-Grey16 c.in_default.not-Rgb16 c.requires.green

pub put_bytes-requires-clause-blue : goal.put_bytes-requires-clause-blue
put_bytes-requires-clause-blue c =
    byte-part c.args.layout c.args.colour.blue c.in_default.not-Grey16 c.in_default.not-Rgb16 c.requires.blue
