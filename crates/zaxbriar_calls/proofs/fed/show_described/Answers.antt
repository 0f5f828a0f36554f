use Rattle.zaxbriar_calls.proofs.WrittenLines.{lines-for}
use Rattle.zaxbriar_calls.proofs.fed.show_described.Goals as goal

pub write_lines-requires-clause-picture : goal.write_lines-requires-clause-picture
write_lines-requires-clause-picture c =
    let asked = rw c.in_ok-header.was at c.requires.lines in
    let info = rw c.in_ok-header.was at c.requires.info in
    let precision = rw c.in_ok-header.was at c.requires.precision in
    lines-for asked.0 c.in_ok-header.header.info c.in_ok-header.header.precision asked.1 c.in_ok-header.lines
    c.in-Ok.decoded.lines c.args.decoder.now c.read_part.new.decoder asked.2 c.read_part.ensures.settings
    c.in-Ok.ensures.stays info precision c.in-Ok.ensures.counted c.in-Ok.ensures.lines
