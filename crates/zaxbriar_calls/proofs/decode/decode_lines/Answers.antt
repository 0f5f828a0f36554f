use Rattle.zaxbriar_calls.proofs.WrittenLines.{lines-decoded, lines-for, lines-unread}
use Rattle.zaxbriar_calls.proofs.decode.decode_lines.Goals as goal

pub write_lines-requires-clause-picture : goal.write_lines-requires-clause-picture
write_lines-requires-clause-picture c =
    lines-for c.requires.lines.0 c.args.header.info c.args.header.precision c.requires.lines.1 c.args.lines
    c.in-Ok.decoded.lines c.args.decoder.now c.read_lines.new.decoder c.requires.lines.2 c.read_lines.ensures.settings
    c.in-Ok.ensures.stays c.requires.info c.requires.precision c.in-Ok.ensures.counted c.in-Ok.ensures.lines

pub returns-in-Ok : goal.returns-in-Ok
returns-in-Ok c =
    lines-decoded c.args.extent _ c.args.lines c.in-Ok.decoded c.write_lines.result c.args.decoder.now
    c.read_lines.new.decoder c.args.pixels.now c.write_lines.new.pixels c.requires.pictures c.requires.room (record {
      frame = c.in-Ok.ensures.stays;
      brings = c.in-Ok.ensures.given;
      ends = c.in-Ok.ensures.ends;
      rows = c.in-Ok.ensures.rows;
      exceeded = c.in-Ok.ensures.exceeded;
    }) c.write_lines.ensures

pub returns-in-Err : goal.returns-in-Err
returns-in-Err c =
    lines-unread c.args.extent _ c.args.lines c.in-Err.refusal c.args.decoder.now c.read_lines.new.decoder
    c.args.pixels.now c.requires.room c.in-Err.ensures.own c.in-Err.ensures.named c.in-Err.ensures.exceeded
