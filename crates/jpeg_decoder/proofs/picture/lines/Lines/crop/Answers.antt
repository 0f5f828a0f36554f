use Rattle.std.proofs.Common.{arith}
use Rattle.jpeg_decoder.specs.LinesView.{lines_in}
use Rattle.jpeg_decoder.proofs.Pictures.PartLines.{part-made}
use Rattle.jpeg_decoder.proofs.picture.lines.Lines.crop.Goals as goal

pub invariant_of-result : goal.invariant_of-result
invariant_of-result c =
    let part = part-made c.self.inside.crop c.in_ok-crop.crop c.self.inside.line_bytes c.args.top c.args.height
    c.args.from c.args.bytes (lines_in c.self.inside.source) c.args.self c.in_ok-crop.ensures c.self.invariant.1
    c.self.view_is c.self.invariant.0 (omega arith) c.requires.lines c.requires.bytes in
    (part.have, part.inside)

pub returns : goal.returns
returns c =
    (part-made c.self.inside.crop c.in_ok-crop.crop c.self.inside.line_bytes c.args.top c.args.height
    c.args.from c.args.bytes (lines_in c.self.inside.source) c.args.self c.in_ok-crop.ensures c.self.invariant.1
    c.self.view_is c.self.invariant.0 (omega arith) c.requires.lines c.requires.bytes).is
