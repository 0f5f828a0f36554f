use Rattle.std.proofs.Common.{arith, subst}
use Rattle.std.proofs.lemmas.Grind.{common_steps}
use Rattle.jpeg_decoder.specs.Bytes.{HaveBytes}
use Rattle.jpeg_decoder.proofs.Pictures.LinesTogether.{together-length}
use Rattle.jpeg_decoder.proofs.picture.lines.Lines.copied.Goals as goal

pub write_all-requires : goal.write_all-requires
write_all-requires c =
    let have = subst (HaveBytes c.lines.inside.line_bytes) c.lines.view_is c.lines.invariant.0 in
    grind (arith, common_steps, together-length c.lines.inside.line_bytes c.args.self have)
