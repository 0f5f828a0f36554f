use Rattle.std.proofs.Common.{◌+◌, ap, length, map, sym, ◌∙◌, arith}
use Rattle.jpeg_pixels.proofs.ComponentLines.{cover-lower}
use Rattle.jpeg_pixels.proofs.PictureLines.{made-line, picture_line-long}
use Rattle.jpeg_pixels.proofs.lines.upsampled.UpsampledLines.write_line.Goals as goal

pub write_line-requires-clause-cover : goal.write_line-requires-clause-cover
write_line-requires-clause-cover c =
    let l = c.self.inside in
    let made = made-line _ l.height c.args.row c.args.self.now c.self.view_is c.requires.row in
    rw c.deref.ensures.value (cover-lower l.upsampler (map (λ v. v.items) l.planes.items) l.width (c.args.row + 1)
    l.height (omega (arith, made.0)) c.self.invariant.0.cover)

pub write_line-requires-clause-room : goal.write_line-requires-clause-room
write_line-requires-clause-room c =
    let l = c.self.inside in
    let made = made-line _ l.height c.args.row c.args.self.now c.self.view_is c.requires.row in
    c.requires.room ∙ ap length made.1
    ∙ picture_line-long l.color_convert l.upsampler (map (λ v. v.items) l.planes.items) l.width c.args.row
    c.self.invariant.0.count c.self.invariant.0.fits

pub returns-clause-line : goal.returns-clause-line
returns-clause-line c =
    let l = c.self.inside in
    let made = made-line _ l.height c.args.row c.args.self.now c.self.view_is c.requires.row in
    c.write_line.ensures ∙ rw c.deref.ensures.value (sym made.1)
