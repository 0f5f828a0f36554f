use Rattle.std.proofs.Common.{ap, ◌∙◌}
use Rattle.std.specs.List.{concat}
use Rattle.jpeg_pixels.proofs.PictureLines.{cropped-joined, lines-are, part-long}
use Rattle.jpeg_pixels.proofs.lines.cropped_lines.Goals as goal

pub returns-clause-picture : goal.returns-clause-picture
returns-clause-picture c =
    ap concat c.new.ensures
    ∙ cropped-joined c.args.stride c.args.width c.args.height c.args.plane.items c.requires.width c.requires.room

pub returns-clause-lines : goal.returns-clause-lines
returns-clause-lines c = lines-are _ c.args.height c.args.width c.new.result c.new.ensures
    (part-long c.args.stride c.args.width c.args.height c.args.plane.items c.requires.width c.requires.room)
