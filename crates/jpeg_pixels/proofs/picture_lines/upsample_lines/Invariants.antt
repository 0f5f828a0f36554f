use Rattle.std.proofs.Common.{◌≡◌, ◌*◌, map, take}
use Rattle.std.specs.List.{concat}
use Rattle.jpeg_pixels.specs.Pictures.{lines_of}
use Rattle.jpeg_pixels.specs.PicturesView.{source_in}
use Rattle.jpeg_pixels.proofs.picture_lines.upsample_lines.Given as goal

abbrev pub invariant-loop-index : goal.invariant-loop-index
invariant-loop-index l = take (l.index * l.line.width) l.lines
    ≡ concat (take l.index (lines_of (map source_in l.components) (map (λ v. v.items) l.line.planes.now) l.line.width l.line.row))
