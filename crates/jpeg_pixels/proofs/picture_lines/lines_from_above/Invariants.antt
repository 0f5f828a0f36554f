use Rattle.std.proofs.Common.{◌≡◌, ◌*◌, length, map}
use Rattle.jpeg_pixels.specs.Pictures.{converted_picture}
use Rattle.jpeg_pixels.specs.PicturesView.{source_in}
use Rattle.jpeg_pixels.proofs.picture_lines.lines_from_above.Given as goal

abbrev pub invariant-loop-row : goal.invariant-loop-row
invariant-loop-row l = record {
  bytes : l.picture.items ≡ converted_picture l.color_convert (map source_in l.components) (map (λ
      v. v.items) l.planes)
      l.width l.row;
  long : length l.picture.items ≡ l.row * (length l.components * l.width);
  buffer : length l.lines.items ≡ length l.components * l.width;
  line : length l.output.items ≡ length l.components * l.width;
}
