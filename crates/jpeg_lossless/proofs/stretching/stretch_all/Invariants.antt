use Rattle.std.proofs.Common.{◌≡◌, ◌++◌, map, take, drop, length}
use Rattle.jpeg_lossless.specs.Pictures.{AreWide, lines_across}
use Rattle.jpeg_lossless.specs.Samplings.{layers_in}
use Rattle.jpeg_lossless.proofs.stretching.stretch_all.Given as goal

abbrev pub invariant-loop-i : goal.invariant-loop-i
invariant-loop-i l = record {
  count : length l.lines ≡ length l.planes;
  wide : AreWide l.picture.width (map (λ v. v.items) l.lines);
  lines : take l.i (map (λ v. v.items) l.lines)
      ++ lines_across l.picture.horizontal l.picture.vertical l.picture.width
      (layers_in (drop l.i l.samplings) (drop l.i (map (λ v. v.items) l.planes))) l.row
      ≡ lines_across l.picture.horizontal l.picture.vertical l.picture.width
      (layers_in l.samplings (map (λ v. v.items) l.planes)) l.row;
}
