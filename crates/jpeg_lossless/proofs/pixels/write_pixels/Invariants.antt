use Rattle.std.proofs.Common.{◌≡◌, ◌*◌, map, take}
use Rattle.jpeg_lossless.specs.Pictures.{line_from}
use Rattle.jpeg_lossless.proofs.pixels.write_pixels.Given as goal

abbrev pub invariant-loop-x : goal.invariant-loop-x
invariant-loop-x l = take (l.x * l.size) l.line ≡ line_from l.precision (map (λ v. v.items) l.planes) l.from l.x
