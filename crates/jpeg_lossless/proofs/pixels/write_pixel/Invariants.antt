use Rattle.std.proofs.Common.{◌≡◌, ◌*◌, map, take}
use Rattle.jpeg_lossless.specs.Pictures.{bytes_at}
use Rattle.jpeg_lossless.proofs.pixels.write_pixel.Given as goal

abbrev pub invariant-loop-i : goal.invariant-loop-i
invariant-loop-i l = take (l.i * l.size) l.pixel
    ≡ bytes_at l.precision (take l.i (map (λ v. v.items) l.planes)) l.at
