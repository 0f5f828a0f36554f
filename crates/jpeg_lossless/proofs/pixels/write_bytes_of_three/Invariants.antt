use Rattle.std.proofs.Common.{◌≡◌, ◌*◌, take, [], ◌∷◌}
use Rattle.jpeg_lossless.specs.Pictures.{line_from}
use Rattle.jpeg_lossless.proofs.pixels.write_bytes_of_three.Given as goal

abbrev pub invariant-loop-x : goal.invariant-loop-x
invariant-loop-x l = take (3 * l.x) l.line
    ≡ line_from l.precision (l.fn.first ∷ l.fn.second ∷ l.fn.third ∷ []) l.from l.x
