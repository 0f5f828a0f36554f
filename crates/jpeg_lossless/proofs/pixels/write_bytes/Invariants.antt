use Rattle.std.proofs.Common.{◌≡◌, take, [], ◌∷◌}
use Rattle.jpeg_lossless.specs.Pictures.{line_from}
use Rattle.jpeg_lossless.proofs.pixels.write_bytes.Given as goal

abbrev pub invariant-loop-x : goal.invariant-loop-x
invariant-loop-x l = take l.x l.line ≡ line_from l.precision (l.fn.plane ∷ []) l.from l.x
