use Rattle.std.proofs.Common.{◌≡◌, take}
use Rattle.jpeg_lossless.specs.Differences.{strand}
use Rattle.jpeg_lossless.proofs.planes.pick_each.Given as goal

abbrev pub invariant-loop-x : goal.invariant-loop-x
invariant-loop-x l = take l.x l.line ≡ strand l.x l.size l.index 1 l.row
