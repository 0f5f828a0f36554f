use Rattle.std.proofs.Common.{◌≡◌, ◌≤◌, ◌*◌, ◌++◌, length}
use Rattle.jpeg_lossless.specs.Differences.{strand}
use Rattle.jpeg_lossless.proofs.planes.pick_several.Given as goal

abbrev pub invariant-loop-left : goal.invariant-loop-left
invariant-loop-left l = record {
  line : l.line.items ++ strand l.left l.size l.from l.across l.rest
      ≡ strand l.count l.size l.from l.across l.row;
  few : l.left ≤ l.count;
  long : length l.rest ≡ l.left * l.size;
}

abbrev pub decreases-loop-left : goal.decreases-loop-left
decreases-loop-left l = l.left
