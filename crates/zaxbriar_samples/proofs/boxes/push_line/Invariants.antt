use Rattle.std.proofs.Common.{◌≡◌, ◌++◌, ℕ, List}
use Rattle.zaxbriar_samples.specs.Boxes.{box_pixel, edge, lines_in, texts_below}
use Rattle.zaxbriar_samples.specs.BoxSums.{AreSums}
use Rattle.zaxbriar_samples.proofs.boxes.push_line.Given as goal

abbrev pub invariant-loop-x : goal.invariant-loop-x
invariant-loop-x l = (l.left ≡ edge l.x l.reduction.width l.reduction.to_width)
    × ((pixels : List ℕ) → AreSums pixels l.reduction (edge l.y l.reduction.height l.reduction.to_height)
    (lines_in l.reduction l.y) l.sums
    → l.bytes.items ≡ l.fn.bytes.items ++ texts_below l.x (box_pixel pixels l.reduction l.y))
