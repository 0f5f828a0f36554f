use Rattle.std.proofs.Common.{◌≡◌, ◌++◌, ℕ, List}
use Rattle.zaxbriar_samples.specs.Boxes.{component_bytes, texts_below}
use Rattle.zaxbriar_samples.specs.BoxSums.{AreSums}
use Rattle.zaxbriar_samples.proofs.boxes.push_pixel.Given as goal

abbrev pub invariant-loop-component : goal.invariant-loop-component
invariant-loop-component l = (pixels : List ℕ) → AreSums pixels l.reduction l.area.top l.area.height l.sums
    → l.bytes.items ≡ l.fn.bytes.items ++ texts_below l.component (component_bytes pixels l.reduction l.area)
