use Rattle.std.proofs.Common.{[], ◌∷◌}
use Rattle.std.proofs.lemmas.Int.{to_z-of_z}
use Rattle.std.specs.Int.{w32}
use Rattle.jpeg_pixels.specs.Lanes.{lanes}
use Rattle.jpeg_pixels.proofs.half_block.halves.Goals as goal

pub returns : goal.returns
unfolding lanes
returns c =
    let l = to_z-of_z w32 c.args.left c.ranges.left in
    let r = to_z-of_z w32 c.args.right c.ranges.right in
    λ i. l i ∷ l i ∷ l i ∷ l i ∷ r i ∷ r i ∷ r i ∷ r i ∷ []
