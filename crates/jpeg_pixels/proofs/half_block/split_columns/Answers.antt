use Rattle.std.proofs.Common.{[], ◌∷◌, lit<, rules}
use Rattle.std.specs.Int.{w32}
use Rattle.jpeg_pixels.proofs.LaneSums.{joined_left, lanes_are}
use Rattle.jpeg_pixels.proofs.half_block.split_columns.Goals as goal

pub returns-clause-second : goal.returns-clause-second
returns-clause-second c =
    let v = c.args.v in
    let l = joined_left w32 v v (lanes_are v _ (search rules) c.well_formed.0.1.1) in
    λ i. l 2 (lit< tt) i ∷ l 6 (lit< tt) i ∷ l 7 (lit< tt) i ∷ l 3 (lit< tt) i
    ∷ l 2 (lit< tt) i ∷ l 6 (lit< tt) i ∷ l 7 (lit< tt) i ∷ l 3 (lit< tt) i ∷ []
