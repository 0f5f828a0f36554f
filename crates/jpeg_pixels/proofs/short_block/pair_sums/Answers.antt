use Rattle.std.proofs.Common.{ℕ, ◌<◌, [], ◌∷◌, lit<}
use Rattle.jpeg_pixels.specs.Lanes.{lanes}
use Rattle.jpeg_pixels.proofs.LaneSums.{halves_fit}
use Rattle.jpeg_pixels.proofs.ShortLanes.{pair_element, paired_fits}
use Rattle.jpeg_pixels.proofs.short_block.pair_sums.Goals as goal

pub returns : goal.returns
unfolding lanes
returns c f g e =
    let fits = paired_fits c.args.pairs f g e (halves_fit c.args.pairs _ c.well_formed.0.1.1) in
    let each = λ (j : ℕ) (h : j < 8). pair_element (f j) (g j) c.args.first c.args.second (fits j h).0 (fits j h).1
    c.ranges.first c.ranges.second in
    rw e (λ i. each 0 (lit< tt) i ∷ each 1 (lit< tt) i ∷ each 2 (lit< tt) i ∷ each 3 (lit< tt) i ∷ each 4 (lit< tt) i
    ∷ each 5 (lit< tt) i ∷ each 6 (lit< tt) i ∷ each 7 (lit< tt) i ∷ [])
