use Rattle.std.proofs.Common.{ℕ, ◌<◌, [], ◌∷◌, lit<}
use Rattle.jpeg_pixels.proofs.LaneSums.{halves_fit}
use Rattle.jpeg_pixels.proofs.ShortLanes.{kept_bits, paired_fits, turned_bits}
use Rattle.jpeg_pixels.proofs.short_block.complemented.Goals as goal

pub returns : goal.returns
returns c f g e =
    let fits = paired_fits c.args.pairs f g e (halves_fit c.args.pairs _ c.well_formed.0.1.1) in
    let a = λ (j : ℕ) (h : j < 8). kept_bits (f j) (fits j h).0 in
    let b = λ (j : ℕ) (h : j < 8). turned_bits (g j) (fits j h).1 in
    rw e (λ i. a 0 (lit< tt) i ∷ b 0 (lit< tt) i ∷ a 1 (lit< tt) i ∷ b 1 (lit< tt) i ∷ a 2 (lit< tt) i ∷ b 2 (lit< tt) i
    ∷ a 3 (lit< tt) i ∷ b 3 (lit< tt) i ∷ a 4 (lit< tt) i ∷ b 4 (lit< tt) i ∷ a 5 (lit< tt) i ∷ b 5 (lit< tt) i
    ∷ a 6 (lit< tt) i ∷ b 6 (lit< tt) i ∷ a 7 (lit< tt) i ∷ b 7 (lit< tt) i ∷ [])
