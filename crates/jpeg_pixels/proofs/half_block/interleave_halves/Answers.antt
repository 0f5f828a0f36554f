use Rattle.std.proofs.Common.{[], ◌∷◌, lit<, rules}
use Rattle.std.specs.Int.{w32}
use Rattle.jpeg_pixels.proofs.LaneSums.{joined_left, joined_right, lanes_are}
use Rattle.jpeg_pixels.proofs.half_block.interleave_halves.Goals as goal

pub returns : goal.returns
returns c =
    let a = c.args.a in
    let b = c.args.b in
    let la = lanes_are a _ (search rules) c.well_formed.0.1.1 in
    let lb = lanes_are b _ (search rules) c.well_formed.1.0.1.1 in
    let l = joined_left w32 a b la in
    let r = joined_right w32 a b la lb in
    record {
      first = λ i. l 0 (lit< tt) i ∷ r 0 (lit< tt) i ∷ l 1 (lit< tt) i ∷ r 1 (lit< tt) i
          ∷ l 4 (lit< tt) i ∷ r 4 (lit< tt) i ∷ l 5 (lit< tt) i ∷ r 5 (lit< tt) i ∷ [];
      last = λ i. l 2 (lit< tt) i ∷ r 2 (lit< tt) i ∷ l 3 (lit< tt) i ∷ r 3 (lit< tt) i
          ∷ l 6 (lit< tt) i ∷ r 6 (lit< tt) i ∷ l 7 (lit< tt) i ∷ r 7 (lit< tt) i ∷ [];
    }
