use Rattle.std.proofs.Common.{ℕ, ◌<◌, ◌∙◌, [], ◌∷◌, rules, lit<}
use Rattle.std.specs.Int.{w16}
use Rattle.jpeg_pixels.proofs.LaneSums.{pairs_joined, halves_are, lane-lanes}
use Rattle.jpeg_pixels.proofs.short_block.turned_pairs.Goals as goal

pub returns : goal.returns
returns c f numbers =
    let rows = c.args.rows in
    let t = c.well_formed.0.1.1 in
    let l0 = halves_are rows.r0 _ (search rules) t.0.1.1 in
    let l1 = halves_are rows.r1 _ (search rules) t.1.0.1.1 in
    let l2 = halves_are rows.r2 _ (search rules) t.1.1.0.1.1 in
    let l3 = halves_are rows.r3 _ (search rules) t.1.1.1.0.1.1 in
    let l4 = halves_are rows.r4 _ (search rules) t.1.1.1.1.0.1.1 in
    let l5 = halves_are rows.r5 _ (search rules) t.1.1.1.1.1.0.1.1 in
    let l6 = halves_are rows.r6 _ (search rules) t.1.1.1.1.1.1.0.1.1 in
    let l7 = halves_are rows.r7 _ (search rules) t.1.1.1.1.1.1.1.0.1.1 in
    let pairs = pairs_joined w16 l0 l1 l2 l3 l4 l5 l6 l7 in
    let n0 = λ (k : ℕ) (h : k < 8). lane-lanes rows.r0 (f 0) numbers.r0 k h in
    let n1 = λ (k : ℕ) (h : k < 8). lane-lanes rows.r1 (f 1) numbers.r1 k h in
    let n2 = λ (k : ℕ) (h : k < 8). lane-lanes rows.r2 (f 2) numbers.r2 k h in
    let n3 = λ (k : ℕ) (h : k < 8). lane-lanes rows.r3 (f 3) numbers.r3 k h in
    let n4 = λ (k : ℕ) (h : k < 8). lane-lanes rows.r4 (f 4) numbers.r4 k h in
    let n5 = λ (k : ℕ) (h : k < 8). lane-lanes rows.r5 (f 5) numbers.r5 k h in
    let n6 = λ (k : ℕ) (h : k < 8). lane-lanes rows.r6 (f 6) numbers.r6 k h in
    let n7 = λ (k : ℕ) (h : k < 8). lane-lanes rows.r7 (f 7) numbers.r7 k h in
    let both = λ (j k : ℕ) (hj : j < 8) (hk : k < 8). pairs j k hj hk ∙ (λ i.
    n0 j hj i ∷ n0 k hk i ∷ n1 j hj i ∷ n1 k hk i ∷ n2 j hj i ∷ n2 k hk i ∷ n3 j hj i ∷ n3 k hk i
    ∷ n4 j hj i ∷ n4 k hk i ∷ n5 j hj i ∷ n5 k hk i ∷ n6 j hj i ∷ n6 k hk i ∷ n7 j hj i ∷ n7 k hk i ∷ []) in
    record {
      p04 = both 0 4 (lit< tt) (lit< tt);
      p15 = both 1 5 (lit< tt) (lit< tt);
      p26 = both 2 6 (lit< tt) (lit< tt);
      p37 = both 3 7 (lit< tt) (lit< tt);
    }
