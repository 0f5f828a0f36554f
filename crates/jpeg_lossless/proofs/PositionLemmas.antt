-- Samples by their indices.
use Rattle.std.proofs.lemmas.Grind.{common_steps}
use Rattle.std.proofs.Common.{◌≡◌, ℕ, zero, suc, ◌-◌, ◌<◌, ℤ, pos, List, []}
use Rattle.std.proofs.Common.{◌∷◌, length, slice_index, arith, refl, sym, rules, ◌∙◌}
use Rattle.jpeg_bits.specs.declared.scan.Predictor.{Predictor}
use Rattle.jpeg_lossless.specs.Prediction.{sample_by, selected, prediction, first_line, line_rest}
use Rattle.jpeg_lossless.specs.Prediction.{line_below, lines_below}
use Rattle.jpeg_lossless.specs.Positions.{at_position, AreEven, IsPredicted}
use Rattle.jpeg_lossless.proofs.LineSums.{length-below, length-top}
use Rattle.std.proofs.lemmas.Bool.Decides.{nat_tests}

rest-at : (selection : Predictor) (a c : ℕ) (above ds : List ℕ) (x : ℕ) → length above ≡ length ds → x < length ds
    → slice_index (line_rest selection a c above ds) x
    ≡ sample_by (selected selection (pos (slice_index (a ∷ line_rest selection a c above ds) x))
    (pos (slice_index above x)) (pos (slice_index (c ∷ above) x))) (slice_index ds x)
unfolding line_rest
rest-at selection a c [] [] x l h = absurd (omega arith)
rest-at selection a c [] (d ∷ ds) x l h = absurd (omega arith)
rest-at selection a c (b ∷ above) [] x l h = absurd (omega arith)
rest-at selection a c (b ∷ above) (d ∷ ds) zero l h = refl
rest-at selection a c (b ∷ above) (d ∷ ds) (suc x) l h
    = rest-at selection (sample_by (selected selection (pos a) (pos b) (pos c)) d) b above ds x (omega arith)
    (omega arith)

first-at : (a : ℕ) (ds : List ℕ) (x : ℕ) → x < length ds → slice_index (first_line a ds) x
    ≡ sample_by (pos (slice_index (a ∷ first_line a ds) x)) (slice_index ds x)
unfolding first_line
first-at a [] x h = absurd (omega arith)
first-at a (d ∷ ds) zero h = refl
first-at a (d ∷ ds) (suc x) h = first-at (sample_by (pos a) d) ds x (omega arith)

-- a line below another
below-at : (selection : Predictor) (start : ℕ) (above ds : List ℕ) (x y : ℕ) → length above ≡ length ds → x < length ds
    → slice_index (line_below selection start above ds) x
    ≡ sample_by (prediction selection start x (suc y)
    (pos (slice_index (line_below selection start above ds) (x - 1))) (pos (slice_index above x))
    (pos (slice_index above (x - 1)))) (slice_index ds x)
unfolding line_below prediction
below-at selection start above ds x y h1 h2 = grind (arith, nat_tests, rest-at)

top-at : (selection : Predictor) (start : ℕ) (ds : List ℕ) (x : ℕ) (b c : ℤ) → x < length ds
    → slice_index (line_below selection start [] ds) x
    ≡ sample_by (prediction selection start x 0 (pos (slice_index (line_below selection start [] ds) (x - 1))) b
    c) (slice_index ds x)
unfolding line_below prediction
top-at selection start ds x b c h1 = search (rules, first-at)

-- lines below one; with that one in front, the line above line y is at y
lines-at : (selection : Predictor) (start n : ℕ) (above : List ℕ) (ds : List (List ℕ)) (x y k : ℕ)
    → length above ≡ n → AreEven n ds → y < length ds → x < n
    → at_position (lines_below selection start above ds) x y
    ≡ sample_by (prediction selection start x (suc k)
    (pos (at_position (lines_below selection start above ds) (x - 1) y))
    (pos (at_position (above ∷ lines_below selection start above ds) x y))
    (pos (at_position (above ∷ lines_below selection start above ds) (x - 1) y))) (at_position ds x
    y)
unfolding lines_below AreEven
lines-at selection start n above [] x y k l e h w = absurd (omega arith)
lines-at selection start n above (d ∷ ds) x zero k l e h w = grind (arith, common_steps, below-at)
lines-at selection start n above (d ∷ ds) x (suc y) k l e h w =
    grind (arith, common_steps, length-below, lines-at selection start n (line_below selection start above d) ds x y k (length-below selection start above d (l ∙ sym e.0) ∙ e.0) e.1 (omega arith) w)

pub predicted_at : (selection : Predictor) (start n : ℕ) (ds : List (List ℕ)) (x y : ℕ) → AreEven n ds
    → y < length ds → x < n → IsPredicted selection start (lines_below selection start [] ds) ds x y
unfolding lines_below AreEven
predicted_at selection start n [] x y e h w = absurd (omega arith)
predicted_at selection start n (d ∷ ds) x zero e h w = top-at selection start d x _ _ (omega (arith, e.0))
predicted_at selection start n (d ∷ ds) x (suc y) e h w = search (rules, length-top, lines-at)
