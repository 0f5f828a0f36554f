-- Samples by their positions (T.81, H.1.2.1).
use Rattle.std.specs.Prelude.{◌≡◌, ℕ, ◌-◌, ℤ, pos, List, [], ◌∷◌, length}
use Rattle.std.specs.Prelude.{slice_index, slice_index_or}
use Rattle.jpeg_bits.specs.declared.scan.Predictor.{Predictor}
use Rattle.jpeg_lossless.specs.Prediction.{sample_by, prediction}

-- the number in column x of line y
abbrev pub at_position : List (List ℕ) → ℕ → ℕ → ℕ
at_position lines x y = slice_index (slice_index_or lines y []) x

-- each line has n numbers
unfoldable pub AreEven : ℕ → List (List ℕ) → Type 0
AreEven n [] = Unit {0}
AreEven n (l ∷ lines) = (length l ≡ n) × AreEven n lines

-- The sample in column x of line y is predicted from its neighbours to the left, above, and above
-- and to the left.
abbrev pub predicted_at : Predictor → ℕ → List (List ℕ) → ℕ → ℕ → ℤ
predicted_at selection start lines x y =
    prediction selection start x y (pos (at_position lines (x - 1) y)) (pos (at_position lines x (y
    - 1)))
    (pos (at_position lines (x - 1) (y - 1)))

abbrev pub IsPredicted : Predictor → ℕ → List (List ℕ) → List (List ℕ) → ℕ → ℕ → Type 0
IsPredicted selection start lines differences x y =
    at_position lines x y
    ≡ sample_by (predicted_at selection start lines x y) (at_position differences x y)
