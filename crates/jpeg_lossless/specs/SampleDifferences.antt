-- The differences of samples (T.81, H.1.2.1): each sample less its prediction. A law says that
-- these give the samples back.
use Rattle.std.specs.Prelude.{◌≡◌, ℕ, ◌<◌, List, [], ◌∷◌, length, pos, ℤ, ◌-ℤ◌}
use Rattle.jpeg_bits.specs.declared.scan.Predictor.{Predictor}
use Rattle.jpeg_lossless.specs.Prediction.{residue, selected}

-- a sample less its prediction, modulo 2 ^ 16
abbrev pub difference_by : ℤ → ℕ → ℕ
difference_by p x = residue (pos x -ℤ p)

-- The differences of an interval's first line, or of its rest. The sample before is a, and for the
-- whole line the prediction of the first sample.
unfoldable pub first_differences : ℕ → List ℕ → List ℕ
first_differences a [] = []
first_differences a (x ∷ xs) = difference_by (pos a) x ∷ first_differences x xs

-- The differences of the rest of any other line, below the rest of the line above. The sample
-- before is a, and the one above that is c.
unfoldable pub rest_differences : Predictor → ℕ → ℕ → List ℕ → List ℕ → List ℕ
rest_differences selection a c (b ∷ above) (x ∷ xs) =
    difference_by (selected selection (pos a) (pos b) (pos c)) x
    ∷ rest_differences selection x b above xs
rest_differences selection a c _ _ = []

-- the differences of a line below another, which is empty for an interval's first
unfoldable pub differences_below : Predictor → ℕ → List ℕ → List ℕ → List ℕ
differences_below selection start [] xs = first_differences start xs
differences_below selection start (b ∷ above) [] = []
differences_below selection start (b ∷ above) (x ∷ xs) =
    difference_by (pos b) x ∷ rest_differences selection x b above xs

-- the differences of the lines of an interval below one, which is empty for the first
unfoldable pub differences_of : Predictor → ℕ → List ℕ → List (List ℕ) → List (List ℕ)
differences_of selection start above [] = []
differences_of selection start above (line ∷ more) =
    differences_below selection start above line ∷ differences_of selection start line more

-- samples of 16 bits
abbrev pub AreSamples : List ℕ → Type 0
AreSamples [] = Unit {0}
AreSamples (x ∷ xs) = (x < 65536) × AreSamples xs

-- lines of n samples each
abbrev pub AreLines : ℕ → List (List ℕ) → Type 0
AreLines n [] = Unit {0}
AreLines n (l ∷ lines) = ((length l ≡ n) × AreSamples l) × AreLines n lines
