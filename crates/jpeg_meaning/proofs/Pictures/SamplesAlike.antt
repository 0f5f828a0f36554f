-- The picture of samples goes by the precision, the size and the sampling factors of a frame.
use Rattle.std.proofs.Common.{◌≡◌, ℕ, ◌*◌, ◌/◌, max, List, [], ◌∷◌, map, refl, sym, ap, ap₂, ◌∙◌, ◌+◌}
use Rattle.std.specs.List.{concat, enumerate_from, range_with_len}
use Rattle.jpeg_segments.specs.Frame.{Component, Factors, Frame, greatest}
use Rattle.jpeg_lossless.specs.Pictures.{picture_by_samples, pixel_of, sample_bytes}
use Rattle.jpeg_lossless.specs.Positions.{at_position}
use Rattle.jpeg_meaning.specs.FrameSamples.{sampling_of}
use Rattle.jpeg_meaning.specs.WrittenLossless.{picture_of_samples, Samples}

-- the greatest of some sampling factors, and a picture by them
abbrev largest : (ℕ × ℕ → ℕ) → List (ℕ × ℕ) → ℕ
largest of [] = 1
largest of (f ∷ fs) = max (of f) (largest of fs)

abbrev bytes_by : ℕ → ℕ → ℕ → Samples → ℕ → ℕ → ℕ × (ℕ × ℕ) → List ℕ
bytes_by precision most_h most_v samples y x f =
    sample_bytes precision (at_position (samples f.0) (x * f.1.0 / most_h) (y * f.1.1 / most_v))

picture_by : ℕ → ℕ → ℕ → List (ℕ × ℕ) → Samples → List ℕ
picture_by precision width height fs samples =
    concat (map (λ y. concat (map (λ x. concat (map (bytes_by precision (largest (λ f. f.0) fs)
    (largest (λ f. f.1) fs) samples y x) (enumerate_from 0 fs))) (range_with_len 0 width)))
    (range_with_len 0 height))

as-largest : (of : Factors → ℕ) (by : ℕ × ℕ → ℕ) → ((c : Component) → by (sampling_of c) ≡ of c.factors)
    → (cs : List Component) → largest by (map sampling_of cs) ≡ greatest of (map (λ c. c.factors) cs)
as-largest of by e [] = refl
as-largest of by e (c ∷ cs) = ap₂ (λ (a b : ℕ). max a b) (e c) (as-largest of by e cs)

enumerated : (f : ℕ × (ℕ × ℕ) → List ℕ) (index : ℕ) (cs : List Component)
    → map f (enumerate_from index (map sampling_of cs))
    ≡ map (λ c. f (c.0, sampling_of c.1)) (enumerate_from index cs)
enumerated f index [] = refl
enumerated f index (c ∷ cs) = ap (λ l. f (index, sampling_of c) ∷ l) (enumerated f (index + 1) cs)

by-sampling : (f : Frame) (samples : Samples)
    → picture_by f.precision f.width f.height (map sampling_of f.components) samples ≡ picture_of_samples f samples
unfolding picture_by picture_of_samples picture_by_samples pixel_of
by-sampling f samples =
    let across = as-largest (λ c. c.horizontal) (λ s. s.0) (λ c. refl) f.components in
    let down = as-largest (λ c. c.vertical) (λ s. s.1) (λ c. refl) f.components in
    (λ i. concat (map (λ y. concat (map (λ x. concat (enumerated (bytes_by f.precision (across i) (down i) samples y x)
    0 f.components i)) (range_with_len 0 f.width))) (range_with_len 0 f.height)))

pub pictures-alike : (f g : Frame) (samples : Samples) → f.precision ≡ g.precision → f.width ≡ g.width
    → f.height ≡ g.height → map sampling_of f.components ≡ map sampling_of g.components
    → picture_of_samples f samples ≡ picture_of_samples g samples
pictures-alike f g samples p w h e =
    sym (by-sampling f samples) ∙ (λ i. picture_by (p i) (w i) (h i) (e i) samples) ∙ by-sampling g samples
