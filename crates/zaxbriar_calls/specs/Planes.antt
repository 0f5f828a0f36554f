-- The sizes of the planes of a picture: of each of its components, at the component's own size
-- (T.81, A.1.1).
use Rattle.std.specs.Prelude.{ℕ, ◌+◌, ◌*◌, List, [], ◌∷◌}
use Rattle.jpeg_decoder.specs.Bytes.{bytes_a_sample}
use Rattle.jpeg_segments.specs.Frame.{Component}
use Rattle.zaxbriar_calls.specs.declared.extents.Extent.{Extent}
use Rattle.zaxbriar_calls.specs.declared.extents.Extent.TheVariants.{Planes}
use Rattle.zaxbriar_calls.specs.declared.planes.PlaneSizes.{PlaneSizes}

-- a number of each of the components of a picture, of which there are one, three or four, and 0 for
-- those that it doesn't have
abbrev pub of_each : (Component → ℕ) → List Component → List ℕ
of_each number (a ∷ []) = number a ∷ 0 ∷ 0 ∷ 0 ∷ []
of_each number (a ∷ b ∷ c ∷ []) = number a ∷ number b ∷ number c ∷ 0 ∷ []
of_each number (a ∷ b ∷ c ∷ d ∷ []) = number a ∷ number b ∷ number c ∷ number d ∷ []
of_each number _ = 0 ∷ 0 ∷ 0 ∷ 0 ∷ []

-- the widths and the heights of their planes
abbrev pub widths_of : List Component → List ℕ
widths_of components = of_each (λ c. c.width) components

abbrev pub heights_of : List Component → List ℕ
heights_of components = of_each (λ c. c.height) components

-- how many samples they have together
abbrev pub samples_of : List Component → ℕ
samples_of (a ∷ []) = a.width * a.height
samples_of (a ∷ b ∷ c ∷ []) = a.width * a.height + b.width * b.height + c.width * c.height
samples_of (a ∷ b ∷ c ∷ d ∷ []) =
    a.width * a.height + b.width * b.height + c.width * c.height + d.width * d.height
samples_of _ = 0

-- the sizes of the planes of components whose samples have this precision
abbrev pub planes_of_components : List Component → ℕ → PlaneSizes
planes_of_components components precision = record {
  width = widths_of components;
  height = heights_of components;
  size = samples_of components * bytes_a_sample precision;
}

-- the bytes of what is asked for: those of a picture, or of its planes
abbrev pub bytes_asked : Extent → ℕ → ℕ → ℕ
bytes_asked Planes picture planes = planes
bytes_asked _ picture planes = picture
