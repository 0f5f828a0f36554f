-- The sampling factors of the components of a frame.
use Rattle.std.specs.Prelude.{ℕ, ◌+◌, ◌*◌, ◌%◌, List, [], ◌∷◌}
use Rattle.jpeg_segments.specs.Frame.{Component}

-- those of a component, each in four bits, as a frame header has them (T.81, B.2.2)
abbrev pub factors_byte : Component → ℕ
factors_byte c = 16 * (c.factors.horizontal % 16) + c.factors.vertical % 16

-- those of the components of a picture, of which there are one, three or four
abbrev pub sampling_of : List Component → List ℕ
sampling_of (a ∷ []) = factors_byte a ∷ 0 ∷ 0 ∷ 0 ∷ []
sampling_of (a ∷ b ∷ c ∷ []) = factors_byte a ∷ factors_byte b ∷ factors_byte c ∷ 0 ∷ []
sampling_of (a ∷ b ∷ c ∷ d ∷ []) =
    factors_byte a ∷ factors_byte b ∷ factors_byte c ∷ factors_byte d ∷ []
sampling_of _ = 0 ∷ 0 ∷ 0 ∷ 0 ∷ []
