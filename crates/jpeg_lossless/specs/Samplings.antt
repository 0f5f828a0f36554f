-- How lines of components become lines of the picture, in the code's own words.
use Rattle.std.specs.Prelude.{◌≤◌, ℕ, ◌+◌, ◌*◌, ◌/◌, List, [], ◌∷◌, length}
use Rattle.jpeg_segments.specs.declared.frame.Component.{Component}
use Rattle.jpeg_lossless.specs.Pictures.{Layer}
use Rattle.jpeg_lossless.specs.declared.stretching.Sampling.{Sampling}

abbrev pub sampling_in : Component → Sampling
sampling_in c = record {
  horizontal = c.horizontal_sampling_factor;
  vertical = c.vertical_sampling_factor;
  width = c.size.width;
}

abbrev pub layer_in : Sampling → List ℕ → Layer
layer_in s plane =
    record { samples = plane; width = s.width; horizontal = s.horizontal; vertical = s.vertical }

unfoldable pub layers_in : List Sampling → List (List ℕ) → List Layer
layers_in (s ∷ samplings) (plane ∷ planes) = layer_in s plane ∷ layers_in samplings planes
layers_in _ _ = []

-- What line y of the picture takes of a component is there.
pub record HasLine (picture : Sampling) (y : ℕ) (l : Layer) : Type 0 where
  pub some : 1 ≤ l.horizontal
  pub most : l.horizontal ≤ picture.horizontal
  pub across : picture.width * l.horizontal ≤ l.width * picture.horizontal
  pub inside : y * l.vertical / picture.vertical * l.width + l.width ≤ length l.samples
