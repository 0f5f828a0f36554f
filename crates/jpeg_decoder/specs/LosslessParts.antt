-- What a lossless scan has of its components, by their indices in the frame.
use Rattle.std.specs.Prelude.{ℕ, Bool, true, false, List, [], ◌∷◌, get_or}
use Rattle.jpeg_bits.specs.Codes.{Table}
use Rattle.jpeg_segments.specs.Frame.{Component, Frame, ceiling, most_across, most_down}
use Rattle.jpeg_lossless.specs.Differences.{Part}

-- no component
abbrev pub no_component : Component
no_component = record {
  factors = record { identifier = 0; horizontal = 0; vertical = 0; quantization = 0 };
  scale = 0;
  width = 0;
  height = 0;
  blocks_wide = 0;
  blocks_high = 0;
}

abbrev pub factor_by : Bool → ℕ → ℕ
factor_by true factor = 1
factor_by false factor = factor

abbrev pub part_by : Bool → Component → Table → Part
part_by is_alone c table = record {
  table = table;
  across = factor_by is_alone c.factors.horizontal;
  down = factor_by is_alone c.factors.vertical;
  width = c.width;
  height = c.height;
}

unfoldable pub parts_at : Bool → List Component → List ℕ → List Table → List Part
parts_at is_alone components (index ∷ indices) (table ∷ tables) =
    part_by is_alone (get_or components index no_component) table
    ∷ parts_at is_alone components indices tables
parts_at is_alone components _ _ = []

-- the MCUs of a scan of the components at these indices, across and down
unfoldable pub mcus_wide : Frame → List ℕ → ℕ
mcus_wide frame (index ∷ []) = (get_or frame.components index no_component).width
mcus_wide frame indices = ceiling frame.width (most_across frame.components)

unfoldable pub mcus_high : Frame → List ℕ → ℕ
mcus_high frame (index ∷ []) = (get_or frame.components index no_component).height
mcus_high frame indices = ceiling frame.height (most_down frame.components)
