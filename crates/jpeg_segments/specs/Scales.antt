-- The scales that a picture can be made at. They are the decoder's own, not of T.81: an 8 by 8
-- block gives 1, 2, 4 or 8 samples a side, and the picture and each component are 1/8, 1/4, 1/2 or
-- all of their size.
use Rattle.std.specs.Prelude.{ℕ, ◌≡◌, ◌*◌, ◌==◌, nat_le, ◌||◌, Bool, true, [], ◌∷◌, map, find}
use Rattle.std.specs.Prelude.{unwrap_or}
use Rattle.jpeg_segments.specs.declared.frame.CodingProcess.{CodingProcess}
use Rattle.jpeg_segments.specs.declared.frame.CodingProcess.TheVariants.{Lossless}
use Rattle.jpeg_segments.specs.declared.scale.Scale.{Scale}
use Rattle.jpeg_segments.specs.declared.scale.Scale.TheVariants.{Eighth, Quarter, Half, Full}
use Rattle.jpeg_segments.specs.Frame.{Frame, Component, IsFrame, ceiling, greatest}

abbrev pub is_scale : ℕ → Bool
is_scale scale = scale == 1 || (scale == 2 || (scale == 4 || scale == 8))

-- the samples along a side of a block at each scale
abbrev pub block_side : Scale → ℕ
block_side Eighth = 1
block_side Quarter = 2
block_side Half = 4
block_side Full = 8

-- whether a picture of full size is at a scale as wide or as high as requested
abbrev pub reaches : ℕ → ℕ → ℕ → ℕ → ℕ → Bool
reaches scale full_width full_height width height =
    nat_le width (ceiling (full_width * scale) 8) || nat_le height (ceiling (full_height * scale) 8)

-- The least of 1, 2 and 4 at which the picture is as wide or as high as requested, or else 8.
unfoldable pub scale_for : ℕ → ℕ → ℕ → ℕ → ℕ
scale_for full_width full_height width height =
    unwrap_or (find (λ scale. reaches scale full_width full_height width height) (1 ∷ 2 ∷ 4 ∷ [])) 8

-- A component at a scale, in a frame of this width and height with these greatest factors.
unfoldable pub component_at : ℕ → ℕ → ℕ → ℕ → ℕ → Component → Component
component_at scale width height most_horizontal most_vertical c = record c {
  scale = scale;
  width = ceiling (width * c.factors.horizontal * scale) (most_horizontal * 8);
  height = ceiling (height * c.factors.vertical * scale) (most_vertical * 8);
}

-- a frame at a scale
unfoldable pub frame_at : ℕ → Frame → Frame
frame_at scale frame =
    let h = greatest (λ f. f.horizontal) (map (λ c. c.factors) frame.components) in
    let v = greatest (λ f. f.vertical) (map (λ c. c.factors) frame.components) in
    record frame {
      output_width = ceiling (frame.width * scale) 8;
      output_height = ceiling (frame.height * scale) 8;
      components = map (component_at scale frame.width frame.height h v) frame.components;
    }

-- A frame whose picture is to be at a scale. A lossless frame keeps its size.
abbrev pub scaled_by : CodingProcess → ℕ → Frame → Frame
scaled_by Lossless scale frame = frame
scaled_by _ scale frame = frame_at scale frame

abbrev pub scaled : Scale → Frame → Frame
scaled scale frame = scaled_by frame.process (block_side scale) frame

-- A frame whose picture is to be at least that wide or that high.
abbrev pub sized : ℕ → ℕ → Frame → Frame
sized width height frame =
    scaled_by frame.process (scale_for frame.width frame.height width height) frame

-- ---- what each frame of a decoder has

-- A frame that a header gives, at one of the scales.
pub record IsSizedFrame (f : Frame) : Type 0 where
  pub full : Frame
  pub scale : ℕ
  pub is_read : IsFrame full
  pub is_scale : is_scale scale ≡ true
  pub made : f ≡ frame_at scale full
