-- Pictures as lines, and what is asked of planes that stand apart (own to the decoder).
use Rattle.std.specs.Prelude.{◌≡◌, ℕ, ◌*◌, ◌≤◌, List, map, length, take, drop}
use Rattle.std.specs.List.{range_with_len}
use Rattle.jpeg_pixels.specs.declared.color_convert.ColorConvert.{ColorConvert}
use Rattle.jpeg_pixels.specs.declared.joint_planes.JointShape.{JointShape}
use Rattle.jpeg_pixels.specs.JointPlanes.{joint_line}
use Rattle.jpeg_pixels.specs.Pictures.{AllCover, Source, picture_line}
use Rattle.jpeg_pixels.specs.PicturesView.{IsFor}

-- the first samples of the first lines of a plane with lines of a stride
abbrev pub cropped_lines : ℕ → ℕ → ℕ → List ℕ → List (List ℕ)
cropped_lines stride width height plane =
    map (λ row. take width (drop (row * stride) plane)) (range_with_len 0 height)

-- the lines of a picture of planes that stand apart
abbrev pub upsampled_lines : ColorConvert → List Source → List (List ℕ) → ℕ → ℕ → List (List ℕ)
upsampled_lines convert sources planes width height =
    map (picture_line convert sources planes width) (range_with_len 0 height)

-- and of planes in one buffer
abbrev pub joint_lines : ColorConvert → JointShape → ℕ → List ℕ → ℕ → List (List ℕ)
joint_lines convert shape width samples height =
    map (joint_line convert shape width samples) (range_with_len 0 height)

-- Planes that stand apart cover a picture within the sizes of frames, with a conversion for them.
pub record AreUpsampled (convert : ColorConvert) (sources : List Source) (planes : List (List ℕ))
    (width height : ℕ) : Type 0 where
  pub most : length sources ≤ 4
  pub wide : width ≤ 65535
  pub high : height ≤ 65535
  pub count : length planes ≡ length sources
  pub cover : AllCover sources planes width height
  pub fits : IsFor (length sources) convert
